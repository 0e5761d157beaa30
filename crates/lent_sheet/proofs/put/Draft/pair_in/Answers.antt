-- `put::Draft::pair_in` meets its contract: up to the last event its word and stamp, and zeros past it.
use Rattle.std.proofs.Common.{◌+◌, ◌*◌, ◌<◌, ◌≤◌, length, sym, ◌∙◌, arith}
use Rattle.sheet.specs.Sheet.{held}
use Rattle.sheet.specs.Puts.{events_only}
use Rattle.sheet.proofs.BlockWords.{events-word, events-stamp, events-zero}
use Rattle.sheet.proofs.Fields.{each, fields, below_at}
use Rattle.lent_sheet.proofs.put.Draft.pair_in.Goals as goal

pub pack-word-requires : goal.pack-word-requires
pack-word-requires c = let f = fields _ (each c.args.self.now.events.now c.args.self.now.in_fields (c.args.c * 60 + c.args.j) (omega arith)) in
    (f.number, (f.post, (f.answer, rw c.word_or_zero.ensures (below_at 2 c.args.self.now.on.now c.args.self.now.on_tracks (omega arith) _))))

pub returns-then-j-held_in : goal.returns-then-j-held_in
returns-then-j-held_in c = let a = c.args in
    let t = events_only a.self.now.events.now a.self.now.on.now in
    let l : a.j < held (length a.self.now.events.now) a.c = omega (arith, c.held_in.ensures) in
    record { word = c.pack-word.ensures ∙ rw c.word_or_zero.ensures (sym (events-word t a.c a.j l)); stamp = sym (events-stamp t a.c a.j l) }

pub returns : goal.returns
returns c = let a = c.args in
    let t = events_only a.self.now.events.now a.self.now.on.now in
    let l : held (length a.self.now.events.now) a.c ≤ a.j = omega (arith, c.held_in.ensures) in
    record { word = sym (events-zero t a.c (1 + a.j * 2) (omega arith)); stamp = sym (events-zero t a.c (2 + a.j * 2) (omega arith)) }
