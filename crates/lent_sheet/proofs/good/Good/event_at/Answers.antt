-- `lent_sheet::good::Good::event_at` meets its contract: the event's word has no upper bits.
use Rattle.std.proofs.Common.{◌≡◌, ◌+◌, ◌*◌, ◌/◌, ◌%◌, ap, ◌∙◌, arith}
use Rattle.sheet.specs.Words.{word_at}
use Rattle.sheet.specs.Check.{word}
use Rattle.sheet.proofs.Packing.{told-fields, told_some}
use Rattle.lent_sheet.proofs.good.Good.event_at.Goals as goal

pub unwrap-event-requires : goal.unwrap-event-requires
unwrap-event-requires c = let seen : c.self.inside.bytes.now ≡ c.args.self.now = c.self.view_is in
    told_some _ _ _ c.unpack.ensures (rw (c.get_word-tracks.ensures, c.get_word.ensures) (c.self.invariant.no_upper c.args.i (rw seen c.requires)))

pub returns-clause-event : goal.returns-clause-event
returns-clause-event c = let s = c.self.inside.bytes.now in
    let i = c.args.i in
    let seen : s ≡ c.args.self.now = c.self.view_is in
    let next : (1 + i / 60) * 512 + (1 + i % 60 * 2) * 4 + 4 ≡ (1 + i / 60) * 512 + (2 + i % 60 * 2) * 4 = omega arith in
    let t : c.get_word-stamp.result ≡ word s (1 + i / 60) (2 + i % 60 * 2) = c.get_word-stamp.ensures ∙ ap (word_at s) next in
    let f = told-fields _ _ _ c.unpack.ensures _ c.unwrap-event.ensures in
    rw (← seen, f.1, f.2, f.3, c.get_word.ensures, t)

pub returns-clause-track : goal.returns-clause-track
returns-clause-track c = let seen : c.self.inside.bytes.now ≡ c.args.self.now = c.self.view_is in
    let f = told-fields _ _ _ c.unpack.ensures _ c.unwrap-event.ensures in
    rw (← seen, f.4, c.get_word.ensures)
