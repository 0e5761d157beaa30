-- `put::Draft::write` meets its contract: each refusal comes before the first store, and block 0 and then the event blocks are the whole sheet.
use Rattle.std.proofs.Common.{◌≡◌, ◌+◌, ◌/◌, ◌++◌, length, drop, sym, refl, ◌∙◌, arith}
use Rattle.sheet.specs.Sheet.{encode_tracked}
use Rattle.sheet.specs.Writing.{bytes_for}
use Rattle.sheet.proofs.Puts.{puts_none}
use Rattle.sheet.proofs.Laid.{block_more, laid, too_many, no_room, wrote}
use Rattle.lent_sheet.proofs.put.Draft.write.Invariants.{sheetOf}
use Rattle.lent_sheet.proofs.put.Draft.write.Goals as goal

pub returns-then-m-gt-MOST_ENTRIES-clause-written : goal.returns-then-m-gt-MOST_ENTRIES-clause-written
returns-then-m-gt-MOST_ENTRIES-clause-written c = too_many (sheetOf c.args.self.now.tracks c.args.self.now.stamp c.args.self.now.table.now c.args.self.now.events.now c.args.self.now.on.now) c.args.out.now (omega arith)

pub returns-then-out-n-clause-written : goal.returns-then-out-n-clause-written
returns-then-out-n-clause-written c = no_room (sheetOf c.args.self.now.tracks c.args.self.now.stamp c.args.self.now.table.now c.args.self.now.events.now c.args.self.now.on.now) c.args.out.now (omega arith) (omega arith)

pub loop-c-init : goal.loop-c-init
loop-c-init c = (refl, sym (puts_none _ _ _))

pub loop-c-preserved : goal.loop-c-preserved
loop-c-preserved c = (
  c.block.auto.out ∙ c.loop-c.invariant.0,
  c.block.ensures ∙ rw c.loop-c.invariant.1 (block_more (sheetOf c.args.self.now.tracks c.args.self.now.stamp c.args.self.now.table.now c.args.self.now.events.now c.args.self.now.on.now) c.loop-c.c _),
)

pub returns-clause-written : goal.returns-clause-written
returns-clause-written c = let t = sheetOf c.args.self.now.tracks c.args.self.now.stamp c.args.self.now.table.now c.args.self.now.events.now c.args.self.now.on.now in
    let d = c.args.out.now in
    let n = (length t.events + 59) / 60 in
    let i : c.loop-c.c ≡ n = omega arith in
    let o : c.loop-c.out ≡ encode_tracked t ++ drop (bytes_for (length t.events)) d =
    c.loop-c.invariant.1 ∙ rw (i, c.head.ensures) (laid t n d (omega arith) (omega arith)) in
    let w = wrote t d (omega arith) (omega arith) in
    (w.0, o ∙ w.1)
