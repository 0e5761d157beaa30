-- `lent_sheet::good::Good::table` meets its contract: what is stored stands before what was there.
use Rattle.std.proofs.Common.{◌≡◌, sym, refl, ◌∙◌, zero-add, arith}
use Rattle.sheet.proofs.Tabs.{front_none, front_more}
use Rattle.relay.proofs.Tests.{tests}
use Rattle.lent_sheet.proofs.good.Good.table.Invariants.{kind}
use Rattle.lent_sheet.proofs.good.Good.table.Goals as goal

pub loop-i-init : goal.loop-i-init
loop-i-init c = (refl, sym (front_none (kind _) _))

pub loop-i-preserved : goal.loop-i-preserved
loop-i-preserved c = let s = c.args.self.now in
    let seen : c.self.inside.bytes.now ≡ s = c.self.view_is in
    let word : c.get_word.result ≡ kind s c.loop-i.i = c.get_word.ensures ∙ rw (seen, zero-add) in
    (search tests, rw (word, c.loop-i.invariant.1) (front_more (kind s) 0 c.loop-i.i _ (omega arith)))
