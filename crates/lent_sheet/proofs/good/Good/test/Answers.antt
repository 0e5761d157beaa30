-- `lent_sheet::good::Good::test` meets its contract: what was tested keeps what a reader needs.
use Rattle.sheet.proofs.Refusals.{passes_as}
use Rattle.sheet.proofs.Rooms.{kept}
use Rattle.lent_sheet.proofs.good.Good.test.Goals as goal

pub invariant_of-result : goal.invariant_of-result
invariant_of-result c = kept c.args.most c.args.bytes.now (passes_as _ c.in_ok-test_up_to.ensures)
