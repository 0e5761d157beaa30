-- `working::Session::begin_one` meets its contract.
use Rattle.working.proofs.Both.{one_begin, one_refuse}
use Rattle.working.proofs.Session.begin_one.Goals as goal

pub returns-then-begun-ne-TAKEN : goal.returns-then-begun-ne-TAKEN
returns-then-begun-ne-TAKEN c = one_refuse c.args.kinds.now c.args.stamp _ c.start_row-begun.ensures c.if-begun-ne-TAKEN.true

pub returns : goal.returns
returns c = rw (c.circuit_of.ensures, c.no_row.ensures) (one_begin c.args.kinds.now c.args.stamp _ c.start_row-begun.ensures c.if-begun-ne-TAKEN.false)
