-- `working::Session::begin_two` meets its contract: a table of an even number of words is none, and any other is two tables and a circuit.
use Prim.Native.Nat.{◌*◌, ◌/◌, ◌-◌}
use mathlib.Core.Path.{◌≡◌, ◌∙◌}
use native.Mathlib.Omega.{arith}
use lib.ListN.{length}
use Rattle.working.proofs.Both.{two_even, two_odd, two_begin, two_refuse, begun_two}
use Rattle.working.proofs.Session.begin_two.Goals as goal
use Rattle.working.proofs.Session.begin_two.Goals.{After-start_rows-begun}

-- what is started is the two tables over the circuit
started : (c : After-start_rows-begun) → c.start_rows-begun.result ≡ begun_two c.args.table.now c.args.stamp
started c =
    let l = c.args.table.now in
    let span : length l / 2 * 2 - length l / 2 ≡ length l / 2 = omega arith in
    c.start_rows-begun.ensures ∙ rw (span, c.circuit_of-circuit.ensures) (two_odd l c.args.stamp c.if-table-ne1.false)

pub returns-then-table-ne1 : goal.returns-then-table-ne1
returns-then-table-ne1 c = two_even c.args.table.now c.args.stamp c.if-table-ne1.true

pub returns-then-begun-ne-TAKEN : goal.returns-then-begun-ne-TAKEN
returns-then-begun-ne-TAKEN c = two_refuse c.args.table.now c.args.stamp _ (started (goal.at.returns-then-begun-ne-TAKEN c).After-start_rows-begun) c.if-begun-ne-TAKEN.true

pub returns : goal.returns
returns c = rw c.circuit_of-circuit.ensures (two_begin c.args.table.now c.args.stamp _ (started (goal.at.returns c).After-start_rows-begun) c.if-begun-ne-TAKEN.false)
