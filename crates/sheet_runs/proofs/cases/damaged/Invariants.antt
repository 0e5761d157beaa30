-- `sheet_runs::cases::damaged` is safe: at most one block is counted a turn.
use Rattle.std.proofs.Common.{◌≤◌}
use Rattle.sheet_runs.proofs.cases.damaged.Given as goal

abbrev pub invariant-loop-b : goal.invariant-loop-b
invariant-loop-b g l = l.right ≤ l.b
