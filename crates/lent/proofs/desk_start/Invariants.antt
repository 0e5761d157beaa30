-- The fresh posts of the kinds that are left, still to be stored over the row, make the fresh line.
use Rattle.std.proofs.Common.{◌≡◌, drop}
use Rattle.std.proofs.Math.Seq.{sets}
use Rattle.relay.specs.Line.{fresh_line}
use Rattle.lent.proofs.desk_start.Given as goal

abbrev pub invariant-loop-i : goal.invariant-loop-i
invariant-loop-i l = sets l.row l.i (fresh_line (drop l.i l.kinds)) ≡ fresh_line l.kinds
