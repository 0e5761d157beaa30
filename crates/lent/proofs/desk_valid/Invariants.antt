-- What is left of the pass decides as the whole pass does.
use Rattle.std.proofs.Common.{◌≡◌, ◌-◌, drop, length}
use Rattle.line.specs.Pass.{pairs}
use Rattle.lent.proofs.desk_valid.Given as goal

abbrev pub invariant-loop-j : goal.invariant-loop-j
invariant-loop-j l = pairs (length l.row) (l.j - 1) l.s.taken (drop (l.j - 1) l.row) ≡ pairs (length l.row) 0 l.s.taken l.row
