-- `digits::size_of` meets its contract: what was counted and the digits of the rest are one more than the digits of the number, since a tenth has one less.
use Prim.Native.Nat.{◌+◌}
use mathlib.Core.Path.{◌≡◌}
use lib.ListN.{length}
use Rattle.digits.specs.Digits.{digits}
use Rattle.digits.proofs.size_of.Given as goal

abbrev pub invariant-loop-rest : goal.invariant-loop-rest
invariant-loop-rest l = l.size + length (digits l.rest) ≡ length (digits l.n) + 1

abbrev pub decreases-loop-rest : goal.decreases-loop-rest
decreases-loop-rest l = l.rest
