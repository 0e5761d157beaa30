-- The place of a field in its record: past the sixth they are all one.
-- Assumes nothing.
use Prim.Native.Nat.{ℕ, ◌+◌, min}
use mathlib.Core.Path.{◌≡◌}
use native.Mathlib.Omega.{arith}
use borrow.Author.Tests.{lt-ltb}
use Rattle.relay.proofs.Truth.{least_or_below}
use Rattle.importing.specs.Steps.{place_next}

pub place_more : (n : ℕ) → place_next (min 6 n) ≡ min 6 (n + 1)
unfolding place_next
place_more n = least_or_below 6 n (λ h. let e : min 6 n ≡ 6 = omega arith in rw e (omega arith)) (λ h. let e : min 6 n ≡ n = omega arith in rw (e, lt-ltb n 6 h) (omega arith))
