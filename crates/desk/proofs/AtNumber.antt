-- The position that a mark says: the number that it is, less 1, exactly where that has 32 bits.
-- Assumes nothing.
use Prim.Native.Nat.{ℕ, suc, ◌-◌, ◌^◌, ◌<◌}
use mathlib.Core.Path.{◌≡◌, ap}
use native.Mathlib.Omega.{arith}
use borrow.Author.Tests.{le-leb, leb-true, ne_eqb, eqb-false}
use lib.Dec.{eqb, leb}
use Rattle.relay.proofs.Truth.{split}
use Rattle.desk.specs.Words.{position_at}
use Rattle.std.proofs.Common.{Some, None}

-- no text says a position and none
not_both : (n : ℕ) → None ≡ Some n → ⊥
not_both n e = let z : ◌≡◌ {A = ℕ} 0 1 = cc e in omega arith

-- a mark says the number that it is, less 1, where that has 32 bits
module _ (m n : ℕ) where
  pub at_number : position_at m ≡ Some n → (m ≡ suc n) × (n < 2 ^ 32)
  unfolding position_at
  at_number e =
      split (eqb m 0) (λ z. absurd (not_both n (rw z at e)))
      (λ z. split (leb m (2 ^ 32))
      (λ l. let q : m - 1 ≡ n = cc (rw (z, l) at e) in let k = eqb-false m 0 z in let t = leb-true m (2 ^ 32) l in (omega arith, omega arith))
      (λ l. absurd (not_both n (rw (z, l) at e))))

  pub number_at : m ≡ suc n → n < 2 ^ 32 → position_at m ≡ Some n
  unfolding position_at
  number_at e h =
      let q : m - 1 ≡ n = omega arith in
      rw (ne_eqb m 0 (λ z. omega arith), le-leb m (2 ^ 32) (omega arith)) (ap Some q)
