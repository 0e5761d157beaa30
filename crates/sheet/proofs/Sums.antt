-- The laws of a sum of words, of the check that asks for it, and of the word that brings it to the target.
-- Assumes nothing.
use mathlib.Core.Path.{◌≡◌, refl, ap₂}
use mathlib.Core.Logic.{◌↔◌}
use mathlib.Core.Bool.{true}
use mathlib.Core.List.{List}
use Prim.Native.Nat.{ℕ, zero, suc, ◌+◌, ◌%◌, ◌^◌, ◌<◌}
use borrow.Author.Tests.{eq-eqb, eqb-true}
use native.Mathlib.Numerals.{add-one}
use native.Mathlib.Omega.{arith}
use Rattle.sheet.specs.Layout.{block_words}
use Rattle.sheet.specs.Check.{sum, word, target, checks_as, seal}

pub sum_none : (f : ℕ → ℕ) → sum f 0 ≡ 0
unfolding sum
sum_none f = refl

pub sum_more : (f : ℕ → ℕ) (n : ℕ) → sum f (n + 1) ≡ sum f n + f n
unfolding sum
sum_more f n = rw add-one

-- functions that agree below n have the same sum
pub sum_agree : (f g : ℕ → ℕ) (n : ℕ) → ((k : ℕ) → k < n → f k ≡ g k) → sum f n ≡ sum g n
unfolding sum
sum_agree f g zero h = refl
sum_agree f g (suc n) h = ap₂ ◌+◌ (sum_agree f g n (λ k l. h k (omega arith))) (h n (omega arith))

-- words carried round at 2^32 come to the same sum, carried round
pub sum_round : (f g : ℕ → ℕ) (n : ℕ) → ((k : ℕ) → k < n → f k ≡ g k % 2 ^ 32) → sum f n % 2 ^ 32 ≡ sum g n % 2 ^ 32
unfolding sum
sum_round f g zero h = refl
sum_round f g (suc n) h = omega (arith, sum_round f g n (λ k l. h k (omega arith)), h n (omega arith))

-- the words in place p check as block b exactly when they add up to its target
pub checks_iff : (s : List ℕ) (p b : ℕ) → (checks_as s p b ≡ true) ↔ (sum (word s p) block_words % 2 ^ 32 ≡ target b)
unfolding checks_as
checks_iff s p b = (λ e. eqb-true _ _ e, λ e. eq-eqb _ _ e)

-- the check depends on no more than that
pub seal_round : (m n b : ℕ) → m % 2 ^ 32 ≡ n % 2 ^ 32 → seal m b ≡ seal n b
unfolding seal
seal_round m n b e = rw e

pub seal-small : (n b : ℕ) → seal n b < 2 ^ 32
unfolding seal
seal-small n b = omega arith

-- the sealed block adds up to the target
pub seal-adds : (n b : ℕ) → b < 64 → (n + seal n b) % 2 ^ 32 ≡ target b
unfolding seal
seal-adds n b h = omega arith

-- and no other word does
pub seal_is : (r n b : ℕ) → r < 2 ^ 32 → (n + r) % 2 ^ 32 ≡ target b → b < 64 → r ≡ seal n b
unfolding seal
seal_is r n b h e hb = omega arith
