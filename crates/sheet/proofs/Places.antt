-- The places of a block, each of which a word stands in: what holds at each place of the layout holds of every word.
-- Assumes nothing.
use mathlib.Core.Path.{◌≡◌}
use mathlib.Core.Logic.{◌⊎◌, inl, inr, ⊎_elim}
use Prim.Native.Nat.{ℕ, zero, suc, ◌+◌, ◌*◌, ◌/◌, ◌%◌, ◌≤◌, ◌<◌}
use native.Mathlib.Numerals.{add-one}
use native.Mathlib.Omega.{arith}

pub lt_or_le : (a b : ℕ) → (a < b) ⊎ (b ≤ a)
lt_or_le a zero = inr (omega arith)
lt_or_le zero (suc b) = inl (omega arith)
lt_or_le (suc a) (suc b) = ⊎_elim (λ l. inl (omega arith)) (λ l. inr (omega arith)) (lt_or_le a b)

module _ (P : ℕ → Type 0) where
  -- block 0 and a later one
  pub by_block : P 0 → ((c : ℕ) → P (c + 1)) → (b : ℕ) → P b
  by_block p q zero = p
  by_block p q (suc c) = rw (← add-one c) (q c)

  -- block 0 with n kinds: the words 0, 1 and 2, the kinds, the rest
  pub by_head : (n : ℕ) → P 0 → P 1 → P 2 → ((i : ℕ) → i < n → P (3 + i)) → ((k : ℕ) → 3 + n ≤ k → P k) → (k : ℕ) → P k
  by_head n a b c kind rest zero = a
  by_head n a b c kind rest (suc zero) = b
  by_head n a b c kind rest (suc (suc zero)) = c
  by_head n a b c kind rest (suc (suc (suc i))) =
      let e : suc (suc (suc i)) ≡ 3 + i = omega arith in
      ⊎_elim (λ h. rw e (kind i h)) (λ h. rest (suc (suc (suc i))) (omega arith)) (lt_or_le i n)

  -- an event block with m events: the count, the event words, their stamps, the rest
  pub by_place : (m : ℕ) → P 0 → ((j : ℕ) → j < m → P (1 + j * 2)) → ((j : ℕ) → j < m → P (2 + j * 2)) → ((k : ℕ) → 1 + m * 2 ≤ k → P k) → (k : ℕ) → P k
  by_place m count event stamp rest zero = count
  by_place m count event stamp rest (suc k) =
      ⊎_elim
      (λ here. ⊎_elim
      (λ even. let e : suc k ≡ 1 + k / 2 * 2 = omega arith in rw e (event (k / 2) (omega arith)))
      (λ odd. let e : suc k ≡ 2 + k / 2 * 2 = omega arith in rw e (stamp (k / 2) (omega arith)))
      (lt_or_le (k % 2) 1))
      (λ past. rest (suc k) (omega arith))
      (lt_or_le k (m * 2))
