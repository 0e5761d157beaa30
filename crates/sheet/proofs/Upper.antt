-- The first event word with upper bits, by the words: all before it have none, and it has; and no other is so.
-- Assumes nothing.
use Prim.Native.Nat.{ℕ, zero, suc, ◌+◌, ◌*◌, ◌≤◌, ◌<◌}
use mathlib.Core.Path.{◌≡◌}
use mathlib.Core.Logic.{⊎_elim}
use mathlib.Core.List.{List}
use native.Mathlib.Nat.{eq-or-lt_of_le}
use native.Mathlib.Omega.{arith}
use Rattle.relay.proofs.Truth.{split, least_or_below}
use Rattle.sheet.specs.Check.{word}
use Rattle.sheet.specs.Entry.{upper_zero}
use Rattle.sheet.specs.Reading.{form_in, first_upper}
use Rattle.sheet.proofs.UpperBits.{upper-zero, upper-some}

-- ---- of n events of block b, from event j on
module _ (s : List ℕ) (b : ℕ) where
  -- p is the first whose word has upper bits, or past the last where none has
  pub record IsFirst (j n p : ℕ) : Type 0 where
    pub most : p ≤ j + n
    pub before : (i : ℕ) → j ≤ i → i < p → word s b (1 + i * 2) < form_in s * 65536
    pub here : p < j + n → form_in s * 65536 ≤ word s b (1 + p * 2)

  pub first_upper_lem : (j n : ℕ) → IsFirst j n (first_upper s b j n)
  unfolding first_upper
  first_upper_lem j zero = record { most = omega arith; before = λ i h k. absurd (omega arith); here = λ h. absurd (omega arith) }
  first_upper_lem j (suc n) =
      let r = first_upper_lem (j + 1) n in
      split (upper_zero (form_in s) (word s b (1 + j * 2)))
      (λ e.
      rw e
      (record {
        most = omega (arith, r.most);
        before = λ i h k.
            ⊎_elim (λ (t : j ≡ i). rw (← t) (upper-zero _ _ e)) (λ l. r.before i (omega arith) k) (eq-or-lt_of_le h);
        here = λ h. r.here (omega arith);
      }))
      (λ e. rw e (record { most = omega arith; before = λ i h k. absurd (omega arith); here = λ h. upper-some _ _ e }))

  -- no other is so
  not_before : (n p q : ℕ) → IsFirst 0 n p → IsFirst 0 n q → p < q → ⊥
  not_before n p q f g h = omega (arith, f.here (omega (arith, g.most)), g.before p (omega arith) h)

  pub one_first : (n p q : ℕ) → IsFirst 0 n p → IsFirst 0 n q → p ≡ q
  one_first n p q f g =
      least_or_below p q
      (λ h. ⊎_elim (λ e. e) (λ l. absurd (not_before n p q f g l)) (eq-or-lt_of_le h))
      (λ h. absurd (not_before n q p g f h))
