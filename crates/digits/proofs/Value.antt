-- The digits of a number: one more digit in front for each division by ten, so that what holds of each digit alone and goes from a tenth to the number holds of all.
-- How many there are; read as decimal they are the number; none leads with a zero.
-- Assumes nothing.
use Prim.Native.Nat.{ℕ, zero, suc, ◌+◌, ◌-◌, ◌*◌, ◌/◌, ◌%◌, ◌^◌, ◌≤◌, ◌<◌}
use mathlib.Core.Path.{◌≡◌, refl, sym, ap, ◌∙◌}
use mathlib.Core.List.{List, [], ◌∷◌, ◌++◌}
use native.Mathlib.Omega.{arith}
use borrow.Author.Tests.{lt-ltb, le-ltb}
use lib.ListN.{length, get_or, length-append, get_or-append}
use Rattle.relay.proofs.Truth.{least_or_below}
use Rattle.digits.specs.Digits.{digit, digits_in, digits, value}

-- what holds of each digit, and of a number where it holds of a tenth of it, holds of every number
module _ (P : ℕ → Type 0) (one : (n : ℕ) → n < 10 → P n) (more : (n : ℕ) → 10 ≤ n → P (n / 10) → P n) where
  by_room : (f n : ℕ) → n < f → P n
  by_room zero n h = absurd (omega arith)
  by_room (suc f) n h = least_or_below 10 n (λ l. more n l (by_room f (n / 10) (omega arith))) (λ l. one n l)

  pub by_tens : (n : ℕ) → P n
  by_tens n = by_room (suc n) n (omega arith)

-- ---- one digit more
module _ (f n : ℕ) where
  in_one : n < 10 → digits_in (suc f) n ≡ digit n ∷ []
  unfolding digits_in
  in_one h = rw (lt-ltb n 10 h)

  in_more : 10 ≤ n → digits_in (suc f) n ≡ digits_in f (n / 10) ++ (digit (n % 10) ∷ [])
  unfolding digits_in
  in_more h = rw (le-ltb n 10 h)

-- more room than is needed changes nothing
enough : (f g n : ℕ) → n < f → n < g → digits_in f n ≡ digits_in g n
enough zero g n h k = absurd (omega arith)
enough (suc f) zero n h k = absurd (omega arith)
enough (suc f) (suc g) n h k =
    least_or_below 10 n (λ l. in_more f n l ∙ rw (enough f g (n / 10) (omega arith) (omega arith)) (sym (in_more g n l)))
    (λ l. in_one f n l ∙ sym (in_one g n l))

module _ (n : ℕ) where
  pub digits_one : n < 10 → digits n ≡ digit n ∷ []
  unfolding digits
  digits_one h = in_one n n h

  pub digits_more : 10 ≤ n → digits n ≡ digits (n / 10) ++ (digit (n % 10) ∷ [])
  unfolding digits
  digits_more h = in_more n n h ∙ rw (enough n (suc (n / 10)) (n / 10) (omega arith) (omega arith))

  -- a tenth of it has one digit less
  pub digits_less : 10 ≤ n → length (digits n) ≡ length (digits (n / 10)) + 1
  digits_less h = ap (λ (ds : List ℕ). length ds) (digits_more h) ∙ length-append (digits (n / 10)) (digit (n % 10) ∷ [])

-- ---- how many there are
-- a number below 10 to the f has at most f digits
pub digits-within : (f n : ℕ) → 1 ≤ f → n < 10 ^ f → length (digits n) ≤ f
digits-within zero n l h = absurd (omega arith)
digits-within (suc zero) n l h = rw (digits_one n (omega arith)) (omega arith)
digits-within (suc (suc f)) n l h =
    least_or_below 10 n (λ t. omega (arith, digits_less n t, digits-within (suc f) (n / 10) (omega arith) (omega arith)))
    (λ t. rw (digits_one n t) (omega arith))

-- a number of 32 bits, and one of 64
module _ (n : ℕ) where
  pub digits_long : n < 2 ^ 32 → length (digits n) ≤ 10
  digits_long h = digits-within 10 n (omega arith) (omega arith)

  pub digits-long_64 : n < 2 ^ 64 → length (digits n) ≤ 20
  digits-long_64 h = digits-within 20 n (omega arith) (omega arith)

-- ---- what counting them by tens goes by
pub ruleset counted = (digits_one, digits_less, digits-long_64)

-- ---- read as decimal
pub value-append : (m : ℕ) (xs ys : List ℕ) → value m (xs ++ ys) ≡ value (value m xs) ys
unfolding value
value-append m [] ys = refl
value-append m (x ∷ xs) ys = value-append (m * 10 + (x - 48)) xs ys

-- the digits of a number, read as decimal, are the number
pub digits_value : (n : ℕ) → value 0 (digits n) ≡ n
unfolding value
digits_value =
    by_tens (λ n. value 0 (digits n) ≡ n) (λ n h. rw (digits_one n h) (omega arith))
    (λ n h i. rw (digits_more n h, value-append, i) (omega arith))

-- ---- no number but 0 begins with a zero
not_empty : (ds : List ℕ) → 48 < get_or ds 0 0 → 0 < length ds
not_empty [] h = absurd (omega arith)
not_empty (d ∷ ds) h = omega arith

pub no_leading_zero : (n : ℕ) → 1 ≤ n → 48 < get_or (digits n) 0 0
no_leading_zero =
    by_tens (λ n. 1 ≤ n → 48 < get_or (digits n) 0 0) (λ n h l. rw (digits_one n h) (omega arith))
    (λ n h i l.
    let first = i (omega arith) in
    rw (digits_more n h, get_or-append (digits (n / 10)) (digit (n % 10) ∷ []) 0 0 (not_empty (digits (n / 10)) first)) first)
