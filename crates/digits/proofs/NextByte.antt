-- One byte more of a text: what it makes of a mark, and that what the mark says stays true.
-- Assumes nothing.
use Prim.Native.Nat.{ℕ, suc, ◌+◌, ◌-◌, ◌*◌, ◌/◌, ◌%◌, ◌≤◌, ◌<◌}
use mathlib.Core.Path.{◌≡◌, sym, ◌∙◌}
use mathlib.Core.Bool.{true, false}
use mathlib.Core.List.{List, [], ◌∷◌, ◌++◌}
use native.Mathlib.Omega.{arith}
use borrow.Author.Tests.{leb-true, le-leb, lt-leb, ne_eqb}
use lib.Dec.{leb}
use Rattle.relay.proofs.Truth.{and_facts, split, pick_same, equal_or_not, least_or_below}
use Rattle.digits.specs.Digits.{digit, digits}
use Rattle.digits.specs.Numerals.{wrong, limit, tenth, is_digit, with_digit}
use Rattle.digits.proofs.Value.{digits_one, digits_more}

-- ---- one byte
module _ (b : ℕ) where
  pub digit_bounds : is_digit b ≡ true → (48 ≤ b) × (b ≤ 57)
  unfolding is_digit
  digit_bounds e = let f = (and_facts (leb 48 b) (leb b 57)).0 e in (leb-true 48 b f.0, leb-true b 57 f.1)

  pub is_digit_lem : 48 ≤ b → b ≤ 57 → is_digit b ≡ true
  unfolding is_digit
  is_digit_lem h k = rw (le-leb 48 b h, le-leb b 57 k)

  -- a byte that is no digit, a digit after a 0, and one too many, make it wrong
  pub with_other : (m : ℕ) → is_digit b ≡ false → with_digit m b ≡ wrong
  unfolding with_digit
  with_other m e = rw e

  pub with_zero : with_digit 1 b ≡ wrong
  unfolding with_digit
  with_zero = pick_same (is_digit b) wrong

  pub with_many : (m : ℕ) → tenth < m → with_digit m b ≡ wrong
  unfolding with_digit
  with_many m h = rw (ne_eqb m 0 (λ e. omega arith), ne_eqb m 1 (λ e. omega arith), lt-leb m tenth h) (pick_same (is_digit b) wrong)

  -- the first digit, and one more
  pub with_first : is_digit b ≡ true → with_digit 0 b ≡ suc (b - 48)
  unfolding with_digit
  with_first e = rw e (omega arith)

  pub with_next : (n : ℕ) → is_digit b ≡ true → 1 ≤ n → n < tenth → with_digit (suc n) b ≡ suc (n * 10 + (b - 48))
  unfolding with_digit
  with_next n e h l = rw (e, ne_eqb (suc n) 0 (λ e. omega arith), ne_eqb (suc n) 1 (λ e. omega arith), le-leb (suc n) tenth (omega arith)) (omega arith)

  -- the digits of the number with one digit more
  pub digits_next : (n : ℕ) → is_digit b ≡ true → 1 ≤ n → digits n ++ (b ∷ []) ≡ digits (n * 10 + (b - 48))
  digits_next n e h =
      let d = digit_bounds e in
      let q : (n * 10 + (b - 48)) / 10 ≡ n = omega arith in
      let r : digit ((n * 10 + (b - 48)) % 10) ≡ b = omega arith in
      sym (digits_more (n * 10 + (b - 48)) (omega arith) ∙ rw (q, r))

-- ---- what a mark says
-- the mark m of the bytes f
pub data Says (f : List ℕ) (m : ℕ) : Type 0 where
  nothing : f ≡ [] → m ≡ 0 → Says f m
  number : (n : ℕ) → f ≡ digits n → n < limit → m ≡ suc n → Says f m
  other : m ≡ wrong → Says f m

pub next : (f : List ℕ) (m b : ℕ) → Says f m → Says (f ++ (b ∷ [])) (with_digit m b)
next f m b (nothing e z) =
    split (is_digit b)
    (λ d.
    let k = digit_bounds b d in
    let r : digit (b - 48) ≡ b = omega arith in
    number (b - 48) (rw e (sym (rw r at (digits_one (b - 48) (omega arith))))) (omega arith) (rw z (with_first b d)))
    (λ d. other (with_other b m d))
next f m b (number n e l z) =
    split (is_digit b)
    (λ d. equal_or_not n 0 (λ o. other (rw (z, o) (with_zero b)))
    (λ o. least_or_below tenth n (λ t. other (with_many b m (omega arith)))
    (λ t.
    let k = digit_bounds b d in
    number (n * 10 + (b - 48)) (rw e (digits_next b n d (omega arith))) (omega arith) (rw z (with_next b n d (omega arith) t)))))
    (λ d. other (with_other b m d))
next f m b (other w) = other (with_many b m (omega arith))
