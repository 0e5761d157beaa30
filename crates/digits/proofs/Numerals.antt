-- What a mark says of the bytes read so far: each byte keeps it true, so it is true of every text; and the digits of a number below the limit are read back, from the left.
-- Assumes nothing.
use Prim.Native.Nat.{ℕ, suc, ◌/◌, ◌%◌, ◌≤◌, ◌<◌}
use mathlib.Core.Path.{◌≡◌, refl, ap, ◌∙◌}
use mathlib.Core.Logic.{◌⊎◌, inl, inr}
use mathlib.Core.List.{List, [], ◌∷◌, ◌++◌, append_assoc, append-nil}
use native.Mathlib.Omega.{arith}
use Rattle.digits.specs.Digits.{digit, digits}
use Rattle.digits.specs.Numerals.{wrong, limit, with_digit, marked}
use Rattle.digits.proofs.Value.{by_tens, digits_one, digits_more}
use Rattle.digits.proofs.NextByte.{is_digit_lem, with_first, with_next, Says, nothing, number, other, next}

-- ---- bytes one after the other
pub marked_append : (m : ℕ) (xs ys : List ℕ) → marked m (xs ++ ys) ≡ marked (marked m xs) ys
unfolding marked
marked_append m [] ys = refl
marked_append m (x ∷ xs) ys = marked_append (with_digit m x) xs ys

pub marked_more : (m : ℕ) (f : List ℕ) (b : ℕ) → marked m (f ++ (b ∷ [])) ≡ with_digit (marked m f) b
unfolding marked
marked_more m f b = marked_append m f (b ∷ [])

-- ---- what a mark says
says-after : (bs f : List ℕ) (m : ℕ) → Says f m → Says (f ++ bs) (marked m bs)
unfolding marked
says-after [] f m s = rw (append-nil f) s
says-after (b ∷ bs) f m s = rw append_assoc at (says-after bs (f ++ (b ∷ [])) (with_digit m b) (next f m b s))

-- the mark of a text says what it is
pub says : (f : List ℕ) → Says f (marked 0 f)
says f = says-after f [] 0 (nothing refl refl)

-- ---- a text is read as a number exactly where it is its digits
module _ (f : List ℕ) where
  pub marked-says : (n : ℕ) → marked 0 f ≡ suc n → n < limit → f ≡ digits n
  marked-says n e l = go (says f)
    where
      go : Says f (marked 0 f) → f ≡ digits n
      go (nothing p z) = absurd (omega arith)
      go (number k p h z) = let q : k ≡ n = omega arith in p ∙ ap digits q
      go (other w) = absurd (omega arith)

  pub marked_none : marked 0 f ≡ 0 → f ≡ []
  marked_none e = go (says f)
    where
      go : Says f (marked 0 f) → f ≡ []
      go (nothing p z) = p
      go (number k p h z) = absurd (omega arith)
      go (other w) = absurd (omega arith)

  -- what a mark can be
  pub marked_bound : (marked 0 f ≤ limit) ⊎ (marked 0 f ≡ wrong)
  marked_bound = go (says f)
    where
      go : Says f (marked 0 f) → (marked 0 f ≤ limit) ⊎ (marked 0 f ≡ wrong)
      go (nothing p z) = inl (omega arith)
      go (number k p h z) = inl (omega arith)
      go (other w) = inr w

pub marked-digits : (n : ℕ) → n < limit → marked 0 (digits n) ≡ suc n
unfolding marked
marked-digits =
    by_tens (λ n. n < limit → marked 0 (digits n) ≡ suc n)
    (λ n h l. rw (digits_one n h, with_first (digit n) (is_digit_lem (digit n) (omega arith) (omega arith))) (omega arith))
    (λ n h i l. rw (digits_more n h, marked_more, i (omega arith), with_next (digit (n % 10)) (n / 10) (is_digit_lem (digit (n % 10)) (omega arith) (omega arith)) (omega arith) (omega arith)) (omega arith))
