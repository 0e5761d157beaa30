-- The letters of a word, one after the other: as many as it has exactly where the field is the word.
-- Assumes nothing.
use Prim.Native.Nat.{ℕ, zero, suc, ◌+◌, ◌≤◌, ◌<◌}
use mathlib.Core.Path.{◌≡◌, refl, sym, ap, ap₂, ◌∙◌}
use mathlib.Core.Bool.{false}
use mathlib.Core.List.{List, [], ◌∷◌, ◌++◌}
use native.Mathlib.Numerals.{add-one}
use native.Mathlib.Omega.{arith}
use borrow.Author.Tests.{le-ltb, lt-ltb, ltb-true, ltb-false, eqb-true, eq-eqb}
use lib.Dec.{eqb, ltb}
use lib.ListN.{length, get_or, drop, drop_of_length-le}
use lib.Seq.{drop-cons}
use Rattle.relay.proofs.Truth.{split, pick_same}
use Rattle.digits.specs.Numerals.{wrong}
use Rattle.importing.specs.Steps.{with_letter, word}

-- past the fifth there is no word
pub no_word : (i m b : ℕ) → 5 ≤ i → with_letter (word i) m b ≡ wrong
unfolding with_letter
no_word (suc (suc (suc (suc (suc i))))) m b h = rw (le-ltb m 0 (omega arith))
no_word zero m b h = absurd (omega arith)
no_word (suc zero) m b h = absurd (omega arith)
no_word (suc (suc zero)) m b h = absurd (omega arith)
no_word (suc (suc (suc zero))) m b h = absurd (omega arith)
no_word (suc (suc (suc (suc zero)))) m b h = absurd (omega arith)

-- the mark m after the bytes of a list
unfoldable pub lettered : List ℕ → ℕ → List ℕ → ℕ
lettered w m [] = m
lettered w m (b ∷ bs) = lettered w (with_letter w m b) bs

pub lettered_more : (w : List ℕ) (m : ℕ) (f : List ℕ) (b : ℕ) → lettered w m (f ++ (b ∷ [])) ≡ with_letter w (lettered w m f) b
unfolding lettered
lettered_more w m [] b = refl
lettered_more w m (x ∷ f) b = lettered_more w (with_letter w m x) f b

module _ (w : List ℕ) (short : length w < wrong) where
  module _ (m b : ℕ) where
    -- the next letter
    with_next : m < length w → get_or w m 0 ≡ b → with_letter w m b ≡ m + 1
    unfolding with_letter
    with_next h e = rw (lt-ltb m (length w) h, eq-eqb (get_or w m 0) b e)

    with_past : length w ≤ m → with_letter w m b ≡ wrong
    unfolding with_letter
    with_past h = rw (le-ltb m (length w) h)

    with_other : eqb (get_or w m 0) b ≡ false → with_letter w m b ≡ wrong
    unfolding with_letter
    with_other e = rw e (pick_same (ltb m (length w)) wrong)

  -- what is wrong stays so
  stays-wrong : (f : List ℕ) → lettered w wrong f ≡ wrong
  unfolding lettered
  stays-wrong [] = refl
  stays-wrong (b ∷ f) = rw (with_past wrong b (omega arith)) (stays-wrong f)

  -- where all the letters were there, the bytes are those that were left of the word
  from : (f : List ℕ) (m : ℕ) → m ≤ length w → lettered w m f ≡ length w → f ≡ drop m w
  unfolding lettered
  from [] m h e = let k : length w ≤ m = omega arith in sym (drop_of_length-le w k)
  from (b ∷ f) m h e =
      split (ltb m (length w))
      (λ l. split (eqb (get_or w m 0) b)
      (λ q.
      let l' = ltb-true m (length w) l in
      let q' = eqb-true (get_or w m 0) b q in
      let i = from f (m + 1) (omega arith) (rw (with_next m b l' q') at e) in
      ap₂ (λ (x : ℕ) (xs : List ℕ). x ∷ xs) (sym q') (rw (add-one m) at i) ∙ sym (drop-cons w m 0 l'))
      (λ q. absurd (omega (arith, stays-wrong f, rw (with_other m b q) at e))))
      (λ l. absurd (omega (arith, stays-wrong f, rw (with_past m b (ltb-false m (length w) l)) at e)))

  back : (f : List ℕ) (m : ℕ) → m ≤ length w → f ≡ drop m w → lettered w m f ≡ length w
  unfolding lettered
  back [] m h e = left (length w) refl
    where
      left : (n : ℕ) → length w ≡ n → m ≡ length w
      left n q = split (ltb m (length w))
          (λ l. let z : 0 ≡ suc (length (drop (suc m) w)) = ap (λ (x : List ℕ). length x) (e ∙ drop-cons w m 0 (ltb-true m (length w) l)) in absurd (omega arith))
          (λ l. omega (arith, ltb-false m (length w) l))
  back (b ∷ f) m h e =
      split (ltb m (length w))
      (λ l.
      let l' = ltb-true m (length w) l in
      let d : b ∷ f ≡ get_or w m 0 ∷ drop (suc m) w = e ∙ drop-cons w m 0 l' in
      let q : get_or w m 0 ≡ b = cc d in
      let r : f ≡ drop (m + 1) w = rw (add-one m) (cc d) in
      rw (with_next m b l' q) (back f (m + 1) (omega arith) r))
      (λ l. let z : b ∷ f ≡ [] = e ∙ drop_of_length-le w (ltb-false m (length w) l) in let y : suc (length f) ≡ 0 = ap (λ (x : List ℕ). length x) z in absurd (omega arith))

  pub is_word : (f : List ℕ) → lettered w 0 f ≡ length w → f ≡ w
  is_word f e = from f 0 (omega arith) e

  pub word_is : (f : List ℕ) → f ≡ w → lettered w 0 f ≡ length w
  word_is f e = back f 0 (omega arith) e
