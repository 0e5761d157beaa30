-- A test of every element of a list, along the list: what is left decides, and each of a list that passes passes.
-- Over any test q of lists that is a test p of each element; all_in_fields and allBelow are two of them.
-- Assumes nothing.
use mathlib.Core.Path.{◌≡◌, refl, sym, ap, ◌∙◌}
use Prim.Native.Nat.{ℕ, zero, suc, ◌+◌, ◌≤◌, ◌<◌}
use mathlib.Core.Bool.{Bool, true, false, ◌&&◌, false≢true}
use mathlib.Core.List.{List, [], ◌∷◌}
use lib.ListN.{length, drop, get_or, drop_of_length-le}
use lib.Seq.{drop-cons}
use Rattle.std.specs.List.{list_all}
use native.Mathlib.Numerals.{add-one}
use native.Mathlib.Omega.{arith}

-- two tests that both hold
pub both : (t u : Bool) → (t && u) ≡ true → (t ≡ true) × (u ≡ true)
both true u e = (refl, e)
both false u e = absurd (false≢true e)

-- q is the test p of every element
pub record Tests {X : Type 0} (p : X → Bool) (q : List X → Bool) : Type 0 where
  pub none : q [] ≡ true
  pub more : (x : X) (xs : List X) → q (x ∷ xs) ≡ (p x && q xs)

module _ {X : Type 0} {p : X → Bool} {q : List X → Bool} (t : Tests p q) (z : X) where
  opened : (es : List X) (i : ℕ) → i < length es → q (drop i es) ≡ (p (get_or es i z) && q (drop (i + 1) es))
  opened es i h =
      let e : drop i es ≡ get_or es i z ∷ drop (i + 1) es = rw (add-one i) (drop-cons es i z h) in
      ap q e ∙ t.more (get_or es i z) (drop (i + 1) es)

  module _ (es : List X) (i : ℕ) (h : i < length es) (inv : q (drop i es) ≡ q es) where
    pub stops : p (get_or es i z) ≡ false → q es ≡ false
    stops e = sym inv ∙ opened es i h ∙ ap (λ (b : Bool). b && q (drop (i + 1) es)) e

    pub goes : p (get_or es i z) ≡ true → q (drop (i + 1) es) ≡ q es
    goes e = sym (opened es i h ∙ ap (λ (b : Bool). b && q (drop (i + 1) es)) e) ∙ inv

  pub ended : (es : List X) (i : ℕ) → length es ≤ i → q (drop i es) ≡ q es → q es ≡ true
  ended es i h inv = sym inv ∙ ap q (drop_of_length-le es h) ∙ t.none

  -- each element of a list that passes, and a list passes where each of its elements does
  pub each : (es : List X) → q es ≡ true → (i : ℕ) → i < length es → p (get_or es i z) ≡ true
  each [] a i h = absurd (omega arith)
  each (e ∷ es) a zero h = (both (p e) (q es) (sym (t.more e es) ∙ a)).0
  each (e ∷ es) a (suc i) h = each es (both (p e) (q es) (sym (t.more e es) ∙ a)).1 i (omega arith)

  pub every : (es : List X) → ((i : ℕ) → i < length es → p (get_or es i z) ≡ true) → q es ≡ true
  every [] h = t.none
  every (e ∷ es) h = t.more e es ∙ rw (h 0 (omega arith), every es (λ i l. h (suc i) (omega arith)))

  -- std's test of every element is the same
  pub along_list : (es : List X) → list_all p es ≡ q es
  along_list [] = sym t.none
  along_list (e ∷ es) = ap (λ (b : Bool). p e && b) (along_list es) ∙ sym (t.more e es)
