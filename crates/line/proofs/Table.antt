-- What the test of a table of kinds is tied to: every kind at its place; in a loop, one kind more, and what is left decides.
-- Assumes nothing.
use mathlib.Core.Path.{◌≡◌, refl, sym, ◌∙◌, ap}
use Prim.Native.Nat.{ℕ, ◌<◌, ◌≤◌, ◌+◌}
use native.Mathlib.Numerals.{add-one}
use mathlib.Core.Bool.{Bool, true, false, ◌&&◌}
use mathlib.Core.List.{List, [], ◌∷◌}
use lib.ListN.{length, drop, get_or, drop_of_length-le}
use lib.Seq.{drop-cons}
use Rattle.std.specs.List.{list_all, enumerate_from}
use Rattle.relay.specs.Kinds.{kind_fits, kinds_fit}

-- the kinds from i on
abbrev pub Rest : List ℕ → ℕ → Bool
Rest ks i = kinds_fit (length ks) i (drop i ks)

opened : (ks : List ℕ) (i : ℕ) → i < length ks → Rest ks i ≡ (kind_fits (length ks) i (get_or ks i 0) && Rest ks (i + 1))
unfolding kinds_fit
opened ks i less =
    let e : drop i ks ≡ get_or ks i 0 ∷ drop (i + 1) ks = rw (add-one i) (drop-cons ks i 0 less) in
    ap (kinds_fit (length ks) i) e

module _ (ks : List ℕ) (i : ℕ) (less : i < length ks) (inv : Rest ks i ≡ Rest ks 0) where
  pub stops : kind_fits (length ks) i (get_or ks i 0) ≡ false → Rest ks 0 ≡ false
  stops e = sym inv ∙ opened ks i less ∙ ap (λ (t : Bool). t && Rest ks (i + 1)) e

  pub goes : kind_fits (length ks) i (get_or ks i 0) ≡ true → Rest ks (i + 1) ≡ Rest ks 0
  goes e = sym (opened ks i less ∙ ap (λ (t : Bool). t && Rest ks (i + 1)) e) ∙ inv

pub ended : (ks : List ℕ) (i : ℕ) → length ks ≤ i → Rest ks i ≡ Rest ks 0 → Rest ks 0 ≡ true
unfolding kinds_fit
ended ks i past inv = sym inv ∙ ap (kinds_fit (length ks) i) (drop_of_length-le ks past)

-- every kind at its place, as the code has it, is the rule of the kinds from place i on
pub all_fit : (n i : ℕ) (ks : List ℕ) → list_all (λ p. kind_fits n p.0 p.1) (enumerate_from i ks) ≡ kinds_fit n i ks
unfolding kinds_fit
all_fit n i [] = refl
all_fit n i (k ∷ ks) = ap (λ (t : Bool). kind_fits n i k && t) (all_fit n (i + 1) ks)
