-- The list of f's first n values: its length and elements, and what a loop does that writes it to the front of a lent slice, one store a turn.
-- Assumes nothing.
use mathlib.Core.Path.{◌≡◌, refl, sym, ◌∙◌}
use mathlib.Core.Logic.{⊎_elim}
use Prim.Native.Nat.{ℕ, zero, suc, ◌+◌, ◌≤◌, ◌<◌}
use mathlib.Core.List.{List, [], ◌∷◌, ◌++◌}
use lib.ListN.{length, get_or, set, take, drop, length-append, length-drop, get_or-append}
use lib.Seq.{drop-cons, set_at, append_snoc, get_or_at, get_or-take, get_or-drop, length-take-le, ext_get_or}
use native.Mathlib.Nat.{eq-or-lt_of_le, le_of_suc-le-suc}
use native.Mathlib.Numerals.{add-one}
use native.Mathlib.Omega.{arith}
use Rattle.sheet.specs.Words.{tab}

module _ {X : Type 0} (f : ℕ → X) where
  pub length-tab : (n : ℕ) → length (tab f n) ≡ n
  unfolding tab
  length-tab zero = refl
  length-tab (suc n) = length-append (tab f n) (f n ∷ []) ∙ rw (length-tab n) (omega arith)

  pub get_d_tab : (z : X) (n i : ℕ) → i < n → get_or (tab f n) i z ≡ f i
  unfolding tab
  get_d_tab z zero i h = absurd (omega arith)
  get_d_tab z (suc n) i h =
      ⊎_elim
      (λ e. rw e (get_or_at (tab f n) (f n) [] z n (length-tab n)))
      (λ l. get_or-append (tab f n) (f n ∷ []) z i (rw (length-tab n) l) ∙ get_d_tab z n i l)
      (eq-or-lt_of_le (le_of_suc-le-suc h))

  -- a list that agrees with f is its table
  pub tab_is : (z : X) (n : ℕ) (l : List X) → n ≡ length l → ((i : ℕ) → i < length l → f i ≡ get_or l i z) → tab f n ≡ l
  tab_is z n l e h =
      ext_get_or z (tab f n) l (length-tab n ∙ e) (λ i q.
      let s : i < n = rw (length-tab n) at q in
      get_d_tab z n i s ∙ h i (omega arith))

  -- none is stored yet, and one more is
  pub front_none : (d : List X) → tab f 0 ++ drop 0 d ≡ d
  unfolding tab
  front_none d = refl

  pub front_more : (z : X) (i : ℕ) (d : List X) → i < length d → set (tab f i ++ drop i d) i (f i) ≡ tab f (i + 1) ++ drop (i + 1) d
  unfolding tab
  front_more z i d h =
      rw (drop-cons d i z h, set_at (tab f i) (get_or d i z) (drop (suc i) d) (f i) i (length-tab i), add-one i)
      (sym (append_snoc (tab f i) (f i) (drop (suc i) d)))

  pub length_front : (n : ℕ) (d : List X) → n ≤ length d → length (tab f n ++ drop n d) ≡ length d
  length_front n d h = simp (length-append, length-tab, length-drop) (omega arith)

-- the first n of f's values in a table of m, and n from k on
pub front-tab : {X : Type 0} (f : ℕ → X) → X → (m n : ℕ) → n ≤ m → tab f n ≡ take n (tab f m)
front-tab f z m n h =
    let long : length (take n (tab f m)) ≡ n = length-take-le n (tab f m) (rw (length-tab f m) h) in
    tab_is f z n (take n (tab f m)) (sym long) (λ i q.
    let s : i < n = rw long at q in
    sym (get_or-take n (tab f m) i z s ∙ get_d_tab f z m i (omega arith)))

pub part-tab : {X : Type 0} (f : ℕ → X) → X → (m k n : ℕ) → k + n ≤ m → tab (λ i. f (k + i)) n ≡ take n (drop k (tab f m))
part-tab f z m k n h =
    let long : length (take n (drop k (tab f m))) ≡ n =
    length-take-le n (drop k (tab f m)) (rw (length-drop k (tab f m), length-tab f m) (omega arith)) in
    tab_is (λ i. f (k + i)) z n (take n (drop k (tab f m))) (sym long) (λ i q.
    let s : i < n = rw long at q in
    sym (get_or-take n (drop k (tab f m)) i z s ∙ get_or-drop k (tab f m) i z ∙ get_d_tab f z m (k + i) (omega arith)))
