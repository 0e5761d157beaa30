-- The pass over the records is the rule of a line that may be used: each post and each section is tested once, the last post with its section.
--     pass-valid       `valid` is what is tested before the records, and the pass
--     unusable         the answer, from what is tested before the records
--     decided          the answer, from the pass
--     stops, goes      a step of the loop, the section upstream of post j, that fails, and one that passes: what is left decides
--     ended            no section is left
-- Assumes nothing.
use mathlib.Core.Path.{◌≡◌, refl, sym, ◌∙◌, ap}
use Prim.Native.Nat.{ℕ, suc, ◌<◌, ◌≤◌, ◌+◌, ◌-◌}
use native.Mathlib.Omega.{arith}
use mathlib.Core.Bool.{Bool, true, false, ◌&&◌, and-true, and-false, and_assoc}
use mathlib.Core.List.{List, [], ◌∷◌}
use lib.ListN.{length, drop, length-drop}
use lib.Seq.{drop-cons}
use lib.Dec.{eqb, leb}
use borrow.Author.Tests.{eq-eqb, ne_eqb}
use Rattle.relay.specs.Kinds.{count_fits}
use Rattle.relay.specs.Posts.{at, blank}
use Rattle.relay.specs.Valid.{post_ok, posts_ok, section_ok, sections_from, sections_ok, most_events, valid}
use Rattle.relay.specs.declared.Head.{Head}
use Rattle.relay.specs.declared.Post.{Post}
use Rattle.line.specs.Pass.{pair_ok, pairs_from, pairs}

-- ---- the same tests in another order
last_step : (a d s : Bool) → ((a && (d && true)) && (s && true)) ≡ ((a && (s && d)) && true)
last_step false d s = refl
last_step true d true = simp and-true
last_step true d false = simp and-false

other_step : (a q s r : Bool) → ((a && q) && (s && r)) ≡ ((a && (s && true)) && (q && r))
other_step false q s r = refl
other_step true q true r = refl
other_step true q false r = and-false q

module _ (n t : ℕ) where
  same_tests : (i : ℕ) (p d : Post) (ds : List Post) → i + length (p ∷ d ∷ ds) ≡ n → (posts_ok n i t (p ∷ d ∷ ds) && sections_from p (d ∷ ds)) ≡ pairs_from n i t p (d ∷ ds)
  unfolding posts_ok sections_from pairs_from pair_ok
  same_tests i p d [] e =
      let h : eqb (i + 1 + 1) n ≡ true = eq-eqb (i + 1 + 1) n (omega arith) in
      rw h (last_step (post_ok n i t p) (post_ok n (i + 1) t d) (section_ok p d))
  same_tests i p d (b ∷ bs) e =
      let h : eqb (i + 1 + 1) n ≡ false = ne_eqb (i + 1 + 1) n (λ z. omega arith) in
      let e' : i + 1 + length (d ∷ b ∷ bs) ≡ n = omega arith in
      rw h (other_step (post_ok n i t p) (posts_ok n (i + 1) t (d ∷ b ∷ bs)) (section_ok p d) (sections_from d (b ∷ bs))
      ∙ ap (λ (u : Bool). (post_ok n i t p && (section_ok p d && true)) && u) (same_tests (i + 1) d b bs e'))

pub pass-valid : (l : List Post) (s : Head) → valid l s ≡ ((count_fits (length l) && leb s.taken most_events) && pairs (length l) 0 s.taken l)
unfolding valid count_fits sections_ok pairs
pass-valid [] s = refl
pass-valid (p ∷ []) s = refl
pass-valid (p ∷ d ∷ ds) s =
    let m = length (p ∷ d ∷ ds) in
    let all : 0 + m ≡ m = omega arith in
    ap (λ (u : Bool). count_fits m && (leb s.taken most_events && u)) (same_tests m s.taken 0 p d ds all)
    ∙ sym (and_assoc (count_fits m) (leb s.taken most_events) (pairs m 0 s.taken (p ∷ d ∷ ds)))

pub unusable : (l : List Post) (s : Head) → (count_fits (length l) && leb s.taken most_events) ≡ false → false ≡ valid l s
unusable l s e = sym (pass-valid l s ∙ rw e)

pub decided : (l : List Post) (s : Head) (v : Bool) → (count_fits (length l) && leb s.taken most_events) ≡ true → pairs (length l) 0 s.taken l ≡ v → v ≡ valid l s
decided l s v e f = sym (pass-valid l s ∙ rw (e, f))

-- ---- the steps of the loop, on a line of n posts
none_left : (n i t : ℕ) (l : List Post) → length l ≤ 1 → pairs n i t l ≡ true
unfolding pairs pairs_from
none_left n i t [] h = refl
none_left n i t (p ∷ []) h = refl
none_left n i t (p ∷ d ∷ ds) h = absurd (omega arith)

module _ (ys : List Post) (n t j : ℕ) (long : length ys ≡ n) (first : 1 ≤ j) (inv : pairs n (j - 1) t (drop (j - 1) ys) ≡ pairs n 0 t ys) where
  module _ (less : j < n) where
    opened : pairs n (j - 1) t (drop (j - 1) ys) ≡ (pair_ok n (j - 1) t (at ys (j - 1)) (at ys j) && pairs n j t (drop j ys))
    unfolding pairs pairs_from
    opened =
        let next : suc (j - 1) ≡ j = omega arith in
        let e₁ : drop (j - 1) ys ≡ at ys (j - 1) ∷ drop j ys = rw next at (drop-cons ys (j - 1) blank (omega arith)) in
        let e₂ : drop j ys ≡ at ys j ∷ drop (suc j) ys = drop-cons ys j blank (omega arith) in
        let i+1 : j - 1 + 1 ≡ j = omega arith in
        rw e₁ (rw e₂ (rw i+1 refl))

    pub stops : pair_ok n (j - 1) t (at ys (j - 1)) (at ys j) ≡ false → pairs n 0 t ys ≡ false
    stops e = sym inv ∙ opened ∙ ap (λ (u : Bool). u && pairs n j t (drop j ys)) e

    pub goes : pair_ok n (j - 1) t (at ys (j - 1)) (at ys j) ≡ true → pairs n (j + 1 - 1) t (drop (j + 1 - 1) ys) ≡ pairs n 0 t ys
    goes e =
        let same : j + 1 - 1 ≡ j = omega arith in
        rw same (sym (opened ∙ ap (λ (u : Bool). u && pairs n j t (drop j ys)) e) ∙ inv)

  pub ended : n ≤ j → pairs n 0 t ys ≡ true
  ended past =
      let h : length (drop (j - 1) ys) ≤ 1 = omega (arith, length-drop (j - 1) ys) in
      sym inv ∙ none_left n (j - 1) t (drop (j - 1) ys) h

-- what proves the loop: the tests before it, its steps, its end
pub ruleset pass = (unusable, decided, stops, goes, ended)
