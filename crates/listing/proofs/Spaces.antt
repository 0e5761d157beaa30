-- Numbers after single spaces: one more, how long they are, and a last one that is there or not.
-- Assumes nothing.
use Prim.Native.Nat.{ℕ, ◌+◌, ◌*◌, ◌≤◌, ◌<◌}
use mathlib.Core.Path.{◌≡◌, refl, sym, ap, ◌∙◌}
use mathlib.Core.Bool.{Bool, true, false}
use mathlib.Core.List.{List, [], ◌∷◌, ◌++◌, append_assoc, append-nil}
use native.Mathlib.Numerals.{add-one}
use native.Mathlib.Omega.{arith}
use lib.ListN.{length, get_or, set, take, length-append}
use lib.Seq.{take-suc}
use Rattle.relay.specs.Choice.{pick}
use Rattle.digits.specs.Digits.{digits}
use Rattle.listing.specs.Lines.{space, line_feed, spaced, ended, section_line}
use Rattle.digits.specs.Texts.{stored}
use Rattle.digits.proofs.Stores.{stored_more, stored-then}

pub spaced_none : spaced [] ≡ []
unfolding spaced
spaced_none = refl

pub spaced-append : (xs ys : List ℕ) → spaced (xs ++ ys) ≡ spaced xs ++ spaced ys
unfolding spaced
spaced-append [] ys = refl
spaced-append (x ∷ xs) ys = ap (λ (l : List ℕ). space ∷ l) (ap (λ (l : List ℕ). digits x ++ l) (spaced-append xs ys) ∙ sym (append_assoc (digits x) (spaced xs) (spaced ys)))

spaced_one : (n : ℕ) → spaced (n ∷ []) ≡ space ∷ digits n
unfolding spaced
spaced_one n = ap (λ (l : List ℕ). space ∷ l) (append-nil (digits n))

-- one number more
pub spaced_more : (ns : List ℕ) (i : ℕ) → i < length ns → spaced (take (i + 1) ns) ≡ (spaced (take i ns) ++ (space ∷ [])) ++ digits (get_or ns i 0)
spaced_more ns i h =
    rw (add-one, take-suc ns i 0 h, spaced-append, spaced_one) (sym (append_assoc (spaced (take i ns)) (space ∷ []) (digits (get_or ns i 0))))

-- ---- a last number that is there by a test
pub part-few : (b : Bool) → pick b 1 0 ≤ 1
part-few true = omega arith
part-few false = omega arith

pub part_only : (b : Bool) (n : ℕ) → take (pick b 1 0) (n ∷ []) ≡ pick b (n ∷ []) []
part_only true n = refl
part_only false n = refl

pub part_fourth : (b : Bool) (x y z n : ℕ) → take (3 + pick b 1 0) (x ∷ y ∷ z ∷ n ∷ []) ≡ x ∷ y ∷ z ∷ pick b (n ∷ []) []
part_fourth true x y z n = refl
part_fourth false x y z n = refl

-- the line of a section in its pieces
pub section-pieces : (ns track : List ℕ) → ((83 ∷ []) ++ spaced ns) ++ ended track ≡ section_line ns track
unfolding section_line
section-pieces ns track =
    ap (λ (l : List ℕ). 83 ∷ l) (sym (append_assoc (spaced ns) (spaced track) (line_feed ∷ [])) ∙ ap (λ (l : List ℕ). l ++ (line_feed ∷ [])) (sym (spaced-append ns track)))

-- ---- a turn of the loop that puts them
module _ (d ns : List ℕ) (at i : ℕ) (less : i < length ns) (room : at + length ns * 11 ≤ length d) (short : length (spaced (take i ns)) ≤ i * 11) (few : length (digits (get_or ns i 0)) ≤ 10) where
  abbrev so_far : List ℕ
  so_far = spaced (take i ns)

  abbrev p : ℕ
  p = at + length so_far

  abbrev n : ℕ
  n = get_or ns i 0

  pub turn-long : length (spaced (take (i + 1) ns)) ≡ length so_far + 1 + length (digits n)
  turn-long = ap (λ (xs : List ℕ). length xs) (spaced_more ns i less) ∙ rw (length-append, length-append) refl

  pub turn-short : length (spaced (take (i + 1) ns)) ≤ (i + 1) * 11
  turn-short = omega (arith, turn-long)

  pub turn : stored (set (stored d at so_far) p space) (p + 1) (digits n) ≡ stored d at (spaced (take (i + 1) ns))
  turn =
      let k : p + 1 ≡ at + length (so_far ++ (space ∷ [])) = rw length-append (omega arith) in
      let fits : at + length (so_far ++ (space ∷ [])) + length (digits n) ≤ length d = omega (arith, k) in
      rw (stored_more d at so_far space (omega arith), k)
      (stored-then d at (so_far ++ (space ∷ [])) (digits n) fits ∙ ap (stored d at) (sym (spaced_more ns i less)))
