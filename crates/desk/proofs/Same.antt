-- A text is a word exactly where their bytes are the same.
-- Assumes nothing.
use Prim.Native.Nat.{ℕ}
use mathlib.Core.Path.{◌≡◌, refl, ap, ap₂}
use mathlib.Core.Logic.{◌↔◌}
use Rattle.std.proofs.Common.{◌&&◌}
use mathlib.Core.Bool.{true, false≢true}
use mathlib.Core.List.{List, [], ◌∷◌}
use borrow.Author.Tests.{eqb-true, eq-eqb}
use lib.Dec.{eqb}
use lib.Pointwise.{pointwise}
use Rattle.relay.proofs.Truth.{and_facts}
use Rattle.desk.specs.Words.{is_word}

same_bytes : (t w : List ℕ) → is_word t w ≡ true → t ≡ w
unfolding is_word
same_bytes [] [] e = refl
same_bytes [] (y ∷ ys) e = absurd (false≢true e)
same_bytes (x ∷ xs) [] e = absurd (false≢true e)
same_bytes (x ∷ xs) (y ∷ ys) e =
    let f = (and_facts (eqb x y) (is_word xs ys)).0 e in
    ap₂ (λ (a : ℕ) (l : List ℕ). a ∷ l) (eqb-true x y f.0) (same_bytes xs ys f.1)

is_itself : (t : List ℕ) → is_word t t ≡ true
unfolding is_word
is_itself [] = refl
is_itself (x ∷ xs) = rw (eq-eqb x x refl) (is_itself xs)

pub word_iff : (t w : List ℕ) → (is_word t w ≡ true) ↔ (t ≡ w)
word_iff t w = (same_bytes t w, λ e. rw e (is_itself w))

-- and so `==` of two slices says
pub same_word : (t w : List ℕ) → pointwise eqb t w ≡ is_word t w
unfolding is_word
same_word [] [] = refl
same_word [] (y ∷ ys) = refl
same_word (x ∷ xs) [] = refl
same_word (x ∷ xs) (y ∷ ys) = ap (λ b. eqb x y && b) (same_word xs ys)
