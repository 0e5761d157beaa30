-- The laws of a run of stored words: one word more, one run after another, its length, its words, and what it is at the front of the bytes.
-- Assumes nothing.
use mathlib.Core.Path.{◌≡◌, refl, sym, ap₂, ◌∙◌}
use mathlib.Core.Logic.{inl, ⊎_elim}
use Prim.Native.Nat.{ℕ, zero, suc, ◌+◌, ◌*◌, ◌%◌, ◌^◌, ◌≤◌, ◌<◌}
use mathlib.Core.List.{List}
use lib.ListN.{length}
use native.Mathlib.Nat.{add-zero, zero-add, eq-or-lt_of_le, le_of_suc-le-suc}
use native.Mathlib.Numerals.{add-one}
use native.Mathlib.Omega.{arith}
use Rattle.sheet.specs.Words.{word_at, put_word}
use Rattle.sheet.specs.Puts.{puts}
use Rattle.sheet.proofs.Bytes.{length_put, word_same, word-other, front, front_none, front_more}

pub puts_none : (g : ℕ → ℕ) (at : ℕ) (d : List ℕ) → puts g at 0 d ≡ d
unfolding puts
puts_none g at d = refl

pub puts_more : (g : ℕ → ℕ) (at n : ℕ) (d : List ℕ) → put_word (puts g at n d) (at + n * 4) (g n) ≡ puts g at (n + 1) d
unfolding puts
puts_more g at n d = rw add-one

length-puts : (g : ℕ → ℕ) (at n : ℕ) (d : List ℕ) → length (puts g at n d) ≡ length d
unfolding puts
length-puts g at zero d = refl
length-puts g at (suc n) d = length_put (puts g at n d) (at + n * 4) (g n) ∙ length-puts g at n d

-- functions that agree below n store the same
pub puts_agree : (f g : ℕ → ℕ) (at n : ℕ) (d : List ℕ) → ((k : ℕ) → k < n → f k ≡ g k) → puts f at n d ≡ puts g at n d
unfolding puts
puts_agree f g at zero d h = refl
puts_agree f g at (suc n) d h =
    ap₂ (λ (s : List ℕ) (w : ℕ). put_word s (at + n * 4) w) (puts_agree f g at n d (λ k l. h k (omega arith))) (h n (omega arith))

-- a run goes on where the one before it ends
pub puts-on : (f g : ℕ → ℕ) (at k n : ℕ) (d : List ℕ) → ((i : ℕ) → i < n → f i ≡ g (k + i)) → puts f (at + k * 4) n (puts g at k d) ≡ puts g at (k + n) d
unfolding puts
puts-on f g at k zero d h = rw (add-zero k)
puts-on f g at k (suc n) d h =
    let e : k + suc n ≡ suc (k + n) = omega arith in
    let o : at + k * 4 + n * 4 ≡ at + (k + n) * 4 = omega arith in
    rw (e, o, puts-on f g at k n d (λ i l. h i (omega arith)), h n (omega arith))

-- the stored words, carried round at 2^32
pub word-puts : (g : ℕ → ℕ) (at n : ℕ) (d : List ℕ) → at + n * 4 ≤ length d → (k : ℕ) → k < n → word_at (puts g at n d) (at + k * 4) ≡ g k % 2 ^ 32
unfolding puts
word-puts g at zero d h k l = absurd (omega arith)
word-puts g at (suc n) d h k l =
    ⊎_elim
    (λ e. rw e (word_same (puts g at n d) (at + n * 4) (g n) (omega (arith, length-puts g at n d))))
    (λ m. word-other (puts g at n d) (at + n * 4) (g n) (at + k * 4) (inl (omega arith)) ∙ word-puts g at n d (omega arith) k m)
    (eq-or-lt_of_le (le_of_suc-le-suc l))

-- a run from the front on is the bytes of its words, and then what was there
pub puts_all : (g : ℕ → ℕ) (n : ℕ) (d : List ℕ) → n * 4 ≤ length d → puts g 0 n d ≡ front g n d
unfolding puts
puts_all g zero d h = sym (front_none g d)
puts_all g (suc n) d h =
    rw (zero-add, puts_all g n d (omega arith)) (front_more g n d (omega arith) ∙ rw add-one)
