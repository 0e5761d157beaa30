-- Texts one after the other: how long they are together. Each holds by how many there are.
-- Assumes nothing.
use Prim.Native.Nat.{ℕ, zero, suc, ◌+◌, ◌-◌, ◌*◌, ◌≤◌, ◌<◌}
use mathlib.Core.Path.{◌≡◌, refl, sym, ap, ◌∙◌}
use mathlib.Core.List.{List, [], ◌++◌, append_assoc, append-nil}
use native.Mathlib.Numerals.{add-one}
use native.Mathlib.Omega.{arith}
use lib.ListN.{length, length-append}
use Rattle.digits.specs.Texts.{joined}

module _ (f : ℕ → List ℕ) where
  pub joined_none : joined f 0 ≡ []
  unfolding joined
  joined_none = refl

  -- one text more
  pub joined_more : (n : ℕ) → joined f (n + 1) ≡ joined f n ++ f n
  unfolding joined
  joined_more n = rw add-one refl

  pub joined-long : (n : ℕ) → length (joined f (n + 1)) ≡ length (joined f n) + length (f n)
  joined-long n = ap (λ (xs : List ℕ). length xs) (joined_more n) ∙ length-append (joined f n) (f n)

  -- the first m of n are no longer than all
  grows : (m n : ℕ) → length (joined f m) ≤ length (joined f (m + n))
  grows m zero = let e : m + 0 ≡ m = omega arith in rw e (omega arith)
  grows m (suc n) =
      let e : m + suc n ≡ m + n + 1 = omega arith in
      rw e (omega (arith, grows m n, joined-long (m + n)))

  pub joined_upto : (m n : ℕ) → m ≤ n → length (joined f m) ≤ length (joined f n)
  joined_upto m n h = let e : n ≡ m + (n - m) = omega arith in rw e (grows m (n - m))

  -- the first m, and then n more
  pub joined-split : (m n : ℕ) → joined f (m + n) ≡ joined f m ++ joined (λ i. f (m + i)) n
  unfolding joined
  joined-split m zero = let e : m + 0 ≡ m = omega arith in rw e (sym (append-nil (joined f m)))
  joined-split m (suc n) =
      let e : m + suc n ≡ m + n + 1 = omega arith in
      rw e
      (joined_more (m + n) ∙ ap (λ (t : List ℕ). t ++ f (m + n)) (joined-split m n)
      ∙ append_assoc (joined f m) (joined (λ i. f (m + i)) n) (f (m + n)))

-- n texts of at most k bytes each
pub joined-within : (f : ℕ → List ℕ) (k n : ℕ) → ((i : ℕ) → i < n → length (f i) ≤ k) → length (joined f n) ≤ n * k
unfolding joined
joined-within f k zero h = omega arith
joined-within f k (suc n) h =
    rw length-append (omega (arith, joined-within f k n (λ i l. h i (omega arith)), h n (omega arith)))
