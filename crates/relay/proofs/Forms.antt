-- The two forms of a kind: the origin has one, no kind is greater than 20, and a test of every kind, ordinary or short, is computed whole.
-- Each holds because a kind is its own ordinary form or is 16 greater than it.
use Prim.Native.Nat.{ℕ, ◌+◌, ◌-◌, ◌<◌}
use mathlib.Core.Path.{◌≡◌}
use mathlib.Core.Bool.{Bool, true, ◌&&◌}
use native.Mathlib.Omega.{arith}
use borrow.Author.Tests.{lt-leb}
use Rattle.relay.specs.Kinds.{origin, short, is_short, ordinary}
use Rattle.relay.proofs.Truth.{facts, and_facts, split, every, every_one}

-- an ordinary kind is its own ordinary form
pub small-form : (k : ℕ) → k < 5 → ordinary k ≡ k
unfolding ordinary is_short
small-form k h = rw (lt-leb 17 k (omega arith))

-- no kind is greater than 20
pub kind-few : (k : ℕ) → ordinary k < 5 → k < 21
unfolding ordinary is_short
kind-few k h = split (is_short k) (λ s. let b = simp facts at s in omega (arith, b)) (λ s. omega (arith, rw s at h))

-- 'Kinds 17, 18, 19 and 20 are the short forms of 1, 2, 3 and 4': the origin has none
pub origin-alone : (k : ℕ) → ordinary k ≡ origin → k ≡ origin
unfolding ordinary is_short
origin-alone k e = split (is_short k) (λ s. let b = simp facts at s in omega (arith, b, rw s at e)) (λ s. omega (arith, rw s at e))

-- a test of the five ordinary kinds, and of what is 16 greater: the four short forms, and 16, which is no kind
unfoldable pub every_kind : (ℕ → Bool) → Bool
every_kind f = every 5 f && every 5 (λ k. f (k + short))

-- what it says of a kind
pub every-kind : (f : ℕ → Bool) → every_kind f ≡ true → (k : ℕ) → ordinary k < 5 → f k ≡ true
unfolding every_kind ordinary is_short
every-kind f e k h =
    let t = (and_facts (every 5 f) (every 5 (λ k. f (k + short)))).0 e in
    split (is_short k)
    (λ s.
    let b = simp facts at s in
    let same : k - short + short ≡ k = omega (arith, b) in
    rw same at (every_one 5 (λ k. f (k + short)) t.1 (k - short) (omega (arith, b))))
    (λ s. every_one 5 f t.0 k (rw s at h))
