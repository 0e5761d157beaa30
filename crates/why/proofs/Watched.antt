-- The watch over a relay, one event more: what stands up to the chosen event is the last event before it that made it so.
-- Assumes nothing.
use Prim.Native.Nat.{ℕ, suc, ◌+◌, ◌-◌, ◌≤◌}
use mathlib.Core.Path.{◌≡◌, sym}
use mathlib.Core.Bool.{Bool, not, ◌&&◌, ◌||◌, or-true, or-false}
use native.Mathlib.Numerals.{add-one}
use native.Mathlib.Omega.{arith}
use borrow.Author.Tests.{le-leb, lt-leb, le-ltb, lt-ltb}
use lib.Dec.{leb, ltb}
use Rattle.relay.proofs.Truth.{least_or_below}
use Rattle.relay.specs.Choice.{pick}

-- how many of the first i events come before position k
unfoldable pub up_to : ℕ → ℕ → ℕ
up_to k i = pick (ltb i k) i (k - 1)

-- f is what stands after so many events: at each the event itself where it made it so, else what stood before
module _ (f : ℕ → ℕ) (k : ℕ) (h : 1 ≤ k) where
  pub none_yet : f 0 ≡ f (up_to k 0)
  unfolding up_to
  none_yet = rw (lt-ltb 0 k h)

  pub one_more : (i : ℕ) (was is : Bool) → f (suc i) ≡ pick (not was && is) (suc i) (f i)
      → pick (not (was || leb k (i + 1)) && is) (i + 1) (f (up_to k i)) ≡ f (up_to k (i + 1))
  unfolding up_to
  one_more i was is e =
      least_or_below k (i + 1)
      (λ l.
      let last : pick (ltb i k) i (k - 1) ≡ k - 1 =
      least_or_below k i (λ m. rw (le-ltb i k m)) (λ m. rw (lt-ltb i k m) (omega arith)) in
      rw (le-leb k (i + 1) l, le-ltb (i + 1) k l, or-true was, last))
      (λ l.
      rw (lt-leb k (i + 1) l, lt-ltb (i + 1) k l, lt-ltb i k (omega arith), or-false was, add-one i) (sym e))

  pub all_watched : (i : ℕ) → k ≤ i → up_to k i ≡ k - 1
  unfolding up_to
  all_watched i l = rw (le-ltb i k l)
