-- The last event that made it so, over the states of the run: before it it was not so, after it and after every later one it is; only one event fits that. Where no event made it so, it is so from the start.
-- It holds because from a state in which it is so one can go back, event by event, to the last before which it was not.
-- Assumes nothing.
use Prim.Native.Nat.{ℕ, zero, suc, ◌-◌, ◌≤◌, ◌<◌}
use mathlib.Core.Path.{◌≡◌, refl, sym, ◌∙◌}
use mathlib.Core.Logic.{◌⊎◌, inl, inr, ⊎_elim}
use mathlib.Core.Bool.{true, false, false≢true}
use native.Mathlib.Omega.{arith}
use Rattle.relay.proofs.Truth.{split, equal_or_not, least_or_below}
use Rattle.sheet.specs.Sheet.{Tracked}
use Rattle.why.specs.Why.{so_after, last_made}

-- event j made what refusal n says so at post p of a track, and no later one before event k undid it
pub record Made (t : Tracked) (track n p k j : ℕ) : Type 0 where
  pub least : 1 ≤ j
  pub earlier : j < k
  pub was_not : so_after t track n p (j - 1) ≡ false
  pub stays : (i : ℕ) → j ≤ i → i < k → so_after t track n p i ≡ true

-- it is so in every state before event k
abbrev pub Always : Tracked → ℕ → ℕ → ℕ → ℕ → Type 0
Always t track n p k = (i : ℕ) → i < k → so_after t track n p i ≡ true

-- ---- only one event fits
module _ {t : Tracked} {track n p k : ℕ} where
  not_later : {i j : ℕ} → Made t track n p k i → Made t track n p k j → i < j → ⊥
  not_later {j = j} a b h = false≢true (sym b.was_not ∙ a.stays (j - 1) (omega arith) (omega (arith, b.earlier)))

  pub only_one : {i j : ℕ} → Made t track n p k i → Made t track n p k j → i ≡ j
  only_one {i} {j} a b =
      least_or_below i j
      (λ h. equal_or_not i j (λ e. e) (λ e. absurd (not_later a b (omega arith))))
      (λ h. absurd (not_later b a h))

  -- and none where it is so from the start
  pub not_always : {j : ℕ} → Made t track n p k j → Always t track n p k → ⊥
  not_always {j} a f = false≢true (sym a.was_not ∙ f (j - 1) (omega (arith, a.earlier)))

-- ---- the definition's event fits
module _ (t : Tracked) (track n p : ℕ) where
  -- what the definition says after the first m events, where it is so then
  abbrev Found : ℕ → Type 0
  Found m = ((last_made t track n p m ≡ 0) × Always t track n p (suc m)) ⊎ Made t track n p (suc m) (last_made t track n p m)

  goes_on_lem : (m : ℕ) → so_after t track n p m ≡ true → so_after t track n p (suc m) ≡ true → Found m → Found (suc m)
  unfolding last_made
  goes_on_lem m a b f =
      rw a
      (⊎_elim
      (λ g. inl (g.0, λ i h. equal_or_not i (suc m) (λ e. rw e b) (λ e. g.1 i (omega arith))))
      (λ g.
      inr (record {
        least = g.least;
        earlier = omega (arith, g.earlier);
        was_not = g.was_not;
        stays = λ i h k. equal_or_not i (suc m) (λ e. rw e b) (λ e. g.stays i h (omega arith));
      }))
      f)

  begins : (m : ℕ) → so_after t track n p m ≡ false → so_after t track n p (suc m) ≡ true → Found (suc m)
  unfolding last_made
  begins m a b =
      let back : suc m - 1 ≡ m = omega arith in
      rw (a, b)
      (inr (record {
        least = omega arith;
        earlier = omega arith;
        was_not = rw back a;
        stays = λ i h k. let e : i ≡ suc m = omega arith in rw e b;
      }))

  pub last_made_lem : (m : ℕ) → so_after t track n p m ≡ true → Found m
  unfolding last_made
  last_made_lem zero b = inl (refl, λ i h. let e : i ≡ 0 = omega arith in rw e b)
  last_made_lem (suc m) b = split (so_after t track n p m) (λ a. goes_on_lem m a b (last_made_lem m a)) (λ a. begins m a b)
