-- What a history says since a post's last release: that an announcement was received, that a passage was recorded. And at an ordinary post a passage is recorded only where an announcement was received.
-- By going down the history: the newest entry passes the test, or it is no release and what stands behind it says so.
-- Assumes nothing.
use Prim.Native.Nat.{ℕ, ◌+◌}
use mathlib.Core.Path.{◌≡◌, refl}
use mathlib.Core.Bool.{Bool, true, false, not, ◌&&◌, ◌||◌, false≢true}
use mathlib.Core.List.{List, [], ◌∷◌}
use native.Mathlib.Nat.{zero-add}
use Rattle.relay.proofs.Truth.{and_facts, facts, split}
use Rattle.history.specs.Demand.{Since}
use Rattle.history.specs.History.{Entry, announcement, releases, receives, announced, short_at, records, passed, records_passage, tally, releases_sent}

-- ---- since the last release
-- u says that an entry passed the test since the last release
pub record SaysSince (s : ℕ) (test : Entry → List Entry → Bool) (u : List Entry → Bool) : Type 0 where
  pub first : u [] ≡ false
  pub next : (x : Entry) (h : List Entry) → u (x ∷ h) ≡ (test x h || (not (releases s x) && u h))

module _ {s : ℕ} {test : Entry → List Entry → Bool} where
  -- it is the entry just added, or one before it, with no release between
  here : (x : Entry) (h : List Entry) → test x h ≡ true → Since s test (x ∷ h)
  unfolding releases_sent tally
  here x h e = record { later = []; entry = x; earlier = h; splits = refl; passes = e; unreleased = refl }

  before : (x : Entry) (h : List Entry) → releases s x ≡ false → Since s test h → Since s test (x ∷ h)
  unfolding releases_sent tally
  before x h f r =
      record {
        later = x ∷ r.later;
        entry = r.entry;
        earlier = r.earlier;
        splits = rw r.splits;
        passes = r.passes;
        unreleased = rw (f, zero-add) r.unreleased;
      }

  -- so there is one where u says so
  pub since : {u : List Entry → Bool} → SaysSince s test u → (h : List Entry) → u h ≡ true → Since s test h
  since U [] e = absurd (false≢true (rw U.first at e))
  since {u} U (x ∷ h) e =
      split (test x h)
      (λ t. here x h t)
      (λ t.
      let f = simp facts at (rw (U.next x h, t) at e) in
      before x h f.0 (since U h f.1))

-- An and KPg say this of announcements and passages
pub announced-since : (s : ℕ) → SaysSince s (receives announcement s) (announced s)
unfolding announced
announced-since s = record { first = refl; next = λ x h. refl }

pub passed-since : (ks : List ℕ) (s : ℕ) → SaysSince s (records_passage ks s) (passed ks s)
unfolding passed records_passage
passed-since ks s = record { first = refl; next = λ x h. refl }

-- at an ordinary post a passage is recorded with an announcement received
pub in_order : (ks : List ℕ) (s : ℕ) (x : Entry) (h : List Entry) → records_passage ks s x h ≡ true → short_at ks (s + 1) ≡ false → announced s h ≡ true
unfolding records_passage records
in_order ks s x h e f = (simp and_facts at (rw f at e)).1.0
