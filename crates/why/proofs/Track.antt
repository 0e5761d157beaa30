-- One event of a sheet, of one track or of two, and the line of one track: the event leaves that line as it leaves it where the line is alone, and only an event on that track does, or as it was. A refusal of 8, 9 or 13 is the one that the event's own line gives.
-- So what is known of an event on one line is known of an event of either form.
-- Assumes nothing.
use Prim.Native.Nat.{ℕ, ◌-◌, ◌≤◌, ◌<◌}
use mathlib.Core.Path.{◌≡◌, refl, sym, ◌∙◌}
use mathlib.Core.Bool.{Bool, true, false, not, ◌||◌}
use mathlib.Core.List.{List, [], ◌∷◌, ◌++◌}
use native.Mathlib.Omega.{arith}
use borrow.Author.Tests.{eqb-true, eqb-false}
use lib.Dec.{eqb}
use lib.ListN.{length, get_or}
use Rattle.history.proofs.Kind.{step-kinds}
use Rattle.history.specs.Run.{step}
use Rattle.relay.proofs.Frame.{answer_is, answer-small, length-stays, refused-alters-nothing}
use Rattle.relay.proofs.Truth.{or_facts, split}
use Rattle.relay.specs.Answers.{lDown, rlDown, rlUp}
use Rattle.relay.specs.Choice.{pick}
use Rattle.relay.specs.Examples.{ev_at}
use Rattle.relay.specs.Line.{After, event_of, numbered, answer_of as lineAnswer}
use Rattle.relay.specs.Posts.{at}
use Rattle.relay.specs.declared.Head.{Head}
use Rattle.relay.specs.declared.Post.{Post}
use Rattle.sheet.specs.Entry.{entry, number_of, post_of, answer_of, stamp_of}
use Rattle.sheet.specs.Layout.{two_tracks, unanswered}
use Rattle.sheet.specs.Sheet.{Tracked}
use Rattle.tracks.proofs.Answers.{on-answer-is}
use Rattle.tracks.proofs.Kept.{on_cases, two_cases, two_refused}
use Rattle.tracks.specs.Circuit.{AfterTwo, track_two, valid_two, met, at_last, answer_on, no_track, nowhere, event_two}
use Rattle.working.proofs.Both.{marked_at}
use Rattle.working.specs.Run.{track_of, marked, next_by, run_by}
use Rattle.why.specs.Why.{event_at, track_at, line_at, speaks}

-- ---- two tracks
module _ (P : List Post → Type 0) (c : ℕ) (l k : List Post) (s : Head) (track n i t : ℕ) where
  -- the first line, and the second
  on_first : (track ≡ 0 → P (event_of l s n i t).line) → P l → P (event_two c l k s track n i t).first
  on_first f g =
      two_cases (λ a. P a.first) c l k s track n i t
      (λ z. on_cases (λ a. P a.line) c l k s n i t (λ v r m. f z) (λ q. g))
      (λ z. g)
      (λ y z. g)

  on-second : (track ≡ 1 → P (event_of k s n i t).line) → P k → P (event_two c l k s track n i t).second
  on-second f g =
      two_cases (λ a. P a.second) c l k s track n i t
      (λ z. g)
      (λ z. on_cases (λ a. P a.line) c k l s n i t (λ v r m. f z) (λ q. g))
      (λ y z. g)

-- an answer that is neither 1 nor 25 is that of the line alone
abbrev Own : ℕ → Type 0
Own m = (m ≡ 1 → ⊥) × (m ≡ 25 → ⊥)

speaks-own : (m : ℕ) → speaks m ≡ true → Own m
unfolding speaks
speaks-own m =
    or_facts (eqb m lDown) (eqb m rlDown || eqb m rlUp)
    (λ e. let q = eqb-true m lDown e in (λ x. omega arith, λ x. omega arith))
    (or_facts (eqb m rlDown) (eqb m rlUp)
    (λ e. let q = eqb-true m rlDown e in (λ x. omega arith, λ x. omega arith))
    (λ e. let q = eqb-true m rlUp e in (λ x. omega arith, λ x. omega arith)))

on-own : (c : ℕ) (l k : List Post) (s : Head) (n i t m : ℕ) → Own m → answer_on c l k s n i t ≡ m → lineAnswer l s n i t ≡ m
unfolding answer_on
on-own c l k s n i t m o e =
    split (valid_two c l k s)
    (λ v.
    split (at_last (lineAnswer l s n i t) (met c k n i))
    (λ b. absurd (o.1 (sym (rw (v, b) at e))))
    (λ b. rw (v, b) at e))
    (λ v. absurd (o.0 (sym (rw v at e))))

two_own : (c : ℕ) (l k : List Post) (s : Head) (track n i t m : ℕ) → track < 2 → Own m → (event_two c l k s track n i t).told.answer ≡ m
    → lineAnswer (pick (eqb track track_two) k l) s n i t ≡ m
two_own c l k s track n i t m h o =
    two_cases (λ a. a.told.answer ≡ m → lineAnswer (pick (eqb track track_two) k l) s n i t ≡ m) c l k s track n i t
    (λ z e. rw z (on-own c l k s n i t m o (sym (on-answer-is c l k s n i t) ∙ e)))
    (λ z e. rw z (on-own c k l s n i t m o (sym (on-answer-is c k l s n i t) ∙ e)))
    (λ y z e. absurd (let q : track ≡ 0 = omega (arith, h, z) in y q))

-- no event is left unanswered
on_below : (c : ℕ) (l k : List Post) (s : Head) (n i t : ℕ) → answer_on c l k s n i t < unanswered
unfolding answer_on
on_below c l k s n i t =
    split (valid_two c l k s)
    (λ v.
    split (at_last (lineAnswer l s n i t) (met c k n i))
    (λ b. rw (v, b) (omega arith))
    (λ b. rw (v, b) (omega (arith, answer-small l s n i t))))
    (λ v. rw v (omega arith))

two_below : (c : ℕ) (l k : List Post) (s : Head) (track n i t : ℕ) → (event_two c l k s track n i t).told.answer < unanswered
unfolding nowhere no_track
two_below c l k s track n i t =
    two_cases (λ a. a.told.answer < unanswered) c l k s track n i t
    (λ z. rw (on-answer-is c l k s n i t) (on_below c l k s n i t))
    (λ z. rw (on-answer-is c k l s n i t) (on_below c k l s n i t))
    (λ y z. none (valid_two c l k s) (numbered n))
  where
    none : (x y : Bool) → pick (not x) 1 (pick (not y) 3 2) < 31
    none true true = omega arith
    none true false = omega arith
    none false y = omega arith

-- ---- either form: one event, and the line of a track
module _ (form c : ℕ) (a : AfterTwo) (e : List ℕ) where
  -- what the event makes of that line alone
  abbrev alone : ℕ → After
  alone track = event_of (line_at track a) a.told.head (number_of e) (post_of e) (stamp_of e)

  module _ (track : ℕ) where
    -- what holds of the line that the event leaves alone, where it is on that track, and of the line as it was, holds of the line after it
    pub line_cases : (P : List Post → Type 0)
        → ((form ≤ 2 → track_of e < form → track < form → track_of e ≡ track) → P (alone track).line) → P (line_at track a)
        → P (line_at track (next_by form c a e))
    unfolding next_by
    line_cases P =
        split (eqb track track_two)
        (λ two.
        split (eqb form two_tracks)
        (λ y. rw (two, y) (λ f g. on-second P c a.first a.second a.told.head (track_of e) (number_of e) (post_of e) (stamp_of e) (λ z. f (λ h i j. z ∙ sym (eqb-true track 1 two))) g))
        (λ y. rw (two, y) (λ f g. g)))
        (λ one.
        let other = eqb-false track 1 one in
        split (eqb form two_tracks)
        (λ y.
        let both = eqb-true form 2 y in
        rw (one, y) (λ f g. on_first P c a.first a.second a.told.head (track_of e) (number_of e) (post_of e) (stamp_of e) (λ z. f (λ h i j. omega (arith, z, j, other, both))) g))
        (λ y.
        let single = eqb-false form 2 y in
        rw (one, y) (λ f g. f (λ h i j. omega (arith, h, i, j, single)))))

    -- a refusal alters no line
    pub refused_same : ((next_by form c a e).told.answer ≡ 0 → ⊥) → line_at track (next_by form c a e) ≡ line_at track a
    unfolding next_by
    refused_same =
        split (eqb form two_tracks)
        (λ y.
        rw y (λ n.
        let z = two_refused c a.first a.second a.told.head (track_of e) (number_of e) (post_of e) (stamp_of e) n in
        rw (z.0, z.1) refl))
        (λ y.
        rw y (λ n.
        let z = refused-alters-nothing a.first a.told.head (number_of e) (post_of e) (stamp_of e) n in
        rw z.0 refl))

    -- none alters how many posts it has, nor their kinds
    next_long : length (line_at track (next_by form c a e)) ≡ length (line_at track a)
    next_long =
        line_cases (λ l. length l ≡ length (line_at track a)) (λ f. length-stays (line_at track a) a.told.head (number_of e) (post_of e) (stamp_of e)) refl

    next_kinds : (i : ℕ) → (at (line_at track (next_by form c a e)) i).kind ≡ (at (line_at track a) i).kind
    unfolding step
    next_kinds i =
        line_cases (λ l. (at l i).kind ≡ (at (line_at track a) i).kind)
        (λ f. step-kinds (ev_at (number_of e) (post_of e) (stamp_of e)) (record { history = []; line = line_at track a; head = a.told.head }) i)
        refl

  -- a refusal of 8, 9 or 13 is that of the event's own line
  pub own-answer : form ≤ 2 → track_of e < form → (m : ℕ) → speaks m ≡ true → (next_by form c a e).told.answer ≡ m
      → lineAnswer (line_at (track_of e) a) a.told.head (number_of e) (post_of e) (stamp_of e) ≡ m
  unfolding next_by
  own-answer h w m q =
      split (eqb form two_tracks)
      (λ y.
      let both = eqb-true form 2 y in
      rw y (two_own c a.first a.second a.told.head (track_of e) (number_of e) (post_of e) (stamp_of e) m (omega (arith, w, both)) (speaks-own m q)))
      (λ y.
      let single = eqb-false form 2 y in
      let none : track_of e ≡ 0 = omega (arith, h, w, single) in
      rw (y, none) (λ r. sym (answer_is a.first a.told.head (number_of e) (post_of e) (stamp_of e)) ∙ r))

  -- working answers every event
  pub answered_next : (next_by form c a e).told.answer < unanswered
  unfolding next_by
  answered_next =
      split (eqb form two_tracks)
      (λ y. rw y (two_below c a.first a.second a.told.head (track_of e) (number_of e) (post_of e) (stamp_of e)))
      (λ y.
      rw y (omega (arith, answer_is a.first a.told.head (number_of e) (post_of e) (stamp_of e), answer-small a.first a.told.head (number_of e) (post_of e) (stamp_of e))))

-- ---- the line of a track along the events
module _ (form c track : ℕ) where
  pub run_long : (a : AfterTwo) (es : List (List ℕ)) → length (line_at track (run_by form c a es)) ≡ length (line_at track a)
  unfolding run_by
  run_long a [] = refl
  run_long a (e ∷ es) = run_long (next_by form c a e) es ∙ next_long form c a e track

  pub run-kinds : (a : AfterTwo) (es : List (List ℕ)) (i : ℕ) → (at (line_at track (run_by form c a es)) i).kind ≡ (at (line_at track a) i).kind
  unfolding run_by
  run-kinds a [] i = refl
  run-kinds a (e ∷ es) i = run-kinds (next_by form c a e) es i ∙ next_kinds form c a e track i

-- ---- the events of a sheet
-- the event at position k with its track behind it, as a run takes it
abbrev pub ran_at : Tracked → ℕ → List ℕ
ran_at t k = get_or (marked t.events t.tracks) (k - 1) []

pub ran_at_lem : (t : Tracked) (k : ℕ) → 1 ≤ k → k ≤ length t.events
    → ran_at t k ≡ entry (number_of (event_at t k)) (post_of (event_at t k)) (answer_of (event_at t k)) (stamp_of (event_at t k)) ++ (track_at t k ∷ [])
ran_at_lem t k h l = marked_at t.events t.tracks (k - 1) (omega arith)
