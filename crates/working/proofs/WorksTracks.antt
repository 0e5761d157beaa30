-- Working a sheet of either form, by its outcomes: refused as reading, refused for an answer, refused for the output, or worked.
-- Assumes nothing.
use Prim.Native.Nat.{ℕ, ◌+◌, ◌/◌, ◌≤◌, ◌<◌}
use mathlib.Core.Path.{◌≡◌, refl, ap, ◌∙◌}
use mathlib.Core.Bool.{Bool, true, false, not, ◌&&◌, false≢true}
use mathlib.Core.List.{List, [], ◌∷◌, ◌++◌}
use native.Mathlib.Omega.{arith}
use borrow.Author.Tests.{eq-eqb, ne_eqb, le-leb, lt-leb, lt-ltb, le-ltb, eqb-true, eqb-false, leb-true, leb-false}
use lib.Dec.{eqb, ltb, leb}
use lib.ListN.{length, drop}
use Rattle.relay.proofs.Frame.{answer_is, answer-small}
use Rattle.relay.proofs.Truth.{and_facts, split, least_or_below}
use Rattle.relay.specs.Choice.{pick}
use Rattle.relay.specs.Line.{numbered, answer_of as lineAnswer}
use Rattle.relay.specs.declared.Head.{Head}
use Rattle.relay.specs.declared.Post.{Post}
use Rattle.sheet.proofs.Accepts.{accepted-good}
use Rattle.sheet.proofs.Rooms.{entries-few, bytes_are}
use Rattle.sheet.proofs.TripRead.{events-long, said-form, said-table, said-fields, said-tracks}
use Rattle.sheet.specs.Entry.{number_of, post_of, answer_of, stamp_of, in_fields}
use Rattle.sheet.specs.Layout.{per_block, contents_wrong, room_short, two_tracks}
use Rattle.sheet.specs.Reading.{form_ok, table_fits, blocks_in, verdict, verdict_up_to, decode, decode_tracked}
use Rattle.sheet.specs.Sheet.{Tracked, circuit_of, encode_tracked}
use Rattle.sheet.specs.Writing.{all_in_fields, tracks_fit, bytes_for, size_number, tracked_number, leaves, may_start, all_fit}
use Rattle.sheet.specs.Refusals.{refusal_code}
use Rattle.sheet.specs.declared.refusal.Refusal.{Refusal}
use Rattle.sheet.specs.declared.refusal.Refusal.TheVariants.{Contents, RoomShort}
use Rattle.sheet.proofs.Good.{Good}
use Rattle.sheet.proofs.Refusals.{refuses, number_is}
use Rattle.std.proofs.Common.{Some, Result, Ok, Err, IfOk}
use Rattle.std.specs.Prelude.{is_err}
use Rattle.working.specs.declared.Session.{Session}
use Rattle.sheet.specs.declared.Verdict.{Verdict}
use Rattle.tracks.specs.Circuit.{AfterTwo, valid_two, met, at_last, nowhere, no_track, answer_on, event_on, event_two}
use Rattle.tracks.proofs.Kept.{on_cases, two_cases}
use Rattle.working.specs.Run.{marked, begun_by, next_by, run_by, answered_by, answers_by}
use Rattle.working.specs.Working.{first_answered, session, outcome, outcome_bytes, worked_tracks_of, end_of, session_at_end, ran_by, ran_events_by, worked_tracked, refused_tracks, end_tracks, work_verdict_up_to, work_tracks_of, worked_tracks_bytes, WorksTracks}
use Rattle.working.proofs.Along.{said-long}
use Rattle.working.proofs.Both.{marked-long}
use Rattle.working.proofs.Steps.{goes_by}

module _ (s : List ℕ) (out : List ℕ) where
  -- ---- the outcomes
  refuse_with : (v : Verdict) → work_verdict_up_to two_tracks s (length out) ≡ v → (v.number ≡ 0 → ⊥) → WorksTracks s (refused_tracks v) out out
  unfolding work_tracks_of worked_tracks_bytes
  refuse_with v e n = let h : eqb v.number 0 ≡ false = ne_eqb v.number 0 n in (rw (e, h) refl, rw (e, h) refl)

  pub works_unread : eqb (verdict_up_to two_tracks s).number 0 ≡ false → WorksTracks s (refused_tracks (verdict_up_to two_tracks s)) out out
  unfolding work_verdict_up_to
  works_unread h = refuse_with (verdict_up_to two_tracks s) (rw h refl) (eqb-false (verdict_up_to two_tracks s).number 0 h)

  -- a sheet that is worked was accepted
  pub accepts : (m : ℕ) → (work_tracks_of s m).number ≡ 0 → (verdict_up_to two_tracks s).number ≡ 0
  unfolding work_tracks_of work_verdict_up_to
  accepts m e =
      split (eqb (verdict_up_to two_tracks s).number 0)
      (λ t. eqb-true (verdict_up_to two_tracks s).number 0 t)
      (λ f. let same : work_verdict_up_to two_tracks s m ≡ verdict_up_to two_tracks s = rw f refl in rw (same, f) at e)

  module _ (z : (verdict_up_to two_tracks s).number ≡ 0) where
    read : eqb (verdict_up_to two_tracks s).number 0 ≡ true
    read = eq-eqb (verdict_up_to two_tracks s).number 0 z

    -- the events are the same in either form
    same : (decode s).events ≡ (decode_tracked s).events
    unfolding decode decode_tracked
    same = refl

    pub works_answered : first_answered (decode_tracked s).events < length (decode_tracked s).events → WorksTracks s (refused_tracks (verdict contents_wrong (1 + first_answered (decode_tracked s).events / per_block))) out out
    unfolding work_verdict_up_to
    works_answered h = refuse_with _ (rw (same, read, lt-ltb _ _ h) refl) (λ e. omega arith)

    module _ (fresh : length (decode_tracked s).events ≤ first_answered (decode_tracked s).events) where
      pub works_short : length out < length s → WorksTracks s (refused_tracks (verdict room_short 0)) out out
      unfolding work_verdict_up_to
      works_short h = refuse_with _ (rw (same, read, le-ltb _ _ fresh, lt-leb _ _ h) refl) (λ e. omega arith)

      pub works_worked : length s ≤ length out → WorksTracks s (end_tracks (decode_tracked s)) out (encode_tracked (worked_tracked (decode_tracked s)) ++ drop (length s) out)
      unfolding work_tracks_of worked_tracks_bytes work_verdict_up_to
      works_worked h =
          let taken : work_verdict_up_to two_tracks s (length out) ≡ verdict 0 0 = rw (same, read, le-ltb _ _ fresh, le-leb _ _ h) refl in
          (rw (same, read, le-ltb _ _ fresh, le-leb _ _ h) refl, rw (same, read, le-ltb _ _ fresh, le-leb _ _ h) refl)

-- ---- writing the answers
-- an answer is in its field
on-small : (c : ℕ) (l k : List Post) (s : Head) (n i t : ℕ) → (event_on c l k s n i t).told.answer < 32
unfolding answer_on
on-small c l k s n i t =
    on_cases (λ a. a.told.answer < 32) c l k s n i t
    (λ v r m. omega (arith, answer_is l s n i t, answer-small l s n i t))
    (λ f.
    split (valid_two c l k s)
    (λ v. split (at_last (lineAnswer l s n i t) (met c k n i)) (λ b. rw (v, b) (omega arith)) (λ b. rw (v, b) (omega (arith, answer-small l s n i t))))
    (λ v. rw v (omega arith)))

two_small : (c : ℕ) (l k : List Post) (s : Head) (track n i t : ℕ) → (event_two c l k s track n i t).told.answer < 32
unfolding nowhere no_track
two_small c l k s track n i t =
    two_cases (λ a. a.told.answer < 32) c l k s track n i t
    (λ z. on-small c l k s n i t)
    (λ z. on-small c k l s n i t)
    (λ y z. nowhere-small (valid_two c l k s) (numbered n))
  where
    nowhere-small : (a b : Bool) → pick (not a) 1 (pick (not b) 3 2) < 32
    nowhere-small true true = omega arith
    nowhere-small true false = omega arith
    nowhere-small false b = omega arith

pub next_small : (form c : ℕ) (a : AfterTwo) (e : List ℕ) → (next_by form c a e).told.answer < 32
unfolding next_by
next_small form c a e =
    split (eqb form two_tracks)
    (λ y. rw y (two_small c a.first a.second a.told.head _ _ _ _))
    (λ y. rw y (omega (arith, answer_is a.first a.told.head (number_of e) (post_of e) (stamp_of e), answer-small a.first a.told.head (number_of e) (post_of e) (stamp_of e))))

fields_one : (n : ℕ) (e : List ℕ) → n < 32 → in_fields e ≡ true → in_fields (answered_by e n) ≡ true
unfolding in_fields
fields_one n e small h =
    let f = (and_facts (ltb (number_of e) 32) (ltb (post_of e) 64 && ltb (answer_of e) 32)).0 h in
    let g = (and_facts (ltb (post_of e) 64) (ltb (answer_of e) 32)).0 f.1 in
    rw (f.0, g.0, lt-ltb n 32 small)

pub fields_kept : (form c : ℕ) (a : AfterTwo) (es : List (List ℕ)) → all_in_fields es ≡ true → all_in_fields (answers_by form c a es) ≡ true
unfolding all_in_fields answers_by
fields_kept form c a [] h = refl
fields_kept form c a (e ∷ es) h =
    let f = (and_facts (in_fields e) (all_in_fields es)).0 h in
    rw (fields_one _ e (next_small form c a e) f.0) (fields_kept form c (next_by form c a e) es f.1)

marked-fields : (es : List (List ℕ)) (ts : List ℕ) → all_in_fields es ≡ true → all_in_fields (marked es ts) ≡ true
unfolding all_in_fields marked in_fields
marked-fields [] ts h = refl
marked-fields (e ∷ es) ts h =
    let f = (and_facts (ltb (number_of e) 32 && (ltb (post_of e) 64 && ltb (answer_of e) 32)) (all_in_fields es)).0 h in
    rw f.0 (marked-fields es (drop 1 ts) f.1)

-- as many events as before
pub worked-long : (t : Tracked) → length (worked_tracked t).events ≡ length t.events
worked-long t = said-long (goes_by t.form (circuit_of t.table)) _ (marked t.events t.tracks) ∙ marked-long t.events t.tracks

-- ---- what is refused before the events are run, by the events alone
module _ (t : Tracked) where
  pub outcome_answered : (m i : ℕ) → (i ≡ first_answered t.events) × (first_answered t.events < length t.events) → Err (Contents (1 + i / per_block)) ≡ outcome t m
  unfolding outcome
  outcome_answered m i f = rw (f.0, lt-ltb _ _ f.1) refl

  pub outcome_short : (m : ℕ) → length t.events ≤ first_answered t.events → m < bytes_for (length t.events) → Err RoomShort ≡ outcome t m
  unfolding outcome
  outcome_short m fresh h = rw (le-ltb _ _ fresh, lt-leb _ _ h) refl

  -- and the output stays
  pub outcome_stays : (out : List ℕ) → is_err (outcome t (length out)) ≡ true → out ≡ outcome_bytes t out
  unfolding outcome_bytes outcome leaves
  outcome_stays out e =
      split (ltb (first_answered t.events) (length t.events))
      (λ f. rw f refl)
      (λ f.
      split (leb (bytes_for (length t.events)) (length out))
      (λ h. absurd (false≢true (rw (f, h) at e)))
      (λ h. rw (f, h) refl))

-- ---- answering a sheet that reading took: its table is right, and all is in its field
module _ (t : Tracked) (start : may_start t ≡ true) (fit : all_fit t ≡ true) (few : length t.events ≤ 3780) where
  -- the worked sheet can be written where the output is long enough
  worked_number : (m : ℕ) → tracked_number (worked_tracked t) m ≡ pick (not (leb (bytes_for (length t.events)) m)) room_short 0
  unfolding tracked_number size_number
  worked_number m =
      let f = (and_facts (all_in_fields t.events) (tracks_fit t.form (length t.events) t.tracks)).0 fit in
      let fields : all_in_fields (worked_tracked t).events ≡ true = fields_kept _ _ _ (marked t.events t.tracks) (marked-fields t.events t.tracks f.0) in
      rw (start, fields, worked-long t, f.1, le-leb (length t.events) 3780 few) refl

  module _ (fresh : length t.events ≤ first_answered t.events) where
    -- what writing the worked sheet returns is the outcome's
    pub outcome_number : (m : ℕ) → refusal_code (outcome t m) ≡ tracked_number (worked_tracked t) m
    unfolding outcome
    outcome_number m =
        split (leb (bytes_for (length t.events)) m)
        (λ h. rw (worked_number m, le-ltb _ _ fresh, h) refl)
        (λ h. rw (worked_number m, le-ltb _ _ fresh, h) refl)

    pub outcome_left : (out : List ℕ) → leaves (worked_tracked t) (tracked_number (worked_tracked t) (length out)) out ≡ outcome_bytes t out
    unfolding outcome_bytes
    outcome_left out = rw (outcome_number (length out)) refl

    -- it is written where the output is long enough
    pub written : (m : ℕ) → bytes_for (length t.events) ≤ m → (r : Result (Unit {0}) Refusal) → refusal_code r ≡ tracked_number (worked_tracked t) m → ((x : Unit {0}) → r ≡ Ok x → ⊥) → ⊥
    written m h (Ok x) e n = n x refl
    written m h (Err r) e n = refuses r (number_is r ∙ e ∙ worked_number m ∙ rw (le-leb _ _ h) refl)

    pub outcome_worked : (m : ℕ) → 0 ≡ tracked_number (worked_tracked t) m → Ok (session t.form (circuit_of t.table) (end_of t)) ≡ outcome t m
    unfolding outcome
    outcome_worked m e =
        split (leb (bytes_for (length t.events)) m)
        (λ h. rw (le-ltb _ _ fresh, h) refl)
        (λ h. let n = rw h at (e ∙ worked_number m) in absurd (omega (arith, n)))

-- what is not refused is the session at the end
pub outcome_ends : (t : Tracked) (m : ℕ) → IfOk (outcome t m) (λ end. end ≡ session_at_end t)
unfolding outcome
outcome_ends t m =
    split (ltb (first_answered t.events) (length t.events))
    (λ f. rw f tt)
    (λ f. split (leb (bytes_for (length t.events)) m) (λ h. rw (f, h) refl) (λ h. rw (f, h) tt))

module _ (s : List ℕ) (z : (verdict_up_to two_tracks s).number ≡ 0) where
  abbrev d : Tracked
  d = decode_tracked s

  g : Good two_tracks (blocks_in (length s)) s
  g = accepted-good two_tracks s z

  pub said_start : may_start d ≡ true
  said_start = rw (said-form two_tracks (blocks_in (length s)) s g (omega arith), said-table two_tracks (blocks_in (length s)) s g (omega arith)) refl

  pub said_fit : all_fit d ≡ true
  said_fit = rw (said-fields two_tracks (blocks_in (length s)) s g (omega arith), said-tracks two_tracks (blocks_in (length s)) s g (omega arith)) refl

  pub said_few : length d.events ≤ 3780
  said_few = omega (arith, events-long s, entries-few two_tracks s z)

  pub said_size : bytes_for (length d.events) ≡ length s
  said_size = ap bytes_for (events-long s) ∙ bytes_are two_tracks s z

  -- the outcome is that of working
  pub works_as : (out out' : List ℕ) (r : Result Session Refusal) → r ≡ outcome d (length out) → out' ≡ outcome_bytes d out → WorksTracks s (worked_tracks_of r) out out'
  unfolding outcome outcome_bytes leaves
  works_as out out' r e w =
      least_or_below (length d.events) (first_answered d.events)
      (λ f.
      split (leb (bytes_for (length d.events)) (length out))
      (λ h. rw (e, w, le-ltb _ _ f, h, worked-long d, said_size) (works_worked s out z f (leb-true _ _ (rw said_size at h))))
      (λ h. rw (e, w, le-ltb _ _ f, h) (works_short s out z f (leb-false _ _ (rw said_size at h)))))
      (λ f. rw (e, w, lt-ltb _ _ f) (works_answered s out z f))

-- ---- running a right table
module _ (form : ℕ) (ks : List ℕ) (t : ℕ) (es : List (List ℕ)) (ts : List ℕ) (h : (form_ok two_tracks form && table_fits form ks) ≡ true) where
  pub ran_is : ran_by form ks t es ts ≡ Some (session form (circuit_of ks) (run_by form (circuit_of ks) (begun_by form ks t) (marked es ts)))
  unfolding ran_by
  ran_is = rw h refl

  pub ran_events_are : ran_events_by form ks t es ts ≡ answers_by form (circuit_of ks) (begun_by form ks t) (marked es ts)
  unfolding ran_events_by
  ran_events_are = rw h refl
