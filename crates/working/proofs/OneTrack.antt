-- A sheet of one track among those of either form: its table, events and run are those of one track, with no line beside it. And any sheet that does not say 2 is refused as one of one track.
-- Assumes nothing.
use Prim.Native.Nat.{ℕ, zero, suc, ◌+◌, ◌≤◌, ◌<◌}
use mathlib.Core.Path.{◌≡◌, refl, sym, ap, ◌∙◌}
use mathlib.Core.List.{List, [], ◌∷◌}
use native.Mathlib.Omega.{arith}
use lib.Dec.{eqb}
use lib.ListN.{length, get_or, take, drop, replicate, length-replicate, get_or-replicate}
use lib.Seq.{ext_get_or}
use Rattle.std.proofs.Common.{Some, None, Result, Ok, Err}
use Rattle.std.specs.Prelude.{is_err}
use Rattle.relay.proofs.Truth.{split}
use Rattle.relay.specs.Choice.{pick}
use Rattle.relay.specs.Kinds.{table_ok}
use Rattle.relay.specs.Line.{After}
use Rattle.relay.specs.declared.Post.{Post}
use Rattle.sheet.proofs.Forms.{same_reading, taken_too, on-track}
use Rattle.sheet.proofs.Rooms.{form_one, events-long}
use Rattle.sheet.proofs.Table.{words_one}
use Rattle.sheet.proofs.TripRead.{form_is, tracks-long}
use Rattle.sheet.proofs.TripWritten.{same_sheet}
use Rattle.sheet.specs.Check.{word}
use Rattle.sheet.specs.Layout.{one_track, two_tracks}
use Rattle.sheet.specs.Reading.{form_ok, table_fits, form_in, verdict_of, decode, decode_tracked}
use Rattle.sheet.specs.Sheet.{Sheet, circuit_of, of_one, encode}
use Rattle.sheet.specs.Words.{tab}
use Rattle.sheet.specs.Writing.{written}
use Rattle.sheet.specs.declared.refusal.Refusal.{Refusal}
use Rattle.row.specs.Row.{row_of}
use Rattle.tracks.specs.Circuit.{AfterTwo, beside}
use Rattle.working.proofs.Steps.{answered-long}
use Rattle.working.proofs.Works.{said-table, works_worked, writes-worked}
use Rattle.working.proofs.WorksTracks.{outcome_stays, works_as}
use Rattle.working.specs.Run.{begun, next, run, answered_by, answered, marked, begun_by, next_by, run_by, answers_by}
use Rattle.working.specs.Working.{first_answered, session, session_at_end, outcome, ran_by, ran_events_by, worked_of, worked_tracks_of, work_of, work_tracks_of, worked_bytes, worked_tracks_bytes, Works, WorksTracks, worked, end_of, worked_tracked, work_verdict, work_verdict_up_to}
use Rattle.working.specs.declared.Session.{Session}
use Rattle.working.specs.declared.Worked.{Worked}
use Rattle.working.specs.declared.WorkedTracks.{WorkedTracks}

-- ---- the run of one track, beside a line that stays
pub one_run : (c : ℕ) (a : After) (k : List Post) (es : List (List ℕ)) (ts : List ℕ) (i : ℕ)
    → run_by one_track c (beside a k) (take i (marked es ts)) ≡ beside (run a (take i es)) k
unfolding run_by run marked next_by
one_run c a k es ts zero = refl
one_run c a k [] ts (suc i) = refl
one_run c a k (e ∷ es) ts (suc i) = one_run c (next a e) k es (drop 1 ts) i

one_runs : (c : ℕ) (a : After) (k : List Post) (es : List (List ℕ)) (ts : List ℕ) → run_by one_track c (beside a k) (marked es ts) ≡ beside (run a es) k
unfolding run_by run marked next_by
one_runs c a k [] ts = refl
one_runs c a k (e ∷ es) ts = one_runs c (next a e) k es (drop 1 ts)

one_answers : (c : ℕ) (a : After) (k : List Post) (es : List (List ℕ)) (ts : List ℕ) → answers_by one_track c (beside a k) (marked es ts) ≡ answered a es
unfolding answers_by answered marked next_by
one_answers c a k [] ts = refl
one_answers c a k (e ∷ es) ts = ap (λ (l : List (List ℕ)). answered_by e (next a e).told.answer ∷ l) (one_answers c (next a e) k es (drop 1 ts))

-- ---- any sheet that does not say 2, good or bad: what working refuses of it
pub same_work : (s : List ℕ) (m : ℕ) → (form_in s ≡ two_tracks → ⊥) → work_verdict_up_to two_tracks s m ≡ work_verdict s m
unfolding work_verdict_up_to
same_work s m n = rw (same_reading s n) refl

-- ---- an accepted sheet of one track
module _ (s : List ℕ) (z : (verdict_of s).number ≡ 0) where
  pub one : (decode_tracked s).form ≡ one_track
  one = form_is s ∙ form_one s z

  -- its table is that of its kinds
  pub table_one : (decode_tracked s).table ≡ (decode s).kinds
  unfolding decode decode_tracked
  table_one = ap (λ (n : ℕ). tab (λ i. word s 0 (3 + i)) n) (words_one s (λ e. omega (arith, e, form_one s z)))

  pub stamp_one : (decode_tracked s).stamp ≡ (decode s).stamp
  unfolding decode decode_tracked
  stamp_one = refl

  pub events_one : (decode_tracked s).events ≡ (decode s).events
  unfolding decode decode_tracked
  events_one = refl

  -- what stands at its end, and the answers that it gets
  pub end_one : end_of (decode_tracked s) ≡ beside (run (begun (decode s).kinds (decode s).stamp) (decode s).events) []
  unfolding begun_by
  end_one =
      rw (one, table_one, stamp_one, events_one)
      (one_runs (circuit_of (decode s).kinds) (begun (decode s).kinds (decode s).stamp) [] (decode s).events (decode_tracked s).tracks)

  pub worked_one : (worked_tracked (decode_tracked s)).events ≡ (worked (decode s)).events
  unfolding begun_by
  worked_one =
      rw (one, table_one, stamp_one, events_one)
      (one_answers (circuit_of (decode s).kinds) (begun (decode s).kinds (decode s).stamp) [] (decode s).events (decode_tracked s).tracks)

-- ---- running a table of one track, whichever track each event names
module _ (ks : List ℕ) (t : ℕ) (es : List (List ℕ)) (ts : List ℕ) where
  pub ran_one : ran_by one_track ks t es ts ≡ pick (table_ok ks) (Some (session one_track (circuit_of ks) (beside (run (begun ks t) es) []))) None
  unfolding ran_by form_ok table_fits begun_by
  ran_one = rw (one_runs (circuit_of ks) (begun ks t) [] es ts) refl

  pub ran_events_one : ran_events_by one_track ks t es ts ≡ pick (table_ok ks) (answered (begun ks t) es) es
  unfolding ran_events_by form_ok table_fits begun_by
  ran_events_one = rw (one_answers (circuit_of ks) (begun ks t) [] es ts) refl

-- ---- working a sheet of one track as one of either form
-- its worked sheet is the worked sheet of its form
worked_as : (t : Sheet) → worked_tracked (of_one t) ≡ of_one (worked t)
unfolding begun_by
worked_as t =
    let same : (worked_tracked (of_one t)).events ≡ (worked t).events =
    one_answers (circuit_of t.kinds) (begun t.kinds t.stamp) [] t.events (replicate (length t.events) 0) in
    let long = answered-long (begun t.kinds t.stamp) t.events in
    rw (same, long) refl

end_as : (t : Sheet) → end_of (of_one t) ≡ beside (run (begun t.kinds t.stamp) t.events) []
unfolding begun_by
end_as t = one_runs (circuit_of t.kinds) (begun t.kinds t.stamp) [] t.events (replicate (length t.events) 0)

-- what is told of it
abbrev first_of : WorkedTracks → Worked
first_of w = record { number = w.number; block = w.block; position = w.position; row = w.first; head = w.head }

abbrev at_end : AfterTwo → Worked
at_end a = record { number = 0; block = 0; position = 0; row = row_of a.first; head = a.told.head }

told_one : (r : Result Session Refusal) → worked_of r ≡ first_of (worked_tracks_of r)
told_one (Ok _) = refl
told_one (Err _) = refl

module _ (s : List ℕ) (z : (verdict_of s).number ≡ 0) where
  -- its events are all on track 0
  tracks_one : (decode_tracked s).tracks ≡ replicate (length (decode s).events) 0
  tracks_one =
      let n = length (decode s).events in
      let long : length (decode_tracked s).tracks ≡ n = tracks-long s ∙ sym (events-long s) in
      ext_get_or 0 (decode_tracked s).tracks (replicate n 0) (long ∙ sym (length-replicate n 0)) (λ i h.
      let l : i < n = rw long at h in
      let zero : get_or (decode_tracked s).tracks i 0 ≡ 0 = omega (arith, one s z, on-track one_track (omega arith) s z i) in
      zero ∙ sym (get_or-replicate n i 0 0 l))

  says_one : decode_tracked s ≡ of_one (decode s)
  says_one = same_sheet _ _ (one s z) (stamp_one s z) (table_one s z) (events_one s z) tracks_one

  -- the outcome is that of working
  pub works_one : (out out' : List ℕ) (r : Result Session Refusal) → WorksTracks s (worked_tracks_of r) out out' → Works s (worked_of r) out out'
  unfolding work_of work_tracks_of worked_bytes worked_tracks_bytes encode
  works_one out out' r w =
      let v = same_work s (length out) (λ e. omega (arith, e, form_one s z)) in
      let told : first_of (work_tracks_of s (length out)) ≡ work_of s (length out) =
      split (eqb (work_verdict s (length out)).number 0)
      (λ t. rw (v, t) (ap at_end (end_one s z)))
      (λ t. rw (v, t) refl) in
      (told_one r ∙ ap first_of w.0 ∙ told, w.1 ∙ rw (v, says_one, worked_as (decode s)) refl)

  -- running what it says ends where it ends, and gives its answers, whichever track each event names
  module _ (ts : List ℕ) where
    pub run_ends : ran_by one_track (decode s).kinds (decode s).stamp (decode s).events ts ≡ Some (session_at_end (decode_tracked s))
    run_ends =
        let same : session_at_end (decode_tracked s) ≡ session one_track (circuit_of (decode s).kinds) (beside (run (begun (decode s).kinds (decode s).stamp) (decode s).events) []) =
        rw (end_one s z, one s z, table_one s z) refl in
        ran_one (decode s).kinds (decode s).stamp (decode s).events ts ∙ rw (said-table s z, same) refl

    pub run_answers : ran_events_by one_track (decode s).kinds (decode s).stamp (decode s).events ts ≡ (worked (decode s)).events
    run_answers = ran_events_one (decode s).kinds (decode s).stamp (decode s).events ts ∙ rw (said-table s z) refl

  module _ (out : List ℕ) where
    -- refused before that, as any sheet with its events
    pub works_refused : (r : Refusal) → Err r ≡ outcome (decode_tracked s) (length out) → Works s (worked_of (Err r)) out out
    works_refused r e = works_one out out (Err r) (works_as s (taken_too s z) out out (Err r) e (outcome_stays (decode_tracked s) out (sym (ap is_err e))))

    -- or worked
    pub works_ended : length (decode s).events ≤ first_answered (decode s).events → length s ≤ length out → Works s (worked_of (Ok (session_at_end (decode_tracked s)))) out (written (worked (decode s)) out)
    works_ended fresh h = rw (end_one s z, writes-worked s z out h) (works_worked s out z fresh h)
