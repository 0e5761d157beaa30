-- Working a sheet. 01, 'The event sheet': 'Working a sheet reads it whole first, refuses 20 at the first block with an answer other than 31, needs an output at least as long as the sheet (else 21), then writes the same sheet with answers filled and checks renewed, and changes nothing else.'
-- Assumes nothing.
use Rattle.std.specs.Prelude.{Option, Some, None, Result, Ok, Err, ℕ, suc, ◌+◌, ◌/◌, not, ◌&&◌, ◌≡◌, List, [], ◌∷◌, ◌++◌, eqb, leb, ltb, length, drop}
use Rattle.relay.specs.Choice.{pick}
use Rattle.relay.specs.Line.{head}
use Rattle.relay.specs.Valid.{h}
use Rattle.relay.specs.declared.Head.{Head}
use Rattle.relay.specs.declared.Post.{Post}
use Rattle.row.specs.Row.{row_of, event_row}
use Rattle.rows.specs.Rows.{stood_two, event_rows}
use Rattle.rows.specs.declared.StoodTwo.{StoodTwo}
use Rattle.row.specs.declared.Row.{Row}
use Rattle.sheet.specs.Layout.{per_block, one_track, two_tracks, unanswered, contents_wrong, room_short}
use Rattle.sheet.specs.Entry.{answer_of}
use Rattle.sheet.specs.Sheet.{Sheet, Tracked, circuit_of, encode, encode_tracked}
use Rattle.tracks.specs.Circuit.{AfterTwo}
use Rattle.sheet.specs.Reading.{form_ok, table_fits, verdict_up_to, verdict, decode, decode_tracked}
use Rattle.sheet.specs.Refusals.{verdict_of_refusal, refusal_code}
use Rattle.sheet.specs.Writing.{bytes_for, leaves}
use Rattle.sheet.specs.declared.Verdict.{Verdict}
use Rattle.sheet.specs.declared.refusal.Refusal.{Refusal}
use Rattle.sheet.specs.declared.refusal.Refusal.TheVariants.{Contents, RoomShort}
use Rattle.working.specs.Run.{begun, run, answered, answered_by, marked, begun_by, run_by, answers_by}
use Rattle.working.specs.declared.Session.{Session}
use Rattle.working.specs.declared.Worked.{Worked}
use Rattle.working.specs.declared.WorkedTracks.{WorkedTracks}

-- ---- a session of a sheet of either form
-- one that stands at these lines and this head, of so many tracks, c being the circuit
abbrev pub session : ℕ → ℕ → AfterTwo → Session
session form c a = record { tracks = form; circuit = c; first = row_of a.first; second = row_of a.second; head = a.told.head }

-- the one that begins from the table of a sheet of so many tracks; none from a wrong table
unfoldable pub begin_by : ℕ → List ℕ → ℕ → Option Session
begin_by form ks t =
    pick (form_ok two_tracks form && table_fits form ks) (Some (session form (circuit_of ks) (begun_by form ks t))) None

-- one event of it
unfoldable pub step_by : ℕ → ℕ → Row → Row → Head → ℕ → ℕ → ℕ → ℕ → StoodTwo
step_by form c a b s track n i t =
    pick (eqb form two_tracks) (event_rows c a b s track n i t)
    (stood_two (event_row a s n i t).told (event_row a s n i t).row b)

-- the session after its events, each on its track; none from a wrong table
unfoldable pub ran_by : ℕ → List ℕ → ℕ → List (List ℕ) → List ℕ → Option Session
ran_by form ks t es ts =
    pick (form_ok two_tracks form && table_fits form ks)
    (Some (session form (circuit_of ks) (run_by form (circuit_of ks) (begun_by form ks t) (marked es ts)))) None

-- the events afterwards: each with its answer, or as they were
unfoldable pub ran_events_by : ℕ → List ℕ → ℕ → List (List ℕ) → List ℕ → List (List ℕ)
ran_events_by form ks t es ts =
    pick (form_ok two_tracks form && table_fits form ks) (answers_by form (circuit_of ks) (begun_by form ks t) (marked es ts)) es

-- ---- a whole sheet
-- 'the first block with an answer other than 31': the first such event's place, or how many events there are
unfoldable pub first_answered : List (List ℕ) → ℕ
first_answered [] = 0
first_answered (e ∷ es) = pick (eqb (answer_of e) unanswered) (suc (first_answered es)) 0

-- the sheet with its answers filled in
abbrev pub worked : Sheet → Sheet
worked t = record { stamp = t.stamp; kinds = t.kinds; events = answered (begun t.kinds t.stamp) t.events }

-- a sheet with its answers set back to 31
unfoldable pub blank : List (List ℕ) → List (List ℕ)
blank [] = []
blank (e ∷ es) = answered_by e unanswered ∷ blank es

abbrev pub set_back : Sheet → Sheet
set_back t = record { stamp = t.stamp; kinds = t.kinds; events = blank t.events }

-- the refusal with its block and position, or 0 and 0: as reading a sheet of so many tracks at the most, then 20, then 21 for an output of m bytes
unfoldable pub work_verdict_up_to : ℕ → List ℕ → ℕ → Verdict
work_verdict_up_to most s m =
    pick (not (eqb (verdict_up_to most s).number 0)) (verdict_up_to most s)
    (pick (ltb (first_answered (decode s).events) (length (decode s).events))
    (verdict contents_wrong (1 + first_answered (decode s).events / per_block))
    (pick (not (leb (length s) m)) (verdict room_short 0) (verdict 0 0)))

-- of one track
abbrev pub work_verdict : List ℕ → ℕ → Verdict
work_verdict s m = work_verdict_up_to one_track s m

-- what a refusal returns: 'nothing else'
abbrev pub refused : Verdict → Worked
refused v = record { number = v.number; block = v.block; position = v.position; row = row_of []; head = head 0 0 }

-- what an outcome is in numbers: of a worked sheet also the row and the head at the end
abbrev pub worked_of : Result Session Refusal → Worked
worked_of (Ok end) = record { number = 0; block = 0; position = 0; row = end.first; head = end.head }
worked_of (Err refusal) = refused (verdict_of_refusal refusal)

-- what is returned
unfoldable pub work_of : List ℕ → ℕ → Worked
work_of s m =
    pick (eqb (work_verdict s m).number 0)
    (record {
      number = 0;
      block = 0;
      position = 0;
      row = row_of (run (begun (decode s).kinds (decode s).stamp) (decode s).events).line;
      head = (run (begun (decode s).kinds (decode s).stamp) (decode s).events).told.head;
    })
    (refused (work_verdict s m))

-- the output afterwards: the worked sheet, and past it what was there; on a refusal as it was
unfoldable pub worked_bytes : List ℕ → List ℕ → List ℕ
worked_bytes s out =
    pick (eqb (work_verdict s (length out)).number 0) (encode (worked (decode s)) ++ drop (length s) out) out

-- what is returned and the output afterwards
abbrev pub Works : List ℕ → Worked → List ℕ → List ℕ → Type 0
Works s r out out' = (r ≡ work_of s (length out)) × (out' ≡ worked_bytes s out)

-- ---- a whole sheet of either form
-- the lines and head at its end
abbrev pub end_of : Tracked → AfterTwo
end_of t = run_by t.form (circuit_of t.table) (begun_by t.form t.table t.stamp) (marked t.events t.tracks)

-- the session that stands so
abbrev pub session_at_end : Tracked → Session
session_at_end t = session t.form (circuit_of t.table) (end_of t)

-- the sheet with its answers filled in
abbrev pub worked_tracked : Tracked → Tracked
worked_tracked t =
    record {
      form = t.form;
      stamp = t.stamp;
      table = t.table;
      events = answers_by t.form (circuit_of t.table) (begun_by t.form t.table t.stamp) (marked t.events t.tracks);
      tracks = t.tracks;
    }

-- answering a sheet that was read, with an output of m bytes: 20, then 21, or the session at its end
unfoldable pub outcome : Tracked → ℕ → Result Session Refusal
outcome t m =
    pick (ltb (first_answered t.events) (length t.events)) (Err (Contents (1 + first_answered t.events / per_block)))
    (pick (not (leb (bytes_for (length t.events)) m)) (Err RoomShort) (Ok (session_at_end t)))

-- the output afterwards: the worked sheet, and past it what was there; on a refusal as it was
unfoldable pub outcome_bytes : Tracked → List ℕ → List ℕ
outcome_bytes t out = leaves (worked_tracked t) (refusal_code (outcome t (length out))) out

-- what a refusal returns: 'nothing else'
abbrev pub refused_tracks : Verdict → WorkedTracks
refused_tracks v =
    record { number = v.number; block = v.block; position = v.position; tracks = 0; first = row_of []; second = row_of []; head = head 0 0 }

-- what is returned: of a worked sheet also how many tracks it is of, both rows and the head at the end; a sheet of one track has no second row
abbrev pub end_tracks : Tracked → WorkedTracks
end_tracks t =
    record {
      number = 0;
      block = 0;
      position = 0;
      tracks = t.form;
      first = row_of (end_of t).first;
      second = row_of (end_of t).second;
      head = (end_of t).told.head;
    }

-- what an outcome is in numbers
abbrev pub worked_tracks_of : Result Session Refusal → WorkedTracks
worked_tracks_of (Ok end) =
    record { number = 0; block = 0; position = 0; tracks = end.tracks; first = end.first; second = end.second; head = end.head }
worked_tracks_of (Err refusal) = refused_tracks (verdict_of_refusal refusal)

unfoldable pub work_tracks_of : List ℕ → ℕ → WorkedTracks
work_tracks_of s m =
    pick (eqb (work_verdict_up_to two_tracks s m).number 0) (end_tracks (decode_tracked s)) (refused_tracks (work_verdict_up_to two_tracks s m))

-- the output afterwards: the worked sheet, and past it what was there; on a refusal as it was
unfoldable pub worked_tracks_bytes : List ℕ → List ℕ → List ℕ
worked_tracks_bytes s out =
    pick (eqb (work_verdict_up_to two_tracks s (length out)).number 0) (encode_tracked (worked_tracked (decode_tracked s)) ++ drop (length s) out) out

-- what is returned and the output afterwards
abbrev pub WorksTracks : List ℕ → WorkedTracks → List ℕ → List ℕ → Type 0
WorksTracks s r out out' = (r ≡ work_tracks_of s (length out)) × (out' ≡ worked_tracks_bytes s out)

-- ---- the listing
-- 'S, section, a, r, x, q, e, y, v, g, h': section s, between the posts p and d
unfoldable pub section_numbers : ℕ → Post → Post → List ℕ
section_numbers s p d =
    s ∷ p.a ∷ d.r ∷ p.x ∷ d.q ∷ d.e ∷ p.y ∷ p.v ∷ p.g ∷ h p.word ∷ []
