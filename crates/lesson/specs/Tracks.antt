-- The history that a worked sheet of two tracks shows of one of them, and what its listing says by it. 02, item 7: 'Demand 3 holds for each track by itself', 'Its listing lines get that bit as a last field, S lines of track 1 first.'
-- Assumes nothing.
use Rattle.std.specs.Prelude.{ℕ, ◌+◌, ◌-◌, Bool, true, false, List, [], ◌∷◌, ◌++◌, length, get_or, take}
use Rattle.relay.specs.Choice.{pick, one}
use Rattle.relay.specs.Posts.{at}
use Rattle.history.specs.History.{Entry, entry}
use Rattle.sheet.specs.Entry.{number_of, post_of, answer_of}
use Rattle.sheet.specs.Sheet.{Tracked, first_kinds, second_kinds, circuit_of}
use Rattle.tracks.specs.Desk.{of_track, names}
use Rattle.working.specs.Run.{track_of, marked, begun_by, next_by, run_by}
use Rattle.working.specs.Working.{end_of, worked_tracked}
use Rattle.listing.specs.Lines.{track_named, event_line, section_line}
use Rattle.digits.specs.Texts.{joined}
use Rattle.lesson.specs.Lesson.{asked, section_says}

-- the events on track b with their answers, newest first, on top of a history: each event has its track behind its four numbers
unfoldable pub onto_track : Bool → List Entry → List (List ℕ) → List Entry
onto_track b before [] = before
onto_track b before (e ∷ es) = onto_track b (pick (names b (track_of e)) (entry (asked e) (answer_of e) ∷ before) before) es

-- the history of track b that a sheet shows
abbrev pub shown_on : Bool → Tracked → List Entry
shown_on b t = onto_track b [] (marked t.events t.tracks)

-- ---- the listing of the sheet t
-- event i with its track
abbrev pub event_on : Tracked → ℕ → List ℕ
event_on t i = get_or (marked t.events t.tracks) i []

-- its answer: what both lines, as the events before it left them, answer
unfoldable pub answer_on : Tracked → ℕ → ℕ
answer_on t i =
    (next_by t.form (circuit_of t.table)
    (run_by t.form (circuit_of t.table) (begun_by t.form t.table t.stamp) (take i (marked t.events t.tracks)))
    (event_on t i)
    ).told.answer

-- line i of the events, from 0
abbrev pub event_said_on : Tracked → ℕ → List ℕ
event_said_on t i =
    event_line (i + 1) (number_of (event_on t i)) (post_of (event_on t i)) (answer_on t i) (track_named t.form (track_of (event_on t i)))

-- the kinds of track b
abbrev pub kinds_on : Bool → Tracked → List ℕ
kinds_on b t = of_track b (first_kinds t.table) (second_kinds t.table)

-- line i of its sections, from 0, as the worked sheet's own history of the track has it
abbrev pub section_said_on : Bool → Tracked → ℕ → List ℕ
section_said_on b t i =
    section_line (section_says (kinds_on b t) i (shown_on b (worked_tracked t)) (at (of_track b (end_of t).first (end_of t).second) i)) (track_named t.form (one b))

-- the whole text: 'S lines of track 1 first'
unfoldable pub said_on : Tracked → List ℕ
said_on t =
    joined (event_said_on t) (length t.events)
    ++ (joined (section_said_on false t) (length (kinds_on false t) - 1) ++ joined (section_said_on true t) (length (kinds_on true t) - 1))
