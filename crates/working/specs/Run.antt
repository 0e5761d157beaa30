-- The events of a sheet, taken one after the other from the fresh line of its table, over relay's own step.
-- Assumes nothing.
use Rattle.std.specs.Prelude.{ℕ, List, [], ◌∷◌, ◌++◌, eqb, get_or, drop}
use Rattle.relay.specs.Choice.{pick}
use Rattle.relay.specs.Answers.{taken}
use Rattle.relay.specs.Line.{After, after, head, told, fresh_line, event_of}
use Rattle.sheet.specs.Entry.{entry, number_of, post_of, answer_of, stamp_of}
use Rattle.sheet.specs.Layout.{two_tracks}
use Rattle.sheet.specs.Sheet.{first_kinds, second_kinds}
use Rattle.tracks.specs.Circuit.{AfterTwo, after_two, beside, event_two}

-- the line and head that a session of this table begins with
abbrev pub begun : List ℕ → ℕ → After
begun kinds stamp = after (told taken (head 0 stamp)) (fresh_line kinds)

-- one event of a sheet
abbrev pub next : After → List ℕ → After
next a e = event_of a.line a.told.head (number_of e) (post_of e) (stamp_of e)

-- the line and head after a list of events
unfoldable pub run : After → List (List ℕ) → After
run a [] = a
run a (e ∷ es) = run (next a e) es

-- an event with its answer filled in
abbrev pub answered_by : List ℕ → ℕ → List ℕ
answered_by e answer = entry (number_of e) (post_of e) answer (stamp_of e)

-- the events with the answers that they get, one after the other
unfoldable pub answered : After → List (List ℕ) → List (List ℕ)
answered a [] = []
answered a (e ∷ es) = answered_by e (next a e).told.answer ∷ answered (next a e) es

-- ---- a sheet of either form. 02, item 7
-- an event with its track behind its four numbers
abbrev pub track_of : List ℕ → ℕ
track_of e = get_or e 4 0

unfoldable pub marked : List (List ℕ) → List ℕ → List (List ℕ)
marked [] ts = []
marked (e ∷ es) ts = (entry (number_of e) (post_of e) (answer_of e) (stamp_of e) ++ (get_or ts 0 0 ∷ [])) ∷ marked es (drop 1 ts)

-- the lines and head that a session of this table begins with; beside the line of one track there is none
unfoldable pub begun_by : ℕ → List ℕ → ℕ → AfterTwo
begun_by form ks stamp =
    pick (eqb form two_tracks)
    (after_two (told taken (head 0 stamp)) (fresh_line (first_kinds ks)) (fresh_line (second_kinds ks)))
    (beside (begun ks stamp) [])

-- one event of a sheet, on its track; c is the circuit
unfoldable pub next_by : ℕ → ℕ → AfterTwo → List ℕ → AfterTwo
next_by form c a e =
    pick (eqb form two_tracks)
    (event_two c a.first a.second a.told.head (track_of e) (number_of e) (post_of e) (stamp_of e))
    (beside (event_of a.first a.told.head (number_of e) (post_of e) (stamp_of e)) a.second)

-- the lines and head after a list of events with their tracks
unfoldable pub run_by : ℕ → ℕ → AfterTwo → List (List ℕ) → AfterTwo
run_by form c a [] = a
run_by form c a (e ∷ es) = run_by form c (next_by form c a e) es

-- the events with the answers that they get, one after the other
unfoldable pub answers_by : ℕ → ℕ → AfterTwo → List (List ℕ) → List (List ℕ)
answers_by form c a [] = []
answers_by form c a (e ∷ es) = answered_by e (next_by form c a e).told.answer ∷ answers_by form c (next_by form c a e) es
