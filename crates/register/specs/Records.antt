-- The records of a sheet. 02, item 3: 'a header row (position,event,post,stamp,answer), one record with the start stamp in its field, one per kind (kind in the event field, post in its own), then one per event. Every record has five fields, unused ones empty'
-- Assumes nothing.
use Rattle.std.specs.Prelude.{ℕ, suc, ◌^◌, Bool, true, ◌&&◌, ◌≡◌, List, [], ◌∷◌, ◌++◌, eqb, ltb, length}
use Rattle.relay.specs.Kinds.{table_ok}
use Rattle.sheet.specs.Entry.{number_of, post_of, answer_of, stamp_of, in_fields}
use Rattle.sheet.specs.Sheet.{Sheet}
use Rattle.digits.specs.Digits.{digits}

-- "position", "event", "post", "stamp", "answer"
abbrev pub header : List (List ℕ)
header =
    (112 ∷ 111 ∷ 115 ∷ 105 ∷ 116 ∷ 105 ∷ 111 ∷ 110 ∷ [])
    ∷ (101 ∷ 118 ∷ 101 ∷ 110 ∷ 116 ∷ [])
    ∷ (112 ∷ 111 ∷ 115 ∷ 116 ∷ [])
    ∷ (115 ∷ 116 ∷ 97 ∷ 109 ∷ 112 ∷ [])
    ∷ (97 ∷ 110 ∷ 115 ∷ 119 ∷ 101 ∷ 114 ∷ [])
    ∷ []

-- ',,,START,'
unfoldable pub start_record : ℕ → List (List ℕ)
start_record stamp = [] ∷ [] ∷ [] ∷ digits stamp ∷ [] ∷ []

-- ',KIND,POST,,'
unfoldable pub kind_record : ℕ → ℕ → List (List ℕ)
kind_record post kind = [] ∷ digits kind ∷ digits post ∷ [] ∷ [] ∷ []

-- 'POSITION,EVENT,POST,STAMP,ANSWER'
unfoldable pub event_record : ℕ → List ℕ → List (List ℕ)
event_record position e =
    digits position ∷ digits (number_of e) ∷ digits (post_of e) ∷ digits (stamp_of e) ∷ digits (answer_of e) ∷ []

-- from post i on, from position i on
unfoldable pub kind_records : ℕ → List ℕ → List (List (List ℕ))
kind_records i [] = []
kind_records i (k ∷ ks) = kind_record i k ∷ kind_records (suc i) ks

unfoldable pub event_records : ℕ → List (List ℕ) → List (List (List ℕ))
event_records i [] = []
event_records i (e ∷ es) = event_record i e ∷ event_records (suc i) es

-- all of them, posts from 0 and positions from 1
unfoldable pub records : Sheet → List (List (List ℕ))
records t = header ∷ start_record t.stamp ∷ (kind_records 0 t.kinds ++ event_records 1 t.events)

-- an event: four numbers, each in its field
unfoldable pub right_event : List ℕ → Bool
right_event e = eqb (length e) 4 && (in_fields e && ltb (stamp_of e) (2 ^ 32))

unfoldable pub right_events : List (List ℕ) → Bool
right_events [] = true
right_events (e ∷ es) = right_event e && right_events es

-- a sheet of any length: what writing asks of it, but for the number of events
pub record Right (t : Sheet) : Type 0 where
  pub table : table_ok t.kinds ≡ true
  pub stamp : ltb t.stamp (2 ^ 32) ≡ true
  pub events : right_events t.events ≡ true
