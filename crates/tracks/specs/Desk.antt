-- A session on two tracks, with the history that it writes. 02, item 7.
-- Track 1 is false and track 2 true; `one` gives its number ('0 for track 1'). An event may name any other number too.
-- The lines and head are those that the public calls' own definitions give, `start_two` and `event_two`.
-- Assumes nothing.
use Rattle.std.specs.Prelude.{ℕ, Bool, true, false, not, ◌&&◌, List, [], ◌∷◌, eqb}
use Rattle.relay.specs.Answers.{stampBehind, sessionFull}
use Rattle.relay.specs.Choice.{pick, one}
use Rattle.relay.specs.Examples.{Event}
use Rattle.relay.specs.declared.Head.{Head}
use Rattle.relay.specs.declared.Post.{Post}
use Rattle.history.specs.History.{Entry, entry}
use Rattle.history.specs.Run.{State}
use Rattle.tracks.specs.Circuit.{AfterTwo, event_two, start_two}

-- ---- the desk
pub record Desk : Type 0 where
  pub circuit : ℕ
  pub first : List Post
  pub second : List Post
  pub head : Head

-- the desk as a call leaves it
abbrev pub desk : ℕ → AfterTwo → Desk
desk c a = record { circuit = c; first = a.first; second = a.second; head = a.told.head }

-- of two things, track b's
abbrev pub of_track : {X : Type 0} → Bool → X → X → X
of_track true x y = y
of_track false x y = x

-- the line of track b
abbrev pub line_of : Bool → Desk → List Post
line_of b d = of_track b d.first d.second

-- ---- a session
-- an event and the track that it names
pub record Asked : Type 0 where
  pub track : ℕ
  pub event : Event

-- an entry of the history with the track
pub record Marked : Type 0 where
  pub track : ℕ
  pub entry : Entry

-- the events of both tracks with their answers, newest first, and the desk
pub record Session : Type 0 where
  pub history : List Marked
  pub desk : Desk

-- what the desk makes of an event
abbrev pub given : Asked → Desk → AfterTwo
given x d = event_two d.circuit d.first d.second d.head x.track x.event.number x.event.post x.event.stamp

-- one event, taken or refused
unfoldable pub step : Asked → Session → Session
step x w =
    record {
      history = record { track = x.track; entry = entry x.event (given x w.desk).told.answer } ∷ w.history;
      desk = desk w.desk.circuit (given x w.desk);
    }

-- the events of a list, one after another
unfoldable pub run : List Asked → Session → Session
run [] w = w
run (x ∷ xs) w = run xs (step x w)

-- started on the rows l and k from the tables ks and js at the stamp t
unfoldable pub begun : ℕ → List Post → List Post → List ℕ → List ℕ → ℕ → Session
begun c l k ks js t = record { history = []; desk = desk c (start_two c l k ks js t) }

-- ---- one track of it
-- the number names track b
abbrev pub names : Bool → ℕ → Bool
names b m = eqb m (one b)

-- the history of track b alone
unfoldable pub only : Bool → List Marked → List Entry
only b [] = []
only b (x ∷ h) = pick (names b x.track) (x.entry ∷ only b h) (only b h)

-- track b as a line with its own history, under the common head
unfoldable pub view : Bool → Session → State
view b w = record { history = only b w.history; line = line_of b w.desk; head = w.desk.head }

-- ---- a session from which the other track's events are left out
-- what is asked of track b, with the track and as events of one line
unfoldable pub on_track : Bool → List Asked → List Asked
on_track b [] = []
on_track b (x ∷ xs) = pick (names b x.track) (x ∷ on_track b xs) (on_track b xs)

unfoldable pub events_of : Bool → List Asked → List Event
events_of b [] = []
events_of b (x ∷ xs) = pick (names b x.track) (x.event ∷ events_of b xs) (events_of b xs)

-- 'stamps and the event limit aside': no entry has the answer 4 or 5
unfoldable pub none_late : List Entry → Bool
none_late [] = true
none_late (x ∷ h) = not (eqb x.answer stampBehind) && (not (eqb x.answer sessionFull) && none_late h)
