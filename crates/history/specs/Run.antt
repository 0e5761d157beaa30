-- A run: a fresh line, then any events, each given to the line as the one before left it; with the history that it writes.
-- And what else may befall a line in a session that has more than this line, with the states reached so.
-- The line and head are those that the public calls' own definitions give, `start_of` and `event_of`.
-- Assumes nothing.
use Rattle.std.specs.Prelude.{ℕ, ◌≤◌, ◌≡◌, List, [], ◌∷◌}
use Rattle.relay.specs.Answers.{taken}
use Rattle.relay.specs.Examples.{Event}
use Rattle.relay.specs.Line.{After, start_of, event_of}
use Rattle.relay.specs.Valid.{most_events}
use Rattle.relay.specs.declared.Head.{Head}
use Rattle.relay.specs.declared.Post.{Post}
use Rattle.history.specs.History.{Entry, entry}

-- the history so far, and the line and head
pub record State : Type 0 where
  pub history : List Entry
  pub line : List Post
  pub head : Head

-- what an event leaves, with the history h before it
abbrev pub next : Event → List Entry → After → State
next e h a = record { history = entry e a.told.answer ∷ h; line = a.line; head = a.told.head }

-- what the line makes of an event
abbrev pub given : Event → State → After
given e w = event_of w.line w.head e.number e.post e.stamp

-- its answer
abbrev pub answer : Event → State → ℕ
answer e w = (given e w).told.answer

-- one event, taken or refused
unfoldable pub step : Event → State → State
step e w = next e w.history (given e w)

-- the events of a list, one after another
unfoldable pub run : List Event → State → State
run [] w = w
run (e ∷ es) w = run es (step e w)

-- a line started on the row l from the table ks at the stamp t
unfoldable pub begun : List Post → List ℕ → ℕ → State
begun l ks t = record { history = []; line = (start_of l ks t).line; head = (start_of l ks t).told.head }

-- ---- a session that has more than this line
-- an event that is refused from outside, with the number n: it stands in the history, and the line and head are as they were
abbrev pub outside : Event → ℕ → State → State
outside e n w = record { history = entry e n ∷ w.history; line = w.line; head = w.head }

-- something elsewhere, that leaves the head s: the history and the line are as they were
abbrev pub elsewhere : Head → State → State
elsewhere s w = record { history = w.history; line = w.line; head = s }

-- what may befall a line
pub data Befalls (w : State) : State → Type 0 where
  -- an event on it, taken or refused by its rules
  given_event : (e : Event) → Befalls w (step e w)
  -- an event on it that is refused from outside, with any number but 0
  refused-outside : (e : Event) (n : ℕ) → (n ≡ taken → ⊥) → Befalls w (outside e n w)
  -- something elsewhere: it moves the head alone, to at least as many events taken, and at most 1,000,000
  moved-elsewhere : (s : Head) → w.head.taken ≤ s.taken → s.taken ≤ most_events → Befalls w (elsewhere s w)

-- the states reached from b, whatever befalls the line
pub data Reached (b : State) : State → Type 0 where
  at_first : Reached b b
  further : {w v : State} → Reached b w → Befalls w v → Reached b v
