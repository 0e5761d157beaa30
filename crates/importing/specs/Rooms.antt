-- What is kept of the records that stand: kinds and events, each in its lent room, as many as fit.
-- Assumes nothing.
use Rattle.std.specs.Prelude.{ℕ, ◌≡◌, List, [], ◌∷◌, ◌++◌, eqb, set}
use Rattle.relay.specs.Choice.{pick}
use Rattle.sheet.specs.Entry.{entry}
use Rattle.importing.specs.Steps.{number_in, state_next}
use Rattle.importing.specs.declared.steps.Marks.{Marks}
use Rattle.importing.specs.declared.steps.State.{State}

-- the state and both rooms
pub record Fed : Type 0 where
  pub state : State
  pub kinds : List ℕ
  pub events : List (List ℕ)

abbrev pub fed_at : State → List ℕ → List (List ℕ) → Fed
fed_at s ks es = record { state = s; kinds = ks; events = es }

-- the event that a record's marks say: number, post, answer, stamp
unfoldable pub entry_in : Marks → List ℕ
entry_in k = entry (number_in k.b) (number_in k.c) (number_in k.e) (number_in k.d)

-- the kind that the record before s told, where it told one: so many posts were known before it
unfoldable pub kept_kind : ℕ → State → List ℕ → List ℕ
kept_kind posts s ks = pick (eqb posts s.posts) ks (set ks posts (number_in s.marks.b))

-- the event, likewise
unfoldable pub kept_event : ℕ → State → List (List ℕ) → List (List ℕ)
kept_event known s es = pick (eqb known s.events) es (set es known (entry_in s.marks))

-- s after a byte, and what is kept
abbrev pub kept_at : State → State → List ℕ → List (List ℕ) → Fed
kept_at s s' ks es = fed_at s' (kept_kind s.posts s' ks) (kept_event s.events s' es)

unfoldable pub fed_next : Fed → ℕ → Fed
fed_next f b = kept_at f.state (state_next f.state b) f.kinds f.events

unfoldable pub fed : Fed → List ℕ → Fed
fed f [] = f
fed f (b ∷ bs) = fed (fed_next f b) bs

-- a piece of text is fed
abbrev pub Feeds : List ℕ → State → State → List ℕ → List ℕ → List (List ℕ) → List (List ℕ) → Type 0
Feeds text s r ks ks' es es' = fed_at r ks' es' ≡ fed (fed_at s ks es) text

-- ---- in pieces
-- pieces of a text, one after the other
unfoldable pub fed_pieces : Fed → List (List ℕ) → Fed
fed_pieces f [] = f
fed_pieces f (p ∷ ps) = fed_pieces (fed f p) ps

-- the text that they are pieces of
unfoldable pub joined : List (List ℕ) → List ℕ
joined [] = []
joined (p ∷ ps) = p ++ joined ps
