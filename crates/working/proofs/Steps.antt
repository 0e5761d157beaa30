-- One event more: what a run leaves after the first i + 1 events is one event after what it leaves after the first i.
-- Assumes nothing.
use Prim.Native.Nat.{ℕ, ◌+◌, ◌<◌}
use mathlib.Core.Path.{◌≡◌, refl, ◌∙◌}
use mathlib.Core.List.{List, [], ◌∷◌, ◌++◌}
use lib.ListN.{length, get_or, set, take, drop}
use Rattle.relay.proofs.Frame.{length-stays}
use Rattle.relay.specs.Line.{After}
use Rattle.working.specs.Run.{next, run, answered_by, answered, next_by, run_by, answers_by}
use Rattle.working.proofs.Along as along
use Rattle.working.proofs.Along.{Goes, said-long}

-- the run of a sheet of one track
pub goes : Goes next (λ a e. answered_by e (next a e).told.answer) run answered
unfolding run answered
goes = record { run_none = λ a. refl; run_first = λ a e es. refl; said_none = λ a. refl; said_first = λ a e es. refl }

-- and of either form
pub goes_by : (form c : ℕ) → Goes (next_by form c) (λ a e. answered_by e (next_by form c a e).told.answer) (run_by form c) (answers_by form c)
unfolding run_by answers_by
goes_by form c = record { run_none = λ a. refl; run_first = λ a e es. refl; said_none = λ a. refl; said_first = λ a e es. refl }

pub run_none : (a : After) → run a [] ≡ a
run_none a = goes.run_none a

pub answered_none : (a : After) → answered a [] ≡ []
answered_none a = goes.said_none a

-- as many answers as events
pub answered-long : (a : After) (es : List (List ℕ)) → length (answered a es) ≡ length es
answered-long = said-long goes

-- a line keeps its length
pub run_long : (a : After) (es : List (List ℕ)) → length (run a es).line ≡ length a.line
unfolding run
run_long a [] = refl
run_long a (e ∷ es) = run_long (next a e) es ∙ length-stays a.line a.told.head _ _ _

module _ (a : After) (es : List (List ℕ)) (i : ℕ) (h : i < length es) where
  -- what stands after the first i events
  abbrev now : After
  now = run a (take i es)

  abbrev e : List ℕ
  e = get_or es i []

  pub run_more : run a (take (i + 1) es) ≡ next now e
  run_more = along.run_more goes a es es refl i h

  -- the answer of event i is stored over it
  pub answered_more : set (answered a (take i es) ++ drop i es) i (answered_by e (next now e).told.answer) ≡ answered a (take (i + 1) es) ++ drop (i + 1) es
  answered_more = along.said_more goes a es es refl i h

  -- event i is still as it was
  pub still : get_or (answered a (take i es) ++ drop i es) i [] ≡ e
  still = along.still goes a es es refl i h
