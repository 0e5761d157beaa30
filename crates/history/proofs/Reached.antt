-- The states reached, whatever befalls a line: how a theorem over them is proved, and that the states of a run are among them.
-- Each holds by going along what befell the line.
use mathlib.Core.List.{List, [], ◌∷◌}
use Rattle.relay.specs.Examples.{Event}
use Rattle.history.specs.Run.{State, step, run, Befalls, given_event, Reached, at_first, further}

-- what holds at first and is kept by whatever befalls the line holds in every state reached
pub always : (P : State → Type 0) → ((w v : State) → Befalls w v → P w → P v) → {b w : State} → Reached b w → P b → P w
always P f at_first p = p
always P f (further {w} {v} r x) p = f w v x (always P f r p)

-- a run goes on from a state reached to states reached
pub run-reached : {b : State} (es : List Event) (w : State) → Reached b w → Reached b (run es w)
unfolding run
run-reached [] w r = r
run-reached (e ∷ es) w r = run-reached es (step e w) (further r (given_event e))
