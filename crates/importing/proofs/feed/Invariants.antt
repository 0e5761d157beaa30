-- `importing::feed` meets its contract: what is left of the text decides.
use mathlib.Core.Path.{◌≡◌}
use lib.ListN.{drop}
use Rattle.importing.specs.Rooms.{fed_at, fed}
use Rattle.importing.proofs.feed.Given as goal

abbrev pub invariant-loop-b : goal.invariant-loop-b
invariant-loop-b l =
    fed (fed_at l.last l.kinds l.events) (drop l.b-index l.text)
    ≡ fed (fed_at l.initial.last l.initial.kinds l.initial.events) l.text
