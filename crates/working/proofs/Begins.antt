-- The line of a run stays one of at most 32 posts, and an event on its row is the run's next event.
-- Assumes nothing.
use Prim.Native.Nat.{ℕ, ◌≤◌}
use mathlib.Core.Path.{◌≡◌}
use mathlib.Core.Bool.{true}
use mathlib.Core.List.{List}
use native.Mathlib.Omega.{arith}
use lib.ListN.{length}
use Rattle.relay.proofs.Fresh.{length-fresh}
use Rattle.relay.specs.Kinds.{table_ok}
use Rattle.relay.specs.Line.{event_of}
use Rattle.row.proofs.Held.{held-event}
use Rattle.row.proofs.Starts.{table-few}
use Rattle.row.specs.Row.{most, row_of, stood, event_row}
use Rattle.working.specs.Run.{begun, run}
use Rattle.working.proofs.Steps.{run_long}

-- an event on the row of a run is the run's next event
module _ (ks : List ℕ) (t : ℕ) (h : table_ok ks ≡ true) (es : List (List ℕ)) where
  pub few : length (run (begun ks t) es).line ≤ most
  few = omega (arith, run_long (begun ks t) es, length-fresh ks, table-few ks h)

  pub row_next : (e : List ℕ) (n i u : ℕ) → event_row (row_of (run (begun ks t) es).line) (run (begun ks t) es).told.head n i u
      ≡ stood (event_of (run (begun ks t) es).line (run (begun ks t) es).told.head n i u).told (row_of (event_of (run (begun ks t) es).line (run (begun ks t) es).told.head n i u).line)
  row_next e n i u = held-event (run (begun ks t) es).line few (run (begun ks t) es).told.head n i u
