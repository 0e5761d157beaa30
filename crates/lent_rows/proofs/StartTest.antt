-- The test before two rows are started, as the lengths and the tables give it.
-- Assumes nothing.
use Prim.Native.Nat.{ℕ}
use mathlib.Core.Bool.{Bool, ◌&&◌}
use mathlib.Core.List.{List}
use lib.Dec.{eqb}
use lib.ListN.{length}
use Rattle.relay.specs.Kinds.{table_ok}
use Rattle.tracks.specs.Circuit.{circuit_ok}

abbrev pub tested : ℕ → ℕ → ℕ → List ℕ → List ℕ → Bool
tested c n m ks js = circuit_ok c && ((eqb n (length ks) && table_ok ks) && ((eqb m (length js) && table_ok js) && eqb (length ks) (length js)))
