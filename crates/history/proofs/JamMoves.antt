-- What jams a release button and what frees it, of the entries of a history: an 11 taken at its post, and a 12.
-- Assumes nothing.
use Prim.Native.Nat.{ℕ}
use mathlib.Core.Bool.{Bool}
use Rattle.history.specs.History.{Entry, did}

-- what jams a button, and what frees it
abbrev pub jams : ℕ → Entry → Bool
jams = did 11

abbrev pub frees : ℕ → Entry → Bool
frees = did 12
