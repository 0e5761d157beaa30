-- The calls on the first records of an array by value, by the definitions of relay's specs/Line.antt. The row is the first n records, all of them where n is more than there are; the records past it stay.
-- Assumes nothing.
use Rattle.std.specs.Prelude.{ℕ, List, ◌++◌, take, drop}
use Rattle.relay.specs.Line.{After, start_of, event_of}
use Rattle.relay.specs.declared.Head.{Head}
use Rattle.relay.specs.declared.Post.{Post}
use Rattle.lent.specs.declared.array.Kept.{Kept}

-- the records that an array has: one more than a line may have
abbrev pub room : ℕ
room = 33

-- what a call makes of the row, and the records past it
abbrev pub kept : List Post → ℕ → After → Kept
kept ps n a = record { told = a.told; posts = a.line ++ drop n ps }

-- an event on the row of the first n records
unfoldable pub event_on : List Post → ℕ → Head → ℕ → ℕ → ℕ → Kept
event_on ps n s number place stamp = kept ps n (event_of (take n ps) s number place stamp)

-- that row started from a table of kinds
unfoldable pub start_on : List Post → ℕ → List ℕ → ℕ → Kept
start_on ps n ks stamp = kept ps n (start_of (take n ps) ks stamp)
