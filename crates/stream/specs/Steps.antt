-- What one read makes of a reading, and one write of a writing. std's `read` and `write` give an error, or how many bytes they moved. A read gives 0 at the end of the input.
-- Stated for everything given, every place and every room. Assumes nothing.
use Rattle.std.specs.Prelude.{ℕ, zero, suc, ◌+◌, ◌≤◌, min, Result, Ok, Err}
use Rattle.std.specs.declared.ops.ControlFlow.{ControlFlow}
use Rattle.std.specs.declared.ops.ControlFlow.TheVariants.{Break, Continue}
use Rattle.stream.specs.declared.Unread.{Unread}
use Rattle.stream.specs.declared.Unwritten.{Unwritten}

-- `k` bytes further than `at`, and never past the room
abbrev pub further : ℕ → ℕ → ℕ → ℕ
further at room k = min (at + k) room

-- a reading that has filled its room up to `at`, after one more read: failed where it gave an error, over where it gave 0, else that many bytes further
unfoldable pub after_read : {E : Type 0} → Result ℕ E → ℕ → ℕ → Result (ControlFlow ℕ ℕ) Unread
after_read (Err _) at room = Err (record {})
after_read (Ok zero) at room = Ok (Break at)
after_read (Ok (suc k)) at room = Ok (Continue (further at room (suc k)))

-- a writing that has written up to `at`, after one more write: failed where it gave an error or took nothing, else that many bytes further
unfoldable pub after_write : {E : Type 0} → Result ℕ E → ℕ → ℕ → Result ℕ Unwritten
after_write (Err _) at room = Err (record {})
after_write (Ok zero) at room = Err (record {})
after_write (Ok (suc k)) at room = Ok (further at room (suc k))

-- what a reading says of a room: the bytes that it counts stand in it
abbrev pub Within : ℕ → Result ℕ Unread → Type 0
Within room (Ok n) = n ≤ room
Within room (Err _) = Unit
