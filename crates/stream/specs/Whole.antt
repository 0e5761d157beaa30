-- What a whole reading takes from its reader and a whole writing gives its writer, where their bytes are known.
-- Assumes nothing.
use Rattle.std.specs.Prelude.{ℕ, ◌<◌, List, length, take, Result, Ok, Err}
use Rattle.std.specs.Io.KnownBytes.{Appends, Consumes, IsAtEnd}
use Rattle.std.specs.declared.option.Option.{Option}
use Rattle.stream.specs.declared.Unread.{Unread}
use Rattle.stream.specs.declared.Unwritten.{Unwritten}

-- the bytes that a reading counts are those that its reader lost, and where they do not fill the room the reader is at its end; a reading that failed put those that were lost at the front of the room, and did not fill it
abbrev pub ReadsWhole : Option (List ℕ) → Option (List ℕ) → Result ℕ Unread → List ℕ → Type 0
ReadsWhole old new (Ok n) room = Consumes old new (take n room) × (n < length room → IsAtEnd new)
ReadsWhole old new (Err _) room = (k : ℕ) × (k < length room) × Consumes old new (take k room)

-- all of the text was written; or the front of it, and not all
abbrev pub WritesWhole : Option (List ℕ) → Option (List ℕ) → Result Unit Unwritten → List ℕ → Type 0
WritesWhole old new (Ok _) text = Appends old new text
WritesWhole old new (Err _) text = (k : ℕ) × (k < length text) × Appends old new (take k text)
