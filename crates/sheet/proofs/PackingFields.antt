-- What is unpacked from an event word is in its fields, whatever the word: each is a remainder.
-- Assumes nothing.
use mathlib.Core.Path.{◌≡◌}
use Prim.Native.Nat.{ℕ, ◌/◌, ◌%◌}
use mathlib.Core.Bool.{true}
use borrow.Author.Tests.{lt-ltb}
use native.Mathlib.Omega.{arith}
use Rattle.sheet.specs.Entry.{number_in, post_in, answer_in, in_fields, entry_of}

-- what is unpacked is in its fields
pub unpacked-fields : (w t : ℕ) → in_fields (entry_of w t) ≡ true
unfolding in_fields number_in post_in answer_in
unpacked-fields w t = rw (lt-ltb (w % 32) 32 (omega arith), lt-ltb (w / 32 % 64) 64 (omega arith), lt-ltb (w / 2048 % 32) 32 (omega arith))
