-- That the upper bits of an event word are zero is a bound on the word, by how many tracks the sheet is of.
-- Assumes nothing.
use Prim.Native.Nat.{ℕ, ◌*◌, ◌≤◌, ◌<◌}
use mathlib.Core.Path.{◌≡◌}
use mathlib.Core.Bool.{true, false}
use borrow.Author.Tests.{ltb-true, ltb-false, lt-ltb}
use Rattle.sheet.specs.Entry.{upper_zero}

-- 'bits 16 to 31 are zero', or 17 to 31, by how many tracks the sheet is of
pub upper-zero : (f w : ℕ) → upper_zero f w ≡ true → w < f * 65536
unfolding upper_zero
upper-zero f w e = ltb-true w (f * 65536) e

pub upper-some : (f w : ℕ) → upper_zero f w ≡ false → f * 65536 ≤ w
unfolding upper_zero
upper-some f w e = ltb-false w (f * 65536) e

pub zero-upper : (f w : ℕ) → w < f * 65536 → upper_zero f w ≡ true
unfolding upper_zero
zero-upper f w h = lt-ltb w (f * 65536) h
