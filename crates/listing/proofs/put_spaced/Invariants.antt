-- `listing::put_spaced` meets its contract: the numbers so far stand, each after a space.
use Prim.Native.Nat.{◌+◌, ◌*◌, ◌≤◌}
use mathlib.Core.Path.{◌≡◌}
use lib.ListN.{length, take}
use Rattle.digits.specs.Texts.{stored}
use Rattle.listing.specs.Lines.{spaced}
use Rattle.listing.proofs.put_spaced.Given as goal

abbrev pub invariant-loop-i : goal.invariant-loop-i
invariant-loop-i l = (l.p ≡ l.at + length (spaced (take l.i l.ns)))
    × (length (spaced (take l.i l.ns)) ≤ l.i * 11)
    × (length l.out ≡ length l.initial.out)
    × (l.out ≡ stored l.initial.out l.at (spaced (take l.i l.ns)))
