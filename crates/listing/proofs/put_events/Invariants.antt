-- `listing::put_events` meets its contract: the lines of the events so far stand at the front.
use Prim.Native.Nat.{◌+◌, ◌*◌, ◌≤◌}
use mathlib.Core.Path.{◌≡◌}
use lib.ListN.{length, take}
use Rattle.working.specs.Run.{marked}
use Rattle.listing.specs.Listing.{event_lines}
use Rattle.digits.specs.Texts.{stored}
use Rattle.listing.proofs.put_events.Given as goal

abbrev pub invariant-loop-i : goal.invariant-loop-i
invariant-loop-i l = (l.p ≡ 0 + length (event_lines l.tracks 1 (take l.i (marked l.events l.on))))
    × (l.p ≤ l.i * 128)
    × (length l.out ≡ length l.initial.out)
    × (l.out ≡ stored l.initial.out 0 (event_lines l.tracks 1 (take l.i (marked l.events l.on))))
