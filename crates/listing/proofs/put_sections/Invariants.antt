-- `listing::put_sections` meets its contract: the lines of the sections so far stand from `at` on.
-- the first j = i + 1 posts of the line have i sections
use Prim.Native.Nat.{◌+◌, ◌-◌, ◌*◌, ◌≤◌}
use mathlib.Core.Path.{◌≡◌}
use lib.ListN.{length, take}
use Rattle.listing.specs.Lines.{track_named}
use Rattle.listing.specs.Listing.{section_lines}
use Rattle.digits.specs.Texts.{stored}
use Rattle.listing.proofs.put_sections.Given as goal

abbrev pub invariant-loop-j : goal.invariant-loop-j
invariant-loop-j l = (l.j ≤ 32)
    × (l.p ≡ l.at + length (section_lines (track_named l.tracks l.track) 0 (take l.j (take l.row.n l.row.posts))))
    × (l.p ≤ l.at + (l.j - 1) * 128)
    × (length l.out ≡ length l.initial.out)
    × (l.out ≡ stored l.initial.out l.at (section_lines (track_named l.tracks l.track) 0 (take l.j (take l.row.n l.row.posts))))
