-- The sections so far are clear.
use Rattle.std.proofs.Common.{◌≡◌}
use mathlib.Core.Bool.{true}
use Rattle.tracks.specs.Circuit.{apart}
use Rattle.lent_rows.proofs.are_apart.Given as goal

abbrev pub invariant-loop-i : goal.invariant-loop-i
invariant-loop-i l = apart l.own l.other l.i ≡ true
