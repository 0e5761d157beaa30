-- `lent_sheet::good::Good::tracks` meets its contract: what is stored stands before what was there.
use Rattle.std.proofs.Common.{◌≡◌, ◌++◌, length, drop}
use Rattle.sheet.specs.Words.{tab}
use Rattle.sheet.specs.Reading.{track_on}
use Rattle.lent_sheet.proofs.good.Good.tracks.Given as goal

abbrev pub invariant-loop-i : goal.invariant-loop-i
invariant-loop-i l = (length l.room ≡ length l.initial.room) × (l.room ≡ tab (track_on l.self) l.i ++ drop l.i l.initial.room)
