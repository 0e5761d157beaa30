-- `lent_sheet::good::Good::events` meets its contract: what is stored stands before what was there.
use Rattle.std.proofs.Common.{◌≡◌, ◌++◌, length, drop}
use Rattle.sheet.specs.Words.{tab}
use Rattle.sheet.specs.Reading.{entry_in}
use Rattle.lent_sheet.proofs.good.Good.events.Given as goal

abbrev pub invariant-loop-i : goal.invariant-loop-i
invariant-loop-i l = (length l.room ≡ length l.initial.room) × (l.room ≡ tab (entry_in l.self) l.i ++ drop l.i l.initial.room)
