-- `lent_sheet::good::Good::table` meets its contract: what is stored stands before what was there.
use Rattle.std.proofs.Common.{◌≡◌, ℕ, ◌+◌, List, ◌++◌, length, drop}
use Rattle.sheet.specs.Words.{tab}
use Rattle.sheet.specs.Check.{word}
use Rattle.lent_sheet.proofs.good.Good.table.Given as goal

-- word i of the table
abbrev pub kind : List ℕ → ℕ → ℕ
kind s i = word s 0 (3 + i)

abbrev pub invariant-loop-i : goal.invariant-loop-i
invariant-loop-i l = (length l.room ≡ length l.initial.room) × (l.room ≡ tab (kind l.self) l.i ++ drop l.i l.initial.room)
