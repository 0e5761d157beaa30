-- `lent_sheet::blocks::kinds_at` meets its contract: what is left of the table decides, at each turn.
use Rattle.std.proofs.Common.{◌≡◌, ◌≤◌, true}
use Rattle.relay.specs.Kinds.{count_fits}
use Rattle.line.proofs.Table.{Rest}
use Rattle.sheet.specs.Check.{word}
use Rattle.sheet.specs.Reading.{kinds_at}
use Rattle.lent_sheet.proofs.blocks.kinds_at.Given as goal

abbrev pub invariant-loop-i : goal.invariant-loop-i
invariant-loop-i l = (l.n ≡ word l.s 0 1) × (l.n ≤ 32) × (count_fits l.n ≡ true) × (Rest (kinds_at l.s l.at) l.i ≡ Rest (kinds_at l.s l.at) 0)
