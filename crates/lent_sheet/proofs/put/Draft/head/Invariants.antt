use Rattle.std.proofs.Common.{◌≡◌, ℕ, length, get_or}
use Rattle.sheet.specs.Puts.{puts}
use Rattle.lent_sheet.proofs.put.Draft.head.Given as goal

abbrev pub invariant-loop-i : goal.invariant-loop-i
invariant-loop-i l = (length l.out ≡ length l.initial.out) × (l.out ≡ puts (λ (j : ℕ). get_or l.self.table.now j 0) 12 l.i l.initial.out)
