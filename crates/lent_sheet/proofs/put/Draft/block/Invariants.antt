use Rattle.std.proofs.Common.{◌≡◌, ℕ, ◌+◌, ◌*◌, length}
use Rattle.sheet.specs.Sheet.{events_word}
use Rattle.sheet.specs.Puts.{puts, events_only}
use Rattle.lent_sheet.proofs.put.Draft.block.Given as goal

abbrev pub invariant-loop-j : goal.invariant-loop-j
invariant-loop-j l = (length l.out ≡ length l.initial.out) × (l.out ≡ puts (λ (k : ℕ). events_word (events_only l.self.events.now l.self.on.now) l.c (1 + k)) (l.at + 4) (l.j * 2) l.initial.out)
