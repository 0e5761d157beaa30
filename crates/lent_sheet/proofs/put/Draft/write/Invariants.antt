use Rattle.std.proofs.Common.{◌≡◌, ℕ, ◌*◌, List, length}
use Rattle.sheet.specs.Sheet.{Tracked}
use Rattle.sheet.specs.Puts.{puts}
use Rattle.sheet.proofs.Laid.{later}
use Rattle.lent_sheet.proofs.put.Draft.write.Given as goal

abbrev pub sheetOf : ℕ → ℕ → List ℕ → List (List ℕ) → List ℕ → Tracked
sheetOf form stamp table events tracks = record { form = form; stamp = stamp; table = table; events = events; tracks = tracks }

abbrev pub invariant-loop-c : goal.invariant-loop-c
invariant-loop-c l = (length l.out ≡ length l.initial.out) × (l.out ≡ puts (later (sheetOf l.self.tracks l.self.stamp l.self.table.now l.self.events.now l.self.on.now)) 512 (l.c * 128) l.initial.out)
