-- `exporting::Register::put` meets its contract: the header, and after it the records so far.
use mathlib.Core.Path.{◌≡◌}
use lib.ListN.{length}
use Rattle.digits.specs.Texts.{joined, Put}
use Rattle.exporting.specs.Fields.{text_at}
use Rattle.exporting.proofs.Register.put.Given as goal

abbrev pub invariant-loop-i : goal.invariant-loop-i
invariant-loop-i l = (length l.out ≡ length l.initial.out)
    × Put (joined (text_at l.self.stamp l.self.kinds.now l.self.events.now) l.i) l.initial.p l.p l.initial.out l.out
