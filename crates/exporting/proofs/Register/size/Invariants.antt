-- `exporting::Register::size` meets its contract: the header, and the records so far.
use Prim.Native.Nat.{◌+◌, ◌*◌, ◌≤◌}
use mathlib.Core.Path.{◌≡◌}
use lib.ListN.{length}
use Rattle.digits.specs.Texts.{joined}
use Rattle.exporting.specs.Fields.{text_at}
use Rattle.exporting.proofs.Register.size.Given as goal

abbrev pub invariant-loop-i : goal.invariant-loop-i
invariant-loop-i l = (l.size ≡ 34 + length (joined (text_at l.self.stamp l.self.kinds.now l.self.events.now) l.i))
    × (l.size ≤ 34 + l.i * 106)
