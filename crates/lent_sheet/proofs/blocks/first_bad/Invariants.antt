-- `lent_sheet::blocks::first_bad` meets its contract: at each turn what is left of the blocks, of the events and of the words decides.
use Rattle.std.proofs.Common.{◌≡◌, ◌-◌, ◌≤◌}
use Rattle.sheet.specs.Reading.{first_upper, zeros, first_bad}
use Rattle.lent_sheet.proofs.blocks.first_bad.Given as goal

abbrev pub invariant-loop-j : goal.invariant-loop-j
invariant-loop-j l = (l.shape.events ≤ 60) × (first_upper l.s l.b l.j (l.shape.events - l.j) ≡ first_upper l.s l.b 0 l.shape.events)

abbrev pub invariant-loop-k : goal.invariant-loop-k
invariant-loop-k l = zeros l.s l.b l.k (127 - l.k) ≡ zeros l.s l.b l.initial.k (127 - l.initial.k)

abbrev pub invariant-blocks-2 : goal.invariant-blocks-2
invariant-blocks-2 l = (l.b ≤ l.n) × (first_bad l.most l.s l.n l.b (l.n - l.b) ≡ first_bad l.most l.s l.n 0 l.n)

abbrev pub decreases-blocks-2 : goal.decreases-blocks-2
decreases-blocks-2 l = l.n - l.b
