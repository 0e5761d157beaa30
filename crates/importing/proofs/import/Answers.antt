-- `importing::import` meets its contract: the text is fed from the start, and what is settled then is by the text alone (proofs/Answers.antt).
use mathlib.Core.Path.{refl, ◌∙◌}
use native.Mathlib.Omega.{arith}
use Rattle.importing.proofs.Answers.{settled-imports}
use Rattle.importing.proofs.import.Goals as goal

pub returns-clause-imports : goal.returns-clause-imports
returns-clause-imports c = let a = c.args in
    let e = c.settle.ensures.settles in
    let s = settled-imports a.text.now a.out.now _ _ (omega arith) refl refl _ _ c.begin.ensures c.feed-s.ensures in
    (e.0 ∙ s.0, e.1 ∙ s.1)
