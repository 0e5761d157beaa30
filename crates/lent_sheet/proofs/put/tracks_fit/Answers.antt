-- `put::tracks_fit` meets its contract: std's test of every track is the definition's.
use Rattle.std.proofs.Common.{ltb, ◌∙◌, rules, tests, eq-eqb, ne_eqb}
use Rattle.std.proofs.lemmas.Iterator.{YieldsList-from_slice}
use Rattle.std.proofs.lemmas.Iterator.Search.{all_from_yields_List}
use Rattle.sheet.specs.Writing.{tracks_fit}
use Rattle.sheet.proofs.Along.{along_list}
use Rattle.sheet.proofs.Fields.{below_test}
use Rattle.lent_sheet.proofs.put.tracks_fit.Goals as goal

pub returns-then-on-n : goal.returns-then-on-n
unfolding tracks_fit
returns-then-on-n c = let ts = c.args.on.now in
    let m = c.args.tracks in
    rw (eq-eqb _ _ c.if-on-n.true)
    (all_from_yields_List (λ x. ltb x m) _ _ _ c.all.ensures.ran (YieldsList-from_slice ts cc) (λ x b q k. search (rules, tests)) ∙ along_list (below_test m) 0 ts)

pub returns-else-on-n : goal.returns-else-on-n
unfolding tracks_fit
returns-else-on-n c = rw (ne_eqb _ _ c.if-on-n.false)
