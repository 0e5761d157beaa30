-- `put::all_in_fields` meets its contract: std's test of every event is the definition's.
use Rattle.std.proofs.Common.{[], ◌∙◌, rules, tests}
use Rattle.std.proofs.lemmas.Iterator.{YieldsList-from_slice}
use Rattle.std.proofs.lemmas.Iterator.Search.{all_from_yields_List}
use Rattle.sheet.specs.Entry.{in_fields}
use Rattle.sheet.proofs.Along.{along_list}
use Rattle.sheet.proofs.Fields.{fields_test}
use Rattle.lent_sheet.proofs.put.all_in_fields.Goals as goal

pub returns : goal.returns
returns c = let es = c.args.events.now in
    all_from_yields_List in_fields _ _ _ c.all.ensures.ran (YieldsList-from_slice es cc) (λ x b q k. search (rules, tests)) ∙ along_list fields_test [] es
