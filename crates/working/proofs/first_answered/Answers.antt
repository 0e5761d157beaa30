-- `working::first_answered` meets its contract: the first event whose answer is another than 31.
use Rattle.std.proofs.Common.{rules, tests}
use Rattle.std.proofs.lemmas.Iterator.{YieldsList-from_slice}
use Rattle.std.proofs.lemmas.Iterator.Search.{position_from_yields_List}
use Rattle.working.proofs.Answers.{answered-already, first_place}
use Rattle.working.proofs.first_answered.Goals as goal

pub returns : goal.returns
returns c =
    rw (first_place c.args.events.now)
    (position_from_yields_List answered-already _ _ c.position.result c.position.ensures.ran (YieldsList-from_slice _ c.iter.ensures.rest) (λ x b q k. search (rules, tests)))
