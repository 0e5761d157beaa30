-- Every event can be taken with its effect at each kind of post that has its device, and every number 2 to 17, 22 and 23 is given: the tables are computed whole.
use mathlib.Core.Path.{◌≡◌, refl}
use mathlib.Core.List.{◌++◌}
use Rattle.relay.specs.Examples.{after_all}
use Rattle.relay.specs.Reached.{line, short_line, below, grown, differences, each, taken, refusals, table, early_lost, early_counts, outcomes, stated}
use Rattle.relay.proofs.Rules.{rules}

-- each row of the tables has the answer that it states, and alters what it states and nothing else
pub reached : (outcomes line (table ++ early_lost) ≡ stated (table ++ early_lost))
    × (outcomes short_line (table ++ early_counts) ≡ stated (table ++ early_counts))
unfolding rules after_all below grown differences each taken refusals early_lost early_counts outcomes stated
reached = (refl, refl)
