-- The table's kinds are tested each at its place, by the closure that `all` calls.
use Rattle.std.proofs.Common.{◌≡◌, ℕ, length, rules, tests, arith, ◌∙◌}
use Rattle.std.proofs.lemmas.Iterator.{YieldsList-from_slice}
use Rattle.std.proofs.lemmas.Iterator.Consumers.{YieldsList-from_enumerate}
use Rattle.std.proofs.lemmas.Iterator.Search.{all_from_yields_List}
use Rattle.relay.specs.Kinds.{kind_fits, kinds_fit, table_ok}
use Rattle.line.proofs.Table.{all_fit}
use Rattle.line.proofs.may_start.Goals as goal

pub returns-then-count_fits : goal.returns-then-count_fits
unfolding table_ok
returns-then-count_fits c =
    let ks = c.args.kinds.now in
    let n = length ks in
    let all : c.all.result ≡ kinds_fit n 0 ks =
    all_from_yields_List (λ (p : ℕ × ℕ). kind_fits n p.0 p.1) _ _ c.all.result c.all.ensures.ran (YieldsList-from_enumerate (YieldsList-from_slice ks cc) cc) (λ x b q k. search (rules, tests))
    ∙ all_fit n 0 ks in
    grind (arith, tests)
