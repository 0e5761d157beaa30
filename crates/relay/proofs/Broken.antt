-- Each rule of a line that may be used refuses by itself: a line that breaks this one rule, and no other, may not be used. The tables are computed whole.
use mathlib.Core.Path.{◌≡◌, refl}
use mathlib.Core.Bool.{true}
use Rattle.relay.specs.Broken.{table, passed_early, faults_from, faults, refused_for_one, each_left, whole_alone}
use Rattle.relay.specs.Examples.{after_all}
use Rattle.relay.specs.Reached.{line, short_line}
use Rattle.relay.specs.Valid.{valid}
use Rattle.relay.proofs.Rules.{rules}

-- the rules of a post and of a section, at the ordinary kinds and at their short forms
pub each-alone : (each_left refused_for_one line table ≡ true) × (each_left refused_for_one short_line table ≡ true)
unfolding rules after_all table faults_from faults refused_for_one each_left
each-alone = (refl, refl)

-- 'KPg requires An' is one at the ordinary kinds; at the short forms a line that breaks it may be used
pub passage-alone : (each_left refused_for_one line passed_early ≡ true) × (each_left valid short_line passed_early ≡ true)
unfolding rules after_all passed_early faults_from faults refused_for_one each_left
passage-alone = (refl, refl)

-- the rules of the whole line
pub whole-alone : whole_alone ≡ true
unfolding rules faults_from faults refused_for_one whole_alone
whole-alone = refl
