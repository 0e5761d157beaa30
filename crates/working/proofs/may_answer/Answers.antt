-- `working::may_answer` meets its contract: what it refuses is refused of any sheet with these events.
use native.Mathlib.Omega.{arith}
use Rattle.working.proofs.Answers.{found, not_found}
use Rattle.working.proofs.WorksTracks.{outcome_answered, outcome_short}
use Rattle.working.proofs.may_answer.Goals as goal

pub returns-in-Some-clause-refuses : goal.returns-in-Some-clause-refuses
returns-in-Some-clause-refuses c = λ t e w. outcome_answered t c.args.room _ (rw e (found c.args.events.now _ c.first_answered.ensures c.in-Some.i c.in-Some.is))

pub returns-then-room-size-clause-refuses : goal.returns-then-room-size-clause-refuses
returns-then-room-size-clause-refuses c = λ t e w. outcome_short t c.args.room (rw e (not_found c.args.events.now _ c.first_answered.ensures c.in_default.is)) (omega (arith, c.if-room-size.true, w))

pub returns-clause-passes : goal.returns-clause-passes
returns-clause-passes c = (not_found c.args.events.now _ c.first_answered.ensures c.in_default.is, omega (arith, c.if-room-size.false))
