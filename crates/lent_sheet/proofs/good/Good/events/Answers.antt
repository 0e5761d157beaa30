-- `lent_sheet::good::Good::events` meets its contract: what is stored stands before what was there.
use Rattle.std.proofs.Common.{[], sym, refl, arith}
use Rattle.sheet.specs.Reading.{entry_in}
use Rattle.sheet.proofs.Tabs.{front_none, front_more}
use Rattle.relay.proofs.Tests.{tests}
use Rattle.lent_sheet.proofs.good.Good.events.Goals as goal

pub loop-i-init : goal.loop-i-init
loop-i-init c = (refl, sym (front_none (entry_in _) _))

pub loop-i-preserved : goal.loop-i-preserved
loop-i-preserved c = (search tests, rw (c.event_at.ensures.event, c.loop-i.invariant.1) (front_more (entry_in c.args.self.now) [] c.loop-i.i _ (omega arith)))
