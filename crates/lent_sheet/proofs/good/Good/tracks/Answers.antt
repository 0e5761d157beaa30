-- `lent_sheet::good::Good::tracks` meets its contract: what is stored stands before what was there.
use Rattle.std.proofs.Common.{sym, refl, arith}
use Rattle.sheet.specs.Reading.{track_on}
use Rattle.sheet.proofs.Tabs.{front_none, front_more}
use Rattle.relay.proofs.Tests.{tests}
use Rattle.lent_sheet.proofs.good.Good.tracks.Goals as goal

pub loop-i-init : goal.loop-i-init
loop-i-init c = (refl, sym (front_none (track_on _) _))

pub loop-i-preserved : goal.loop-i-preserved
loop-i-preserved c = (search tests, rw (c.event_at-track.ensures.track, c.loop-i.invariant.1) (front_more (track_on c.args.self.now) 0 c.loop-i.i _ (omega arith)))
