-- `event_row` meets its contract: the event on the first records, as many as the line has, is the event on the line.
use Rattle.std.proofs.Common.{arith}
use Rattle.row.proofs.Lines.{event_first}
use Rattle.row.proofs.event_row.Goals as goal

pub returns : goal.returns
returns c = let a = c.args in event_first a.row (omega arith) _ c.count.ensures.value a.s a.number a.place a.stamp _ _ c.desk_event-told.ensures
