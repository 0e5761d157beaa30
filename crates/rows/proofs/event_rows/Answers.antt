-- `event_rows` meets its contract: the event on the first records of each row, as many as its line has, is the event on the lines.
use Rattle.std.proofs.Common.{arith}
use Rattle.rows.proofs.Lines.{event_first}
use Rattle.rows.proofs.event_rows.Goals as goal

pub returns : goal.returns
returns c = let a = c.args in
    event_first a.first a.second (omega arith) (omega arith) _ _ c.count.ensures.value c.count-2.ensures.value
    a.circuit a.s a.track a.number a.place a.stamp _ _ _ c.desk_event_tracks-told.ensures
