-- `start_rows` meets its contract: the start of the first of 32 blank records of each leaves the rows that hold the fresh lines, or none.
use Rattle.rows.proofs.Starts.{start_done, start_none}
use Rattle.rows.proofs.start_rows.Goals as goal

pub returns-then-told-eq-TAKEN : goal.returns-then-told-eq-TAKEN
returns-then-told-eq-TAKEN c = let a = c.args in
    rw c.blank_post-own.ensures (start_done a.circuit a.kinds.now a.others.now a.stamp _ _ c.min.ensures c.min-2.ensures _ _ _
    (rw (← c.blank_post-own.ensures) c.desk_start_tracks-told.ensures) c.if-told-eq-TAKEN.true)

pub returns-else-told-eq-TAKEN : goal.returns-else-told-eq-TAKEN
returns-else-told-eq-TAKEN c = let a = c.args in
    rw c.blank_post-own.ensures (start_none a.circuit a.kinds.now a.others.now a.stamp _ _ c.min.ensures c.min-2.ensures _ _ _
    (rw (← c.blank_post-own.ensures) c.desk_start_tracks-told.ensures) c.if-told-eq-TAKEN.false)
