-- `start_row` meets its contract: the start of the first of 32 blank records leaves the row that holds the fresh line, or none.
use Rattle.row.proofs.Starts.{start_done, start_none}
use Rattle.row.proofs.start_row.Goals as goal

pub returns-then-told-eq-TAKEN : goal.returns-then-told-eq-TAKEN
returns-then-told-eq-TAKEN c = let a = c.args in
    rw c.blank_post-posts.ensures (start_done a.kinds.now a.stamp c.min.result c.min.ensures _ _ (rw (← c.blank_post-posts.ensures) c.desk_start-told.ensures) c.if-told-eq-TAKEN.true)

pub returns-else-told-eq-TAKEN : goal.returns-else-told-eq-TAKEN
returns-else-told-eq-TAKEN c = let a = c.args in
    rw c.blank_post-posts.ensures (start_none a.kinds.now a.stamp c.min.result c.min.ensures _ _ (rw (← c.blank_post-posts.ensures) c.desk_start-told.ensures) c.if-told-eq-TAKEN.false)
