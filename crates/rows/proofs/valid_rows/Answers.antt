-- `valid_rows` meets its contract: the first records of each row, as many as its line has, are the line.
use Rattle.std.proofs.Common.{arith}
use Rattle.row.proofs.Lines.{line_first}
use Rattle.rows.proofs.valid_rows.Goals as goal

pub returns : goal.returns
returns c = let a = c.args in
    rw (line_first a.first (omega arith) _ c.count.ensures.value, line_first a.second (omega arith) _ c.count-2.ensures.value) c.desk_valid_tracks.ensures
