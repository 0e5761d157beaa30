-- `count` meets its contract: a row's line is at most as long as the row.
use Rattle.std.proofs.Common.{arith}
use Rattle.row.proofs.Lines.{line_few}
use Rattle.row.proofs.count.Goals as goal

pub returns-clause-within : goal.returns-clause-within
returns-clause-within c = rw c.line.ensures (line_few c.args.row (omega arith))
