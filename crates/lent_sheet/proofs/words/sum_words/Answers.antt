-- `lent_sheet::words::sum_words` meets its contract: the sum of the words so far, carried round.
use Rattle.std.proofs.Common.{arith}
use Rattle.sheet.proofs.Sums.{sum_none, sum_more}
use Rattle.lent_sheet.proofs.words.sum_words.Goals as goal

pub loop-k-init : goal.loop-k-init
loop-k-init c = rw sum_none

pub loop-k-preserved : goal.loop-k-preserved
loop-k-preserved c = rw sum_more (omega arith)
