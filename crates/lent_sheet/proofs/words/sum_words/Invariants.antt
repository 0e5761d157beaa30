-- `lent_sheet::words::sum_words` meets its contract: the sum of the words so far, carried round.
use Rattle.std.proofs.Common.{◌≡◌, ◌%◌, ◌^◌}
use Rattle.sheet.specs.Check.{sum, word}
use Rattle.lent_sheet.proofs.words.sum_words.Given as goal

abbrev pub invariant-loop-k : goal.invariant-loop-k
invariant-loop-k l = l.total ≡ sum (word l.s l.b) l.k % 2 ^ 32
