-- `words::position_of`: at each turn the mark is that of the bytes before this one.
use Rattle.std.proofs.Common.{◌≡◌, take}
use Rattle.digits.specs.Numerals.{marked}
use Rattle.desk.proofs.words.position_of.Given as goal

abbrev pub invariant-loop-byte : goal.invariant-loop-byte
invariant-loop-byte l = l.mark ≡ marked 0 (take l.byte-index l.text)
