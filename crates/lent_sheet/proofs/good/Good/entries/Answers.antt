-- `lent_sheet::good::Good::entries` meets its contract.
use Rattle.std.proofs.Common.{◌≡◌, add-zero}
use borrow.Author.Tests.{lt-leb}
use Rattle.sheet.specs.Reading.{entries_in}
use Rattle.lent_sheet.proofs.good.Good.entries.Goals as goal

pub returns : goal.returns
unfolding entries_in
returns c = let seen : c.self.inside.bytes.now ≡ c.args.self.now = c.self.view_is in
    rw (← seen, lt-leb _ 1 c.if-n-le1.false, add-zero, c.get_word.ensures)
