-- `desk::list_sheet` is safe: the part of the page that is printed is the listing, which stands in it.
use Rattle.std.proofs.Common.{sym}
use lib.Seq.{length-take-le}
use Rattle.digits.proofs.Stores.{text-within}
use Rattle.desk.proofs.list_sheet.Goals as goal

pub slice_bounds-page-end : goal.slice_bounds-page-end
slice_bounds-page-end g c = rw (c.list-m.ensures.0, c.list-m.ensures.1) (text-within _ 0 _)

pub slice_bounds-write_whole-end : goal.slice_bounds-write_whole-end
slice_bounds-write_whole-end g c = sym (length-take-le _ _ (rw (c.list-m.ensures.0, c.list-m.ensures.1) (text-within _ 0 _)))
