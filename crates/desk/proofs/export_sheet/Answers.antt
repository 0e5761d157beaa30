-- `desk::export_sheet` is safe: no more is written than there is room for.
use Rattle.std.proofs.Common.{sym, arith}
use lib.Seq.{length-take-le}
use Rattle.exporting.proofs.Tracks.{tracks-within}
use Rattle.desk.proofs.export_sheet.Goals as goal

pub slice_bounds-page-end : goal.slice_bounds-page-end
slice_bounds-page-end g c = omega (arith, tracks-within _ _ _ _ c.in_ok-m.ensures, c.export_tracks.auto.out)

pub slice_bounds-write_whole-end : goal.slice_bounds-write_whole-end
slice_bounds-write_whole-end g c = sym (length-take-le _ _ (omega (arith, tracks-within _ _ _ _ c.in_ok-m.ensures, c.export_tracks.auto.out)))
