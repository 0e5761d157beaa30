-- `desk::print_imported` is safe: no more is written than there is room for.
use Rattle.std.proofs.Common.{sym, arith}
use lib.Seq.{length-take-le}
use Rattle.importing.proofs.Settled.{settles_within}
use Rattle.desk.proofs.print_imported.Goals as goal

pub slice_bounds-out-end : goal.slice_bounds-out-end
slice_bounds-out-end g c = omega (arith, settles_within _ _ _ _ _ _ c.in_ok-n.ensures.settles, c.settle.auto.out)

pub slice_bounds-write_whole-end : goal.slice_bounds-write_whole-end
slice_bounds-write_whole-end g c = sym (length-take-le _ _ (omega (arith, settles_within _ _ _ _ _ _ c.in_ok-n.ensures.settles, c.settle.auto.out)))
