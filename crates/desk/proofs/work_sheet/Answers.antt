-- `desk::work_sheet` is safe: a sheet that is worked is accepted, and no longer than the room for the worked one.
use Rattle.std.proofs.Common.{sym, ap, arith, []}
use lib.Seq.{length-take-le}
use Rattle.sheet.specs.Layout.{two_tracks}
use Rattle.sheet.proofs.Rooms.{not_long}
use Rattle.working.proofs.WorksTracks.{accepts}
use Rattle.working.specs.declared.WorkedTracks.{WorkedTracks}
use Rattle.desk.proofs.work_sheet.Goals as goal

pub slice_bounds-out-end : goal.slice_bounds-out-end
slice_bounds-out-end g c =
    let z = accepts _ [] _ (sym (ap (λ (x : WorkedTracks). x.number) c.in_ok-work_tracks.ensures.worked.0)) in
    omega (arith, not_long two_tracks _ z, length-take-le c.in_ok-n.n c.read_input.new.room c.in_ok-n.ensures, c.work_tracks.auto.out)

pub slice_bounds-write_whole-end : goal.slice_bounds-write_whole-end
slice_bounds-write_whole-end g c =
    let z = accepts _ [] _ (sym (ap (λ (x : WorkedTracks). x.number) c.in_ok-work_tracks.ensures.worked.0)) in
    sym (length-take-le _ _ (omega (arith, not_long two_tracks _ z, length-take-le c.in_ok-n.n c.read_input.new.room c.in_ok-n.ensures, c.work_tracks.auto.out)))
