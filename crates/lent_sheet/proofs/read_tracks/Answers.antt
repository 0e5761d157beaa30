-- `lent_sheet::read_tracks` meets its contract: each refusal leaves the rooms as they were, and past them the table, the events and their tracks are handed out.
use Rattle.std.proofs.Common.{sym, ◌∙◌}
use Rattle.std.proofs.lemmas.Result.{err_from_is_err_and}
use Rattle.sheet.proofs.Refusals.{refuses, passes_as}
use Rattle.sheet.proofs.RoomsTracks.{found_is, room_parts, table_out, events_out, tracks_out, read-refused, read_short, read_found}
use Rattle.lent_sheet.proofs.read_tracks.Goals as goal

pub returns-in_err-sheet : goal.returns-in_err-sheet
returns-in_err-sheet c = let a = c.args in
    let p = err_from_is_err_and c.from_residual.result c.from_residual.ensures.1 in
    rw (p.1, p.2) (read-refused a.s.now a.table.now a.events.now a.on.now _ c.in_err-sheet.ensures.tested (refuses _))

pub returns-then-not-fits : goal.returns-then-not-fits
returns-then-not-fits c = let a = c.args in
    let no = sym (rw c.in_ok-sheet.ensures.same at c.fits.ensures) ∙ c.if-not-fits.true in
    read_short a.s.now a.table.now a.events.now a.on.now (passes_as _ c.in_ok-sheet.ensures.tested) (room_parts a.s.now _ _ _ ∙ no)

pub returns : goal.returns
returns c = let a = c.args in
    let same = c.in_ok-sheet.ensures.same in
    let yes = sym (rw same at c.fits.ensures) ∙ c.if-not-fits.false in
    let r = read_found a.s.now a.table.now a.events.now a.on.now (passes_as _ c.in_ok-sheet.ensures.tested) (room_parts a.s.now _ _ _ ∙ yes) in (
      rw (c.header.ensures, same) (sym (found_is a.s.now) ∙ r.0),
      (rw same at c.table.ensures) ∙ table_out a.s.now a.table.now,
      (rw same at c.events.ensures) ∙ events_out a.s.now a.events.now,
      (rw same at c.tracks.ensures) ∙ tracks_out a.s.now a.on.now,
    )
