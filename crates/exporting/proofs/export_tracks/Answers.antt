-- `exporting::export_tracks` meets its contract: refused as reading either form refuses; of a sheet that is then not one of one track 20; else exported as one of one track.
use Rattle.std.proofs.lemmas.Result.{err_from_is_err_and}
use mathlib.Core.Path.{sym, ap, ◌∙◌}
use Rattle.sheet.specs.declared.Verdict.{Verdict}
use Rattle.sheet.proofs.Refusals.{refuses, passes_as}
use Rattle.exporting.proofs.Forms.{not_two, two_left, one_refused, one_passes}
use Rattle.exporting.proofs.Tracks.{tracks-unread, tracks_two, tracks_one}
use Rattle.exporting.proofs.export_tracks.Goals as goal

pub returns-in_err-test_tracks : goal.returns-in_err-test_tracks
returns-in_err-test_tracks c = let a = c.args in
    let p = err_from_is_err_and c.from_residual.result c.from_residual.ensures.1 in
    let v = c.in_err-test_tracks.ensures in
    rw (p.1, p.2, v) (tracks-unread a.s.now a.out.now (λ z. refuses _ (ap (λ (w : Verdict). w.number) v ∙ z)))

pub returns-then-is_err : goal.returns-then-is_err
returns-then-is_err c = let a = c.args in
    let z = passes_as _ c.in_ok-test_tracks.ensures in
    tracks_two a.s.now a.out.now z (two_left a.s.now z (one_refused a.s.now c.test.result c.test.ensures (sym c.is_err.ensures.value ∙ c.if-is_err.true)))

pub returns : goal.returns
returns c = let a = c.args in
    tracks_one a.s.now a.out.now (passes_as _ c.in_ok-test_tracks.ensures) _ _ (not_two a.s.now (one_passes a.s.now c.test.result c.test.ensures (sym c.is_err.ensures.value ∙ c.if-is_err.false))) c.export.ensures
