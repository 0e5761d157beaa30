-- `why::since_when` meets its contract: refused as reading a sheet of one track refuses, else as any sheet is asked; one of one track is taken where two are.
use mathlib.Core.Path.{sym, ap, ◌∙◌}
use borrow.Author.Tests.{ne_eqb}
use Rattle.std.proofs.lemmas.Result.{err_from_is_err_and}
use Rattle.sheet.specs.Layout.{one_track, two_tracks}
use Rattle.sheet.specs.Reading.{verdict_of}
use Rattle.sheet.specs.declared.Verdict.{Verdict}
use Rattle.sheet.proofs.Forms.{taken_too}
use Rattle.sheet.proofs.Refusals.{refuses, passes_as}
use Rattle.why.proofs.Asked.{since-unread, since-read}
use Rattle.why.proofs.since_when.Goals as goal

pub returns-in_err-test : goal.returns-in_err-test
returns-in_err-test c = let s = c.args.s.now in
    let p = err_from_is_err_and c.from_residual.result c.from_residual.ensures.1 in
    let v = c.in_err-test.ensures in
    rw (p.1, p.2, v) (since-unread one_track s c.args.position (ne_eqb (verdict_of s).number 0 (λ e. refuses c.in_err-test.field-0.0 (ap (λ (x : Verdict). x.number) v ∙ e))))

pub returns : goal.returns
returns c = let s = c.args.s.now in
    let z = passes_as _ c.in_ok-test.ensures in
    c.since_when_tracks.ensures ∙ sym (since-read two_tracks s _ (taken_too s z)) ∙ since-read one_track s _ z
