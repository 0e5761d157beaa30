-- `stream::write_whole` ends, and what it wrote is the front of its text: each step that goes on comes further, stays within the text and wrote what it passed.
use Rattle.std.proofs.Common.{arith, subst, sym, ◌∙◌}
use Rattle.std.proofs.lemmas.Result.{err_from_is_err_and}
use Rattle.std.specs.Io.KnownBytes.{Appends}
use Rattle.stream.proofs.Bytes.{writes_more, writes_none, take_more}
use Rattle.stream.proofs.Failures.{written_further}
use Rattle.stream.proofs.write_whole.Goals as goal

pub returns-in_err-at : goal.returns-in_err-at
returns-in_err-at g c =
    let p = err_from_is_err_and c.from_residual.result c.from_residual.ensures.1 in
    rw p.1 (c.loop-at.at, c.loop-at-test.true, writes_none _ _ _ _ _ _ _ c.write.result _ (sym c.after_write.ensures ∙ c.in_err-at.was) c.write.ensures.bytes c.loop-at.invariant.1)

pub loop-at-smaller : goal.loop-at-smaller
loop-at-smaller g c = let on = written_further _ _ c.write.result _ (sym c.after_write.ensures ∙ c.in_ok-at.was) c.loop-at-test.true in omega arith

pub loop-at-preserved : goal.loop-at-preserved
loop-at-preserved g c =
    let step = sym c.after_write.ensures ∙ c.in_ok-at.was in
    let (n, place, fits, written) = writes_more _ _ _ _ _ _ _ c.write.result _ step c.write.ensures.bound c.write.ensures.bytes (omega arith) c.loop-at-test.true c.loop-at.invariant.1 in
    (omega arith, subst (Appends _ _) (take_more _ n _ _ place) written)
