-- `stream::read_whole` ends, counts no byte past its room, and puts what it read at the front of it: each step that goes on comes further, stays within the room and filled what it passed.
use Rattle.std.proofs.Common.{arith, subst, sym, ap, ◌∙◌, Ok}
use Rattle.std.proofs.lemmas.Result.{err_from_is_err_and}
use Rattle.std.specs.Io.KnownBytes.{Consumes}
use Rattle.stream.proofs.Bytes.{reads_more, reads_no_more, reads_none, before_filled, filled_more}
use Rattle.stream.proofs.Failures.{read_further, read_over}
use Rattle.stream.proofs.read_whole.Goals as goal
use Rattle.stream.proofs.read_whole.Goals.{In-Break, In-Continue}

pub returns-in_err-n-clause-bytes : goal.returns-in_err-n-clause-bytes
returns-in_err-n-clause-bytes g c =
    let p = err_from_is_err_and c.from_residual.result c.from_residual.ensures.1 in
    let before = subst (Consumes _ _) (sym (before_filled _ _ c.read.new.buf c.loop-at.invariant.0)) c.loop-at.invariant.2 in
    rw p.1 (c.loop-at.at, omega arith, reads_none _ _ _ _ c.read.new.buf _ _ c.read.result _ (sym c.after_read.ensures ∙ c.in_err-n.was) c.read.ensures.bytes before)

pub returns-in-Break-clause-within : goal.returns-in-Break-clause-within
returns-in-Break-clause-within g c = omega (arith, read_over _ _ c.read.result _ (sym c.after_read.ensures ∙ c.in_ok-n.was ∙ ap Ok c.in-Break.is))

pub returns-in-Break-clause-bytes : goal.returns-in-Break-clause-bytes
returns-in-Break-clause-bytes g c =
    let step = sym c.after_read.ensures ∙ c.in_ok-n.was ∙ ap Ok c.in-Break.is in
    let before = subst (Consumes _ _) (sym (before_filled _ _ c.read.new.buf c.loop-at.invariant.0)) c.loop-at.invariant.2 in
    let over = reads_no_more _ _ _ _ c.read.new.buf _ _ c.read.result _ step c.read.ensures.bytes (omega arith) before in
    rw (← read_over _ _ c.read.result _ step) (over.0, λ _. over.1)

pub loop-at-smaller : goal.loop-at-smaller
loop-at-smaller g c =
    let on = read_further _ _ c.read.result _ (sym c.after_read.ensures ∙ c.in_ok-n.was ∙ ap Ok c.in-Continue.is) (omega arith) in omega arith

pub loop-at-preserved : goal.loop-at-preserved
loop-at-preserved g c =
    let step = sym c.after_read.ensures ∙ c.in_ok-n.was ∙ ap Ok c.in-Continue.is in
    let (n, place, fits, taken) = reads_more _ _ _ _ _ _ _ c.read.result _ step c.read.ensures.bound c.read.ensures.bytes (omega arith) (omega arith) c.loop-at.invariant.2 in
    (omega arith, omega arith, subst (Consumes _ _) (filled_more _ _ _ c.loop-at.invariant.0 n _ place fits) taken)
