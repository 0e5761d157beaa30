-- `words::position_of` meets its contract: at each turn the mark is that of the bytes before this one; at the end, of the whole text.
use Rattle.std.proofs.Common.{◌≡◌, ◌∙◌, sym, arith}
use Rattle.desk.specs.Words.{position_at, position_of}
use Rattle.desk.proofs.Checked.{at_none, at_checked}
use Rattle.desk.proofs.Position.{mark_none, mark_more, mark_all}
use Rattle.desk.proofs.words.position_of.Goals as goal
use Rattle.desk.proofs.words.position_of.Goals.{After-loop-byte}

-- past the loop the mark is that of the text
whole : (c : After-loop-byte) → position_of c.args.text.now ≡ position_at c.loop-byte.mark
whole c = mark_all _ c.loop-byte.byte-index c.loop-byte.mark (omega arith) c.loop-byte.invariant

pub loop-byte-init : goal.loop-byte-init
loop-byte-init c = sym (mark_none c.args.text.now)

pub loop-byte-preserved : goal.loop-byte-preserved
loop-byte-preserved c = c.with_digit-mark.ensures ∙ rw c.loop-byte.invariant (sym (mark_more c.args.text.now c.loop-byte.byte-index (omega arith)))

pub returns-in_err-checked_sub : goal.returns-in_err-checked_sub
returns-in_err-checked_sub c =
    c.from_residual.ensures ∙ sym (at_none _ _ c.in_err-checked_sub.was c.checked_sub.ensures) ∙ sym (whole (goal.at.returns-in_err-checked_sub c).After-loop-byte)

pub returns : goal.returns
returns c =
    c.ok.ensures.value ∙ at_checked _ _ _ _ c.in_ok-checked_sub.was c.checked_sub.ensures c.try_from.ensures ∙ sym (whole (goal.at.returns c).After-loop-byte)
