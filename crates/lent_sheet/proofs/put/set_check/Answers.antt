-- `put::set_check` meets its contract: the wrapping difference is the one word that brings the sum to the target.
use Rattle.std.proofs.Common.{◌≡◌, ◌+◌, ◌*◌, ◌%◌, ◌^◌, ap, ◌∙◌, arith}
use Rattle.sheet.specs.Words.{put_word}
use Rattle.sheet.specs.Check.{sum, word, target}
use Rattle.sheet.proofs.Sums.{seal_is}
use Rattle.lent_sheet.proofs.put.set_check.Goals as goal

pub returns : goal.returns
returns c = let a = c.args in
    let n = sum (word a.out.now a.b) 127 in
    let e : (n + c.wrapping_sub_u32.result) % 2 ^ 32 ≡ target a.b = omega (arith, c.wrapping_sub_u32.ensures.value, c.sum_words-total.ensures) in
    c.put_word.ensures
    ∙ ap (put_word a.out.now (a.b * 512 + 508)) (seal_is c.wrapping_sub_u32.result n a.b (omega arith) e (omega arith))
