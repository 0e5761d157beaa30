-- `put::Draft::head` meets its contract: three words, the kinds with zeros past them, and the check are block 0 in its order.
use Rattle.std.proofs.Common.{◌≡◌, ℕ, length, get_or, sym, refl, ◌∙◌, arith}
use Rattle.sheet.specs.Sheet.{posts_of}
use Rattle.sheet.specs.Words.{put_word}
use Rattle.sheet.specs.Puts.{head_only}
use Rattle.sheet.proofs.Puts.{puts_none, puts_more}
use Rattle.sheet.proofs.Stores.{checked, head_body}
use Rattle.sheet.proofs.Writable.{posts-most}
use Rattle.lent_sheet.proofs.put.Draft.head.Goals as goal

pub overflow_cast-posts_of : goal.overflow_cast-posts_of
overflow_cast-posts_of c = let a = c.args in
    record { fits = omega (arith, c.posts_of.ensures, posts-most a.self.now.tracks (length a.self.now.table.now)) }

pub loop-i-init : goal.loop-i-init
loop-i-init c = (refl, sym (puts_none _ _ _))

pub loop-i-preserved : goal.loop-i-preserved
loop-i-preserved c = let ks = c.args.self.now.table.now in
    let i = c.loop-i.i in
    (c.put_word-in-loop-i.auto.s ∙ c.loop-i.invariant.0, c.put_word-in-loop-i.ensures ∙ rw (c.word_or_zero.ensures, c.loop-i.invariant.1) (puts_more (λ (j : ℕ). get_or ks j 0) 12 i _))

pub returns : goal.returns
returns c = let t = head_only c.args.self.now.tracks c.args.self.now.stamp c.args.self.now.table.now in
    let d = c.args.out.now in
    let n : c.loop-i.i ≡ 124 = omega arith in
    let three : c.put_word-3.new.s ≡ put_word (put_word (put_word d 0 t.form) 4 (posts_of t.form (length t.table))) 8 t.stamp =
    c.put_word-3.ensures ∙ rw (c.put_word-2.ensures, c.posts_of.ensures, c.put_word.ensures) in
    c.set_check.ensures ∙ checked t 0 d (omega arith) c.loop-i.out (head_body t d c.loop-i.out (c.loop-i.invariant.1 ∙ rw (n, three)))
