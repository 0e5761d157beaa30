-- `put::Draft::block` meets its contract: the count, a word and a stamp for each event with zeros past them, and the check are the block in its order.
use Rattle.std.proofs.Common.{◌≡◌, ◌+◌, ◌*◌, length, sym, refl, ◌∙◌, arith}
use Rattle.sheet.specs.Words.{put_word}
use Rattle.sheet.specs.Sheet.{held}
use Rattle.sheet.specs.Puts.{events_only}
use Rattle.sheet.proofs.Puts.{puts_none}
use Rattle.sheet.proofs.Stores.{checked, pair_more, events_body}
use Rattle.lent_sheet.proofs.put.Draft.block.Goals as goal

pub loop-j-init : goal.loop-j-init
loop-j-init c = (refl, sym (puts_none _ _ _))

pub loop-j-preserved : goal.loop-j-preserved
loop-j-preserved c = let t = events_only c.args.self.now.events.now c.args.self.now.on.now in (
  c.put_word-in-loop-j-2.auto.s ∙ c.put_word-in-loop-j.auto.s ∙ c.loop-j.invariant.0,
  c.put_word-in-loop-j-2.ensures
      ∙ rw (c.put_word-in-loop-j.ensures, c.loop-j.invariant.1) (pair_more t c.args.c _ c.loop-j.j _ _ _ c.pair_in-word.ensures.word c.pair_in-word.ensures.stamp),
)

pub returns : goal.returns
returns c = let t = events_only c.args.self.now.events.now c.args.self.now.on.now in
    let d = c.args.out.now in
    let n : c.loop-j.j ≡ 63 = omega arith in
    let one : c.put_word.new.s ≡ put_word d ((c.args.c + 1) * 512) (held (length t.events) c.args.c) = c.put_word.ensures ∙ rw c.held_in.ensures in
    let body = events_body t c.args.c d c.loop-j.out (c.loop-j.invariant.1 ∙ rw (n, one)) in
    c.set_check.ensures ∙ checked t (c.args.c + 1) d (omega arith) c.loop-j.out body
