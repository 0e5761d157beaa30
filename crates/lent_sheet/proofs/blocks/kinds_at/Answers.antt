-- `lent_sheet::blocks::kinds_at` meets its contract: what is left of the table decides, at each turn.
use Rattle.std.proofs.Common.{◌≡◌, ◌+◌, true, false, sym, refl, ◌∙◌, zero-add, arith}
use Rattle.line.proofs.Table.{Rest}
use Rattle.sheet.specs.Check.{word}
use Rattle.sheet.specs.Reading.{kinds_at}
use Rattle.sheet.proofs.Table.{few, stops, goes, ended, decides}
use Rattle.lent_sheet.proofs.blocks.kinds_at.Goals as goal

pub returns-then-not-count_fits : goal.returns-then-not-count_fits
returns-then-not-count_fits c = let s = c.args.s.now in
    let at = c.args.at in
    let e : c.get_word-n.result ≡ word s 0 1 = c.get_word-n.ensures in
    decides s at false (Rest (kinds_at s at) 0) (rw (← e) (sym c.count_fits.ensures ∙ c.if-not-count_fits.true)) refl

pub loop-i-init : goal.loop-i-init
loop-i-init c = let fits = sym c.count_fits.ensures ∙ c.if-not-count_fits.false in
    (c.get_word-n.ensures, few _ fits, fits, refl)

pub returns-then-not-kind_fits : goal.returns-then-not-kind_fits
returns-then-not-kind_fits c = let s = c.args.s.now in
    let at = c.args.at in
    let e = c.loop-i.invariant.0 in
    let w : word s 0 (at + c.loop-i.i) ≡ c.get_word.result = rw zero-add (sym c.get_word.ensures) in
    decides s at true false (rw (← e) c.loop-i.invariant.2)
    (stops s at c.loop-i.i (omega arith) c.loop-i.invariant.3 (rw (← e, w) (sym c.kind_fits.ensures ∙ c.if-not-kind_fits.true)))

pub loop-i-preserved : goal.loop-i-preserved
loop-i-preserved c = let s = c.args.s.now in
    let at = c.args.at in
    let e = c.loop-i.invariant.0 in
    let w : word s 0 (at + c.loop-i.i) ≡ c.get_word.result = rw zero-add (sym c.get_word.ensures) in
    (e, c.loop-i.invariant.1, c.loop-i.invariant.2, goes s at c.loop-i.i (omega arith) c.loop-i.invariant.3 (rw (← e, w) (sym c.kind_fits.ensures ∙ c.if-not-kind_fits.false)))

pub returns : goal.returns
returns c = let s = c.args.s.now in
    let at = c.args.at in
    let e = c.loop-i.invariant.0 in
    decides s at true true (rw (← e) c.loop-i.invariant.2) (ended s at c.loop-i.i (omega arith) c.loop-i.invariant.3)
