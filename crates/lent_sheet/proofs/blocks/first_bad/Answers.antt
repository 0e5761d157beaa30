-- `lent_sheet::blocks::first_bad` meets its contract: at each turn what is left of the blocks, of the events and of the words decides.
use Rattle.std.proofs.Common.{◌≡◌, ◌+◌, ◌-◌, ◌*◌, true, false, Some, sym, refl, ◌∙◌, arith}
use native.Mathlib.Nat.{sub-zero}
use Rattle.sheet.specs.Check.{word, checks}
use Rattle.sheet.specs.Entry.{upper_zero}
use Rattle.sheet.specs.Reading.{form_in, first_upper, zeros, first_bad}
use Rattle.sheet.specs.Shape.{shape_of}
use Rattle.sheet.specs.declared.Verdict.{Verdict}
use Rattle.sheet.proofs.Contents.{fills, Faulty, wrong-shape, wrong-entry, wrong-zero, Inside, shape-inside, entries_more, entries-bad, entries-done, zeros_more, zeros-bad, zeros-done, bad_check, bad_contents, good_block, no_more}
use Rattle.lent_sheet.proofs.blocks.first_bad.Goals as goal
use Rattle.lent_sheet.proofs.blocks.first_bad.Goals.{Else-not-checks_as, In-Some}

-- past the first test the block checks
checked : (c : Else-not-checks_as) → checks c.args.s.now c.blocks-2.b ≡ true
checked c = sym c.checks_as.ensures ∙ c.if-not-checks_as.false

-- a block that checks and whose contents are wrong is named, with what is said of them
named : (c : Else-not-checks_as) (v : Verdict)
    → Faulty c.args.s.now c.blocks-2.b (shape_of c.args.most c.args.s.now c.args.n c.blocks-2.b) v
    → v ≡ first_bad c.args.most c.args.s.now c.args.n 0 c.args.n
named c v bad =
    let a = c.args in
    sym bad.1 ∙ sym (bad_contents a.most a.s.now a.n c.blocks-2.b (omega arith) (checked c) bad.0) ∙ c.blocks-2.invariant.1

-- past the second it has a shape
shaped : (c : In-Some) → shape_of c.args.most c.args.s.now c.args.n c.blocks-2.b ≡ Some c.in-Some.shape
shaped c = sym c.shape_of.ensures ∙ c.in-Some.is

within : (c : In-Some) → Inside c.in-Some.shape
within c = shape-inside c.args.most c.args.s.now c.args.n c.blocks-2.b c.in-Some.shape (shaped c)

pub loop-j-init : goal.loop-j-init
loop-j-init c = ((within (goal.at.loop-j-init c).In-Some).events, rw sub-zero)

pub loop-j-preserved : goal.loop-j-preserved
loop-j-preserved c = let s = c.args.s.now in
    let good : upper_zero (form_in s) (word s c.blocks-2.b (1 + c.loop-j.j * 2)) ≡ true =
    rw (← c.get_word-tracks.ensures, ← c.get_word.ensures) (sym c.upper_zero.ensures ∙ c.if-not-upper_zero.false) in
    (c.loop-j.invariant.0, sym (entries_more s c.blocks-2.b _ c.loop-j.j (omega arith) good) ∙ c.loop-j.invariant.1)

pub loop-k-init : goal.loop-k-init
loop-k-init c = refl

pub loop-k-preserved : goal.loop-k-preserved
loop-k-preserved c = let s = c.args.s.now in
    let zero : word s c.blocks-2.b c.loop-k.k ≡ 0 = sym c.get_word-in-loop-k.ensures ∙ c.if-get_word-ne0.false in
    sym (zeros_more s c.blocks-2.b 127 c.loop-k.k (omega arith) zero) ∙ c.loop-k.invariant

pub blocks-2-preserved : goal.blocks-2-preserved
blocks-2-preserved c = let a = c.args in
    let f = c.in-Some.shape in
    let past = (within (goal.at.blocks-2-preserved c).In-Some).words in
    let entries = entries-done a.s.now c.blocks-2.b f.events c.loop-j.j (omega arith) (omega arith) c.loop-j.invariant.1 in
    let rest : zeros a.s.now c.blocks-2.b f.used (127 - f.used) ≡ true =
    sym c.loop-k.invariant ∙ zeros-done a.s.now c.blocks-2.b 127 c.loop-k.k (omega arith) in
    let good : fills a.s.now c.blocks-2.b (shape_of a.most a.s.now a.n c.blocks-2.b) ≡ true =
    rw (shaped (goal.at.blocks-2-preserved c).In-Some, entries, rest) refl in
    (omega arith, sym (good_block a.most a.s.now a.n c.blocks-2.b (omega arith) (checked (goal.at.blocks-2-preserved c).Else-not-checks_as) good) ∙ c.blocks-2.invariant.1)

pub returns-then-n-b : goal.returns-then-n-b
returns-then-n-b c = let a = c.args in
    sym (no_more a.most a.s.now a.n c.blocks-2.b c.if-n-b.true) ∙ c.blocks-2.invariant.1

pub returns-then-not-checks_as : goal.returns-then-not-checks_as
returns-then-not-checks_as c = let a = c.args in
    sym (bad_check a.most a.s.now a.n c.blocks-2.b (omega arith) (sym c.checks_as.ensures ∙ c.if-not-checks_as.true))
    ∙ c.blocks-2.invariant.1

pub returns-in_default : goal.returns-in_default
returns-in_default c =
    named (goal.at.returns-in_default c).Else-not-checks_as _ (rw (sym c.shape_of.ensures ∙ c.in_default.is) (wrong-shape c.args.s.now c.blocks-2.b))

pub returns-then-not-upper_zero : goal.returns-then-not-upper_zero
returns-then-not-upper_zero c = let s = c.args.s.now in
    let bad : upper_zero (form_in s) (word s c.blocks-2.b (1 + c.loop-j.j * 2)) ≡ false =
    rw (← c.get_word-tracks.ensures, ← c.get_word.ensures) (sym c.upper_zero.ensures ∙ c.if-not-upper_zero.true) in
    let first : first_upper s c.blocks-2.b 0 c.in-Some.shape.events ≡ c.loop-j.j =
    sym c.loop-j.invariant.1 ∙ entries-bad s c.blocks-2.b _ c.loop-j.j (omega arith) bad in
    named (goal.at.returns-then-not-upper_zero c).Else-not-checks_as _ (rw (shaped (goal.at.returns-then-not-upper_zero c).In-Some) (wrong-entry s c.blocks-2.b c.in-Some.shape _ first (omega arith)))

pub returns-then-get_word-ne0 : goal.returns-then-get_word-ne0
returns-then-get_word-ne0 c = let s = c.args.s.now in
    let f = c.in-Some.shape in
    let entries = entries-done s c.blocks-2.b f.events c.loop-j.j (omega arith) (omega arith) c.loop-j.invariant.1 in
    let none : zeros s c.blocks-2.b f.used (127 - f.used) ≡ false =
    sym c.loop-k.invariant ∙ zeros-bad s c.blocks-2.b 127 c.loop-k.k (omega arith) (λ z. c.if-get_word-ne0.true (c.get_word-in-loop-k.ensures ∙ z)) in
    named (goal.at.returns-then-get_word-ne0 c).Else-not-checks_as _ (rw (shaped (goal.at.returns-then-get_word-ne0 c).In-Some) (wrong-zero s c.blocks-2.b f entries none))
