-- `lent_sheet::blocks::table_in` meets its contract: the first table, and of two tracks the second and the circuit.
-- past the first test the first table is right
use Rattle.std.proofs.Common.{◌≡◌, ℕ, ◌+◌, ◌*◌, true, false, sym, refl, ◌∙◌, subst, zero-add, arith}
use Rattle.relay.specs.Kinds.{table_ok}
use Rattle.sheet.specs.Check.{word}
use Rattle.sheet.specs.Reading.{kinds_at}
use Rattle.sheet.proofs.Table.{table-few, fits_one, fits_two, fits-bad}
use Rattle.lent_sheet.proofs.blocks.table_in.Goals as goal
use Rattle.lent_sheet.proofs.blocks.table_in.Goals.{Else-not-kinds_at, Else-tracks-ne-TWO_TRACKS}

first : (c : Else-not-kinds_at) → table_ok (kinds_at c.args.s.now 3) ≡ true
first c = sym c.kinds_at.ensures ∙ c.if-not-kinds_at.false

-- past the second the sheet is of two tracks
two : (c : Else-tracks-ne-TWO_TRACKS) → word c.args.s.now 0 0 ≡ 2
two c = sym c.requires.1 ∙ c.if-tracks-ne-TWO_TRACKS.false

pub returns-then-not-kinds_at : goal.returns-then-not-kinds_at
returns-then-not-kinds_at c = sym (fits-bad c.args.s.now (sym c.kinds_at.ensures ∙ c.if-not-kinds_at.true))

pub returns-then-tracks-ne-TWO_TRACKS : goal.returns-then-tracks-ne-TWO_TRACKS
returns-then-tracks-ne-TWO_TRACKS c = sym (fits_one c.args.s.now (λ e. c.if-tracks-ne-TWO_TRACKS.true (c.requires.1 ∙ e)) ∙ first (goal.at.returns-then-tracks-ne-TWO_TRACKS c).Else-not-kinds_at)

pub kinds_at-requires-2 : goal.kinds_at-requires-2
kinds_at-requires-2 c = (omega (arith, c.get_word-n.ensures, table-few _ 3 (first (goal.at.kinds_at-requires-2 c).Else-not-kinds_at)), c.requires.0)

pub returns-else-kinds_at : goal.returns-else-kinds_at
returns-else-kinds_at c = let s = c.args.s.now in
    let n : c.get_word-n.result ≡ word s 0 1 = c.get_word-n.ensures in
    let second : table_ok (kinds_at s (3 + word s 0 1)) ≡ false = subst (λ (m : ℕ). table_ok (kinds_at s (3 + m)) ≡ false) n (sym c.kinds_at-2.ensures ∙ c.if-kinds_at.false) in
    c.if-kinds_at.false ∙ sym (fits_two s (two (goal.at.returns-else-kinds_at c).Else-tracks-ne-TWO_TRACKS) ∙ rw (first (goal.at.returns-else-kinds_at c).Else-not-kinds_at, second) refl)

pub get_word-requires : goal.get_word-requires
get_word-requires c = omega (arith, c.get_word-n.ensures, table-few _ 3 (first (goal.at.get_word-requires c).Else-not-kinds_at), c.requires.0)

pub returns-then-kinds_at : goal.returns-then-kinds_at
returns-then-kinds_at c = let s = c.args.s.now in
    let n : c.get_word-n.result ≡ word s 0 1 = c.get_word-n.ensures in
    let second : table_ok (kinds_at s (3 + word s 0 1)) ≡ true = subst (λ (m : ℕ). table_ok (kinds_at s (3 + m)) ≡ true) n (sym c.kinds_at-2.ensures ∙ c.if-kinds_at.true) in
    let w : word s 0 (3 + word s 0 1 * 2) ≡ c.get_word.result = rw (← n) (rw zero-add (sym c.get_word.ensures)) in
    sym (fits_two s (two (goal.at.returns-then-kinds_at c).Else-tracks-ne-TWO_TRACKS) ∙ rw (first (goal.at.returns-then-kinds_at c).Else-not-kinds_at, second, w) refl)
