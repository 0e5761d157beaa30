-- `lent_sheet::blocks::head_shape` meets its contract: a right table has at most 65 words.
use Rattle.std.proofs.Common.{◌≡◌, ◌≤◌, true, arith}
use Rattle.sheet.specs.Check.{word}
use Rattle.sheet.specs.Reading.{table_in, table_fits}
use Rattle.sheet.proofs.Table.{fits-few, words-few}
use Rattle.lent_sheet.proofs.blocks.head_shape.Goals as goal
use Rattle.lent_sheet.proofs.blocks.head_shape.Goals.{then-form_ok, else-form_ok}

pub overflow_add-result : goal.overflow_add-result
overflow_add-result c = let s = c.args.s.now in
    let right : table_fits (word s 0 0) (table_in s) ≡ true = elim c.if-form_ok.branch [ then-form_ok w ↦ cc (w.table_in.ensures, w.value-is) | else-form_ok w ↦ cc (w.if-form_ok.false) ] in
    let few : c.table_words.result ≤ 65 = rw (c.table_words.ensures, c.get_word.ensures, c.get_word-tracks.ensures) (words-few s (fits-few s right)) in
    record { fits = omega arith }
