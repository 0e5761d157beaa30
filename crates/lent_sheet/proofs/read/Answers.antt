-- `lent_sheet::read` meets its contract: each refusal leaves both rooms as they were, and past them the kinds and then the events are handed out.
use Rattle.std.proofs.Common.{◌≡◌, Bool, true, false, ◌&&◌, leb, length, sym, refl, ◌∙◌}
use Rattle.sheet.specs.Reading.{words_in, entries_in}
use Rattle.std.proofs.lemmas.Result.{err_from_is_err_and}
use Rattle.sheet.proofs.Refusals.{refuses, passes_as}
use Rattle.sheet.proofs.Rooms.{found_is, kinds_out, events_out, read-refused, read_short, read_found, words_one, room_one}
use Rattle.lent_sheet.proofs.read.Goals as goal

-- one room asked twice
twice : (a b : Bool) → ((a && b) && b) ≡ (a && b)
twice true true = refl
twice true false = refl
twice false b = refl

pub returns-in_err-sheet-clause-reads : goal.returns-in_err-sheet-clause-reads
returns-in_err-sheet-clause-reads c = let a = c.args in
    let p = err_from_is_err_and c.from_residual.result c.from_residual.ensures.1 in
    rw (p.1, p.2) (read-refused a.s.now a.kinds.now a.events.now _ c.in_err-sheet.ensures.tested (refuses _))

pub returns-then-not-fits-clause-reads : goal.returns-then-not-fits-clause-reads
returns-then-not-fits-clause-reads c = let a = c.args in
    let z = passes_as _ c.in_ok-sheet.ensures.tested in
    let no = sym (twice (leb (words_in a.s.now) (length a.kinds.now)) (leb (entries_in a.s.now) (length a.events.now))) ∙ sym (rw c.in_ok-sheet.ensures.same at c.fits.ensures) ∙ c.if-not-fits.true in
    read_short a.s.now a.kinds.now a.events.now z (room_one a.s.now z _ _ ∙ no)

pub returns-clause-reads : goal.returns-clause-reads
returns-clause-reads c = let a = c.args in
    let z = passes_as _ c.in_ok-sheet.ensures.tested in
    let same = c.in_ok-sheet.ensures.same in
    let yes = sym (twice (leb (words_in a.s.now) (length a.kinds.now)) (leb (entries_in a.s.now) (length a.events.now))) ∙ sym (rw same at c.fits.ensures) ∙ c.if-not-fits.false in
    let r = read_found a.s.now a.kinds.now a.events.now z (room_one a.s.now z _ _ ∙ yes) in (
      rw (c.header.ensures, same) (sym (found_is a.s.now) ∙ r.0),
      (rw same at c.table.ensures) ∙ kinds_out a.s.now a.kinds.now _ (words_one a.s.now z),
      (rw same at c.events.ensures) ∙ events_out a.s.now a.events.now _ refl,
    )
