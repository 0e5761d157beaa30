-- `working::work_tracks` meets its contract: refused as reading refuses, else as answering says.
use mathlib.Core.Path.{◌≡◌, sym, ap, subst, ◌∙◌}
use mathlib.Core.Bool.{true}
use lib.ListN.{length}
use lib.Seq.{length-take-le}
use Rattle.std.proofs.lemmas.Result.{err_from_is_err_and}
use Rattle.sheet.specs.Reading.{decode_tracked}
use Rattle.sheet.specs.Sheet.{Tracked}
use Rattle.sheet.specs.Writing.{may_start, all_fit, bytes_for}
use Rattle.working.proofs.Rooms.{read, unread}
use Rattle.working.proofs.WorksTracks.{works_unread, works_as, outcome_ends, said_start, said_fit, said_size}
use Rattle.working.proofs.work_tracks.Goals as goal

pub returns-in_err-header-clause-worked : goal.returns-in_err-header-clause-worked
returns-in_err-header-clause-worked c = let s = c.args.s.now in
    let p = err_from_is_err_and c.from_residual.result c.from_residual.ensures.1 in
    let u = unread s _ c.in_err-header.ensures.0 in
    rw (p.1, p.2, u.1) (works_unread s c.args.out.now u.0)

pub slice_bounds-table-end : goal.slice_bounds-table-end
slice_bounds-table-end c = (read c.args.s.now c.in_ok-header.header _ _ _ c.in_ok-header.ensures).table_within c.table_words-k.ensures

pub slice_bounds-answer-end : goal.slice_bounds-answer-end
slice_bounds-answer-end c = sym (length-take-le _ _ ((read c.args.s.now c.in_ok-header.header _ _ _ c.in_ok-header.ensures).table_within c.table_words-k.ensures))

pub slice_bounds-events-end : goal.slice_bounds-events-end
slice_bounds-events-end c = (read c.args.s.now c.in_ok-header.header _ _ _ c.in_ok-header.ensures).events_within

pub slice_bounds-answer-end-2 : goal.slice_bounds-answer-end-2
slice_bounds-answer-end-2 c = sym (length-take-le _ _ (read c.args.s.now c.in_ok-header.header _ _ _ c.in_ok-header.ensures).events_within)

pub slice_bounds-on-end : goal.slice_bounds-on-end
slice_bounds-on-end c = (read c.args.s.now c.in_ok-header.header _ _ _ c.in_ok-header.ensures).on_within

pub slice_bounds-answer-end-3 : goal.slice_bounds-answer-end-3
slice_bounds-answer-end-3 c = sym (length-take-le _ _ (read c.args.s.now c.in_ok-header.header _ _ _ c.in_ok-header.ensures).on_within)

pub answer-requires-clause-starts : goal.answer-requires-clause-starts
answer-requires-clause-starts c = let r = read c.args.s.now c.in_ok-header.header _ _ _ c.in_ok-header.ensures in
    subst (λ (t : Tracked). may_start t ≡ true) (sym (r.same c.table_words-k.ensures)) (said_start c.args.s.now r.accepted)

pub answer-requires-clause-fits : goal.answer-requires-clause-fits
answer-requires-clause-fits c = let r = read c.args.s.now c.in_ok-header.header _ _ _ c.in_ok-header.ensures in
    subst (λ (t : Tracked). all_fit t ≡ true) (sym (r.same c.table_words-k.ensures)) (said_fit c.args.s.now r.accepted)

pub answer-requires-clause-whole : goal.answer-requires-clause-whole
answer-requires-clause-whole c = let s = c.args.s.now in
    let r = read s c.in_ok-header.header _ _ _ c.in_ok-header.ensures in
    sym (ap bytes_for (length-take-le _ _ r.events_within ∙ r.count) ∙ said_size s r.accepted)

pub returns-clause-worked : goal.returns-clause-worked
returns-clause-worked c = let r = read c.args.s.now c.in_ok-header.header _ _ _ c.in_ok-header.ensures in
    let e = rw (r.same c.table_words-k.ensures) at c.answer.ensures.returned in
    let w = rw (r.same c.table_words-k.ensures) at c.answer.ensures.written in
    works_as c.args.s.now r.accepted c.args.out.now _ _ e w

pub returns-clause-ends : goal.returns-clause-ends
returns-clause-ends c = let r = read c.args.s.now c.in_ok-header.header _ _ _ c.in_ok-header.ensures in
    let e = rw (r.same c.table_words-k.ensures) at c.answer.ensures.returned in
    rw e (outcome_ends (decode_tracked c.args.s.now) (length c.args.out.now))
