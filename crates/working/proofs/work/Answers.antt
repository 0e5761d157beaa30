-- `working::work` meets its contract: refused as reading a sheet of one track refuses, for an answer, or for the output; else the events are run and the same sheet is written with their answers.
use Prim.Native.Nat.{ℕ, ◌≤◌}
use mathlib.Core.Path.{◌≡◌, refl, sym, ap, ◌∙◌}
use mathlib.Core.List.{List, []}
use borrow.Author.Tests.{ne_eqb}
use lib.ListN.{length, take}
use lib.Seq.{length-take-le}
use Rattle.std.proofs.Common.{Option, Some}
use Rattle.std.specs.Option.{is_some}
use Rattle.std.proofs.lemmas.Option.{same_Some}
use Rattle.std.proofs.lemmas.Result.{err_from_is_err_and}
use Rattle.sheet.specs.Layout.{one_track}
use Rattle.sheet.specs.Reading.{verdict_of, decode, decode_tracked}
use Rattle.sheet.specs.Sheet.{Sheet}
use Rattle.sheet.specs.Writing.{bytes_for}
use Rattle.sheet.specs.declared.Header.{Header}
use Rattle.sheet.specs.declared.Verdict.{Verdict}
use Rattle.sheet.proofs.Refusals.{refuses}
use Rattle.working.specs.Working.{ran_by, ran_events_by, first_answered, session_at_end, worked}
use Rattle.working.specs.declared.Session.{Session}
use Rattle.working.proofs.Rooms.{ReadOne, read_one, unread_one}
use Rattle.working.proofs.Works.{works_unread, said_few, said_size, writes}
use Rattle.working.proofs.OneTrack.{run_ends, run_answers, works_refused, works_ended, events_one}
use Rattle.working.proofs.work.Goals as goal

abbrev said : ℕ → List ℕ → List (List ℕ) → Sheet
said stamp kinds events = record { stamp = stamp; kinds = kinds; events = events }

-- it is as long as its events ask for
whole : (s : List ℕ) (z : (verdict_of s).number ≡ 0) → length s ≡ bytes_for (length (decode_tracked s).events)
whole s z = rw (events_one s z) (sym (said_size s z))

-- what was read, and its run
module _ (s : List ℕ) (h : Header) (kinds : List ℕ) (events : List (List ℕ)) (d : ReadOne s h kinds events) where
  few : length (take h.events events) ≤ 3780
  few = rw d.events_are (said_few s d.taken)

  fresh : length (take h.events events) ≤ first_answered (take h.events events) → length (decode s).events ≤ first_answered (decode s).events
  fresh f = rw d.events_are at f

  module _ (r : Option Session) (new : List (List ℕ))
      (e : (r ≡ ran_by one_track (take h.posts kinds) h.stamp (take h.events events) []) × (new ≡ ran_events_by one_track (take h.posts kinds) h.stamp (take h.events events) [])) where
    ends : r ≡ Some (session_at_end (decode_tracked s))
    ends = e.0 ∙ rw (d.kinds_are, d.events_are, d.stamp) (run_ends s d.taken [])

    ends_so : (z : Session) → r ≡ Some z → z ≡ session_at_end (decode_tracked s)
    ends_so z o = same_Some _ _ (sym o ∙ ends)

    answers : new ≡ (worked (decode s)).events
    answers = e.1 ∙ rw (d.kinds_are, d.events_are, d.stamp) (run_answers s d.taken [])

    says : said h.stamp (take h.posts kinds) new ≡ worked (decode s)
    says = rw (d.stamp, d.kinds_are, answers) refl

pub returns-in_err-test-clause-worked : goal.returns-in_err-test-clause-worked
returns-in_err-test-clause-worked c = let s = c.args.s.now in
    let p = err_from_is_err_and c.from_residual.result c.from_residual.ensures.1 in
    let v = c.in_err-test.ensures in
    rw (p.1, p.2, v) (works_unread s c.args.out.now (ne_eqb (verdict_of s).number 0 (λ e. refuses c.in_err-test.field-0.0 (ap (λ (x : Verdict). x.number) v ∙ e))))

pub returns-in_err-header-clause-worked : goal.returns-in_err-header-clause-worked
returns-in_err-header-clause-worked c = let s = c.args.s.now in
    let p = err_from_is_err_and c.from_residual-in_err-header.result c.from_residual-in_err-header.ensures.1 in
    let u = unread_one s _ c.in_err-header.ensures.reads.0 in
    rw (p.1, p.2, u.1) (works_unread s c.args.out.now u.0)

pub slice_bounds-kinds-end : goal.slice_bounds-kinds-end
slice_bounds-kinds-end c = (read_one c.args.s.now c.in_ok-header.header _ _ c.in_ok-header.ensures.reads).kinds_within

pub slice_bounds-kinds-end-2 : goal.slice_bounds-kinds-end-2
slice_bounds-kinds-end-2 c = sym (length-take-le _ _ (read_one c.args.s.now c.in_ok-header.header _ _ c.in_ok-header.ensures.reads).kinds_within)

pub slice_bounds-events-end : goal.slice_bounds-events-end
slice_bounds-events-end c = (read_one c.args.s.now c.in_ok-header.header _ _ c.in_ok-header.ensures.reads).events_within

pub slice_bounds-events-end-2 : goal.slice_bounds-events-end-2
slice_bounds-events-end-2 c = sym (length-take-le _ _ (read_one c.args.s.now c.in_ok-header.header _ _ c.in_ok-header.ensures.reads).events_within)

pub may_answer-requires : goal.may_answer-requires
may_answer-requires c = record { few = few c.args.s.now c.in_ok-header.header _ _ (read_one c.args.s.now c.in_ok-header.header _ _ c.in_ok-header.ensures.reads) }

pub returns-in_err-may_answer-clause-worked : goal.returns-in_err-may_answer-clause-worked
returns-in_err-may_answer-clause-worked c = let s = c.args.s.now in
    let d = read_one s c.in_ok-header.header _ _ c.in_ok-header.ensures.reads in
    let p = err_from_is_err_and c.from_residual-in_err-may_answer.result c.from_residual-in_err-may_answer.ensures.1 in
    rw (p.1, p.2) (works_refused s d.taken c.args.out.now _ (c.in_err-may_answer.ensures.refuses (decode_tracked s) (events_one s d.taken ∙ sym d.events_are) (whole s d.taken)))

-- the table is right
pub unwrap-end-requires : goal.unwrap-end-requires
unwrap-end-requires c = let s = c.args.s.now in
    let d = read_one s c.in_ok-header.header _ _ c.in_ok-header.ensures.reads in
    ap is_some (ends s c.in_ok-header.header _ _ d _ _ c.run.ensures)

pub unreachable-requires : goal.unreachable-requires
unreachable-requires c = let s = c.args.s.now in
    let d = read_one s c.in_ok-header.header _ _ c.in_ok-header.ensures.reads in
    let w = rw (says s c.in_ok-header.header _ _ d _ _ c.run.ensures) at c.write.ensures.written in
    writes s d.taken c.args.out.now c.in_ok-may_answer.ensures.passes.1 _ w.0 c.in_default.not-Ok

pub returns-clause-worked : goal.returns-clause-worked
returns-clause-worked c = let s = c.args.s.now in
    let d = read_one s c.in_ok-header.header _ _ c.in_ok-header.ensures.reads in
    let w = rw (says s c.in_ok-header.header _ _ d _ _ c.run.ensures) at c.in-Ok.ensures.written in
    let f = fresh s c.in_ok-header.header _ _ d c.in_ok-may_answer.ensures.passes.0 in
    rw (ends_so s c.in_ok-header.header _ _ d _ _ c.run.ensures _ c.unwrap-end.ensures, w.1) (works_ended s d.taken c.args.out.now f c.in_ok-may_answer.ensures.passes.1)

pub returns-clause-ends : goal.returns-clause-ends
returns-clause-ends c = let s = c.args.s.now in
    let d = read_one s c.in_ok-header.header _ _ c.in_ok-header.ensures.reads in
    ends_so s c.in_ok-header.header _ _ d _ _ c.run.ensures _ c.unwrap-end.ensures
