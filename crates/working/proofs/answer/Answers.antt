-- `working::answer` meets its contract: refused for an answer, or for the output; else the events are run and the same sheet is written with their answers.
use Prim.Native.Nat.{ℕ}
use mathlib.Core.Path.{◌≡◌, refl, sym, ap, ◌∙◌}
use mathlib.Core.Bool.{true}
use mathlib.Core.List.{List}
use native.Mathlib.Omega.{arith}
use Rattle.std.proofs.Common.{Option, Some}
use Rattle.std.specs.Option.{is_some}
use Rattle.std.specs.Prelude.{is_err}
use Rattle.std.proofs.lemmas.Option.{same_Some}
use Rattle.std.proofs.lemmas.Result.{err_from_is_err_and}
use Rattle.sheet.specs.Sheet.{Tracked, circuit_of}
use Rattle.sheet.specs.Writing.{leaves, may_start}
use Rattle.working.specs.Working.{ran_by, ran_events_by, worked_tracked, session, end_of}
use Rattle.working.specs.declared.Session.{Session}
use Rattle.working.proofs.WorksTracks.{outcome_stays, outcome_left, written, outcome_worked, ran_is, ran_events_are}
use Rattle.working.proofs.answer.Goals as goal

abbrev said : ℕ → ℕ → List ℕ → List (List ℕ) → List ℕ → Tracked
said form stamp table events tracks = record { form = form; stamp = stamp; table = table; events = events; tracks = tracks }

-- the run of a right table ends somewhere, with its events answered
module _ (t : Tracked) (start : may_start t ≡ true) (r : Option Session) (new : List (List ℕ))
    (e : (r ≡ ran_by t.form t.table t.stamp t.events t.tracks) × (new ≡ ran_events_by t.form t.table t.stamp t.events t.tracks)) where
  ends : r ≡ Some (session t.form (circuit_of t.table) (end_of t))
  ends = e.0 ∙ ran_is t.form t.table t.stamp t.events t.tracks start

  ends_so : (z : Session) → r ≡ Some z → z ≡ session t.form (circuit_of t.table) (end_of t)
  ends_so z s = same_Some _ _ (sym s ∙ ends)

  answers : said t.form t.stamp t.table new t.tracks ≡ worked_tracked t
  answers = ap (λ (es : List (List ℕ)). said t.form t.stamp t.table es t.tracks) (e.1 ∙ ran_events_are t.form t.table t.stamp t.events t.tracks start)

pub returns-in_err-may_answer-clause-returned : goal.returns-in_err-may_answer-clause-returned
returns-in_err-may_answer-clause-returned c = let a = c.args in
    let p = err_from_is_err_and c.from_residual.result c.from_residual.ensures.1 in
    rw (p.1, p.2) (c.in_err-may_answer.ensures.refuses (said a.tracks a.stamp a.table.now a.events.now a.on.now) refl c.requires.whole)

pub returns-in_err-may_answer-clause-written : goal.returns-in_err-may_answer-clause-written
returns-in_err-may_answer-clause-written c = let a = c.args in
    let t = said a.tracks a.stamp a.table.now a.events.now a.on.now in
    outcome_stays t a.out.now (sym (ap is_err (c.in_err-may_answer.ensures.refuses t refl c.requires.whole)))

-- the table is right
pub unwrap-end-requires : goal.unwrap-end-requires
unwrap-end-requires c = let a = c.args in
    let t = said a.tracks a.stamp a.table.now a.events.now a.on.now in
    ap is_some (ends t c.requires.starts _ _ c.run.ensures)

pub unreachable-requires : goal.unreachable-requires
unreachable-requires c = let a = c.args in
    let t = said a.tracks a.stamp a.table.now a.events.now a.on.now in
    let w = rw (answers t c.requires.starts _ _ c.run.ensures) at c.write_tracks.ensures.written in
    written t c.requires.starts c.requires.fits c.requires.few c.in_ok-may_answer.ensures.passes.0 _ (omega (arith, c.in_ok-may_answer.ensures.passes.1, c.requires.whole)) _ w.0 c.in_default.not-Ok

pub returns-clause-returned : goal.returns-clause-returned
returns-clause-returned c = let a = c.args in
    let t = said a.tracks a.stamp a.table.now a.events.now a.on.now in
    let w = rw (answers t c.requires.starts _ _ c.run.ensures) at c.in-Ok.ensures.written in
    rw (ends_so t c.requires.starts _ _ c.run.ensures _ c.unwrap-end.ensures)
    (outcome_worked t c.requires.starts c.requires.fits c.requires.few c.in_ok-may_answer.ensures.passes.0 _ w.0)

pub returns-clause-written : goal.returns-clause-written
returns-clause-written c = let a = c.args in
    let t = said a.tracks a.stamp a.table.now a.events.now a.on.now in
    let w = rw (answers t c.requires.starts _ _ c.run.ensures) at c.in-Ok.ensures.written in
    w.1 ∙ ap (λ (n : ℕ). leaves (worked_tracked t) n a.out.now) w.0 ∙ outcome_left t c.requires.starts c.requires.fits c.requires.few c.in_ok-may_answer.ensures.passes.0 _
