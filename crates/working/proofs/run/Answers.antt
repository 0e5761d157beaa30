-- `working::run` meets its contract: at each turn the session stands after the events so far, and those events are answered.
use Prim.Native.Nat.{◌<◌}
use mathlib.Core.Path.{◌≡◌, refl, ap}
use mathlib.Core.List.{[], append-nil}
use native.Mathlib.Omega.{arith}
use lib.ListN.{length, get_or, take, drop, drop_of_length-le}
use lib.Seq.{take_all}
use Rattle.relay.proofs.Tests.{tests}
use Rattle.relay.proofs.Truth.{and_facts}
use Rattle.sheet.specs.Entry.{number_of, post_of, stamp_of}
use Rattle.sheet.specs.Layout.{two_tracks}
use Rattle.sheet.specs.Reading.{form_ok, table_fits}
use Rattle.sheet.specs.Sheet.{circuit_of}
use Rattle.working.specs.Run.{track_of, marked, begun_by}
use Rattle.working.specs.Working.{ran_by, ran_events_by}
use Rattle.working.proofs.Along.{run_more, said_more, still}
use Rattle.working.proofs.Both.{marked-long, marked_at, begun-some, begun-none, session_next}
use Rattle.working.proofs.Steps.{goes_by}
use Rattle.working.proofs.run.Goals as goal

pub returns-in_err-session : goal.returns-in_err-session
unfolding ran_by ran_events_by
returns-in_err-session c = let a = c.args in
    let r = begun-none a.tracks a.table.now a.stamp c.begin.result c.begin.ensures c.in_err-session.was in
    (rw r c.from_residual.ensures, rw r refl)

pub loop-i-init : goal.loop-i-init
loop-i-init c = let a = c.args in
    let r = begun-some a.tracks a.table.now a.stamp c.begin.result c.begin.ensures _ c.in_ok-session.was in
    let w = goes_by a.tracks (circuit_of a.table.now) in
    let o = begun_by a.tracks a.table.now a.stamp in
    (refl, r.0, rw (w.run_none o) r.1, rw (w.said_none o) refl)

pub loop-i-preserved : goal.loop-i-preserved
loop-i-preserved c = let a = c.args in
    let w = goes_by a.tracks (circuit_of a.table.now) in
    let o = begun_by a.tracks a.table.now a.stamp in
    let es = a.events.now in
    let xs = marked es a.on.now in
    let long = marked-long es a.on.now in
    let i = c.loop-i.i in
    let h : i < length xs = omega (arith, long) in
    let fits = ((and_facts (form_ok two_tracks a.tracks) (table_fits a.tracks a.table.now)).0 c.loop-i.invariant.1).1 in
    let m = marked_at es a.on.now i (omega (arith, long)) in
    let stands = rw (c.loop-i.invariant.3, still w o xs es long i h, c.track_at.ensures) at c.step-answer.ensures.stands in
    let said = rw (← ap number_of m, ← ap post_of m, ← ap stamp_of m, ← ap track_of m) at stands in
    let n = session_next a.tracks a.table.now a.stamp fits (circuit_of a.table.now) (take i xs) _ c.step-answer.new.self c.step-answer.result (get_or xs i []) c.loop-i.invariant.2 said c.step-answer.ensures.keeps in (
      search tests,
      c.loop-i.invariant.1,
      rw (run_more w o xs es long i h) n.0,
      rw (c.loop-i.invariant.3, still w o xs es long i h, n.1, ← ap number_of m, ← ap post_of m, ← ap stamp_of m) (said_more w o xs es long i h),
    )

pub returns : goal.returns
unfolding ran_by ran_events_by
returns c = let a = c.args in
    let xs = marked a.events.now a.on.now in
    let all : take c.loop-i.i xs ≡ xs = take_all c.loop-i.i xs (omega (arith, marked-long a.events.now a.on.now)) in
    let none : drop c.loop-i.i a.events.now ≡ [] = drop_of_length-le a.events.now {i = c.loop-i.i} (omega arith) in
    (rw (c.loop-i.invariant.1, c.loop-i.invariant.2, all) refl, rw (c.loop-i.invariant.1, c.loop-i.invariant.3, all, none) (append-nil _))
