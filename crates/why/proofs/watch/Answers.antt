-- `why::watch` meets its contract: at each turn the session stands after the events so far, each of which has its right answer, and what stands is the last of them before the chosen one that made it so.
use Prim.Native.Nat.{ℕ, ◌+◌, ◌≤◌, ◌<◌}
use mathlib.Core.Path.{◌≡◌, refl, sym, ap, ◌∙◌}
use mathlib.Core.Bool.{true, false, not, ◌&&◌, ◌||◌}
use mathlib.Core.List.{[]}
use native.Mathlib.Numerals.{add-one}
use native.Mathlib.Omega.{arith}
use lib.Dec.{eqb, leb}
use lib.ListN.{length, get_or, take}
use Rattle.relay.proofs.Truth.{and_facts, equal_or_not}
use Rattle.relay.specs.Choice.{pick}
use Rattle.row.specs.Row.{line_of}
use Rattle.sheet.specs.Entry.{number_of, post_of, answer_of, stamp_of}
use Rattle.sheet.specs.Layout.{two_tracks}
use Rattle.sheet.specs.Reading.{form_ok, table_fits}
use Rattle.sheet.specs.Sheet.{Tracked, circuit_of}
use Rattle.tracks.specs.Circuit.{AfterTwo, track_two}
use Rattle.working.proofs.Along.{run_more}
use Rattle.working.proofs.Both.{marked-long, marked_at, session_next}
use Rattle.working.proofs.Steps.{goes_by}
use Rattle.working.specs.Run.{track_of, marked, next_by}
use Rattle.working.specs.Working.{session, begin_by}
use Rattle.working.specs.declared.Session.{Session}
use Rattle.std.proofs.Common.{Some}
use Rattle.std.specs.Option.{is_some}
use Rattle.std.proofs.lemmas.Option.{same_Some}
use Rattle.relay.specs.Posts.{at}
use Rattle.why.specs.Why.{begun_of, state_after, so_after, last_made, as_worked, since_when, line_at}
use Rattle.why.proofs.OnRows.{few, held_on}
use Rattle.why.proofs.Right.{right_iff, wrong_at}
use Rattle.why.proofs.Watched.{up_to, none_yet, one_more, all_watched}
use Rattle.why.proofs.watch.Invariants.{said}
use Rattle.why.proofs.watch.Goals as goal
use Rattle.why.proofs.watch.Goals.{After-step-given}

-- what one event more makes of the last that made it so
last_more : (t : Tracked) (track n p k i : ℕ) → 1 ≤ k
    → pick (not (so_after t track n p i || leb k (i + 1)) && so_after t track n p (i + 1)) (i + 1) (last_made t track n p (up_to k i))
    ≡ last_made t track n p (up_to k (i + 1))
unfolding last_made
last_more t track n p k i h =
    one_more (last_made t track n p) k h i (so_after t track n p i) (so_after t track n p (i + 1)) (rw (add-one i))

-- ---- the run of a sheet with a right table
module _ (t : Tracked) (right : (form_ok two_tracks t.form && table_fits t.form t.table) ≡ true) where
  -- its table is one that a session begins with
  fits : table_fits t.form t.table ≡ true
  fits = ((and_facts (form_ok two_tracks t.form) (table_fits t.form t.table)).0 right).1

  -- the session before any event
  begins : begin_by t.form t.table t.stamp ≡ Some (session t.form (circuit_of t.table) (state_after t 0))
  unfolding begin_by
  begins = rw ((goes_by t.form (circuit_of t.table)).run_none (begun_of t), right) refl

-- event i, from 0, of the run
abbrev after : Tracked → ℕ → AfterTwo
after t i = next_by t.form (circuit_of t.table) (state_after t i) (get_or (marked t.events t.tracks) i [])

-- the answer that the sheet has for it
answer_at : (t : Tracked) (i : ℕ) → i < length t.events → answer_of (get_or (marked t.events t.tracks) i []) ≡ answer_of (get_or t.events i [])
answer_at t i h = ap answer_of (marked_at t.events t.tracks i h)

-- it is one event more
after_more : (t : Tracked) (i : ℕ) → i < length t.events → state_after t (i + 1) ≡ after t i
after_more t i h =
    let xs = marked t.events t.tracks in
    run_more (goes_by t.form (circuit_of t.table)) (begun_of t) xs xs refl i (omega (arith, marked-long t.events t.tracks))

-- the event taken in a turn is the run's next event
turn : (c : After-step-given) → let a = c.args in
    let t = said a.tracks a.stamp a.table.now a.events.now a.on.now in
    (c.step-given.new.self ≡ session t.form (circuit_of t.table) (after t c.loop-i.i)) × (c.step-given.result ≡ (after t c.loop-i.i).told.answer)
turn c =
    let a = c.args in
    let t = said a.tracks a.stamp a.table.now a.events.now a.on.now in
    let xs = marked t.events t.tracks in
    let i = c.loop-i.i in
    let m = marked_at t.events t.tracks i (omega arith) in
    let took = rw (c.track_at.ensures, ← ap number_of m, ← ap post_of m, ← ap stamp_of m, ← ap track_of m) at c.step-given.ensures.stands in
    session_next t.form t.table t.stamp (fits t c.requires.right) (circuit_of t.table) (take i xs) _ c.step-given.new.self c.step-given.result (get_or xs i []) c.loop-i.invariant.0 took c.step-given.ensures.keeps

-- the word that is looked at, of a session that stands at these lines
module _ (t : Tracked) (right : (form_ok two_tracks t.form && table_fits t.form t.table) ≡ true) (i track p : ℕ) where
  watched : (z : Session) → z ≡ session t.form (circuit_of t.table) (state_after t i)
      → (w : ℕ) → w ≡ (at (pick (eqb track track_two) (line_of z.second) (line_of z.first)) p).word
      → w ≡ (at (line_at track (state_after t i)) p).word
  watched z e =
      let m = few t (fits t right) i in
      held_on track p z.first z.second (state_after t i) (m 0) (m 1) (ap (λ (x : Session). x.first) e) (ap (λ (x : Session). x.second) e)

-- a session begins with the table
pub unwrap-session-requires : goal.unwrap-session-requires
unwrap-session-requires c = let a = c.args in
    let t = said a.tracks a.stamp a.table.now a.events.now a.on.now in
    ap is_some (c.begin.ensures ∙ begins t c.requires.right)

pub loop-i-init : goal.loop-i-init
unfolding last_made
loop-i-init c = let a = c.args in
    let t = said a.tracks a.stamp a.table.now a.events.now a.on.now in
    let z : c.unwrap-session.result ≡ session t.form (circuit_of t.table) (state_after t 0) =
    same_Some _ _ (sym c.unwrap-session.ensures ∙ c.begin.ensures ∙ begins t c.requires.right) in (
      z,
      watched t c.requires.right 0 a.asked.track a.asked.place _ z _ c.word_on-was.ensures,
      none_yet (last_made t a.asked.track a.asked.answer a.asked.place) _ c.requires.there.0,
      λ j h. absurd (omega (arith, h)),
    )

pub returns-then-given-e : goal.returns-then-given-e
unfolding since_when
returns-then-given-e c = let a = c.args in
    let t = said a.tracks a.stamp a.table.now a.events.now a.on.now in
    let h : c.loop-i.i < length t.events = omega arith in
    let wrong : as_worked t ≡ false =
    wrong_at t.form (circuit_of t.table) (begun_of t) (marked t.events t.tracks) c.loop-i.i (omega (arith, h, marked-long t.events t.tracks))
    (λ r. c.if-given-e.true ((turn (goal.at.returns-then-given-e c).After-step-given).1 ∙ sym r ∙ answer_at t c.loop-i.i h)) in
    rw wrong refl

pub loop-i-preserved : goal.loop-i-preserved
loop-i-preserved c = let a = c.args in
    let t = said a.tracks a.stamp a.table.now a.events.now a.on.now in
    let i = c.loop-i.i in
    let h : i < length t.events = omega arith in
    let e = turn (goal.at.loop-i-preserved c).After-step-given in
    let more = after_more t i h in
    let z : c.step-given.new.self ≡ session t.form (circuit_of t.table) (state_after t (i + 1)) = rw more e.0 in
    let is = watched t c.requires.right (i + 1) a.asked.track a.asked.place _ z _ c.word_on-is.ensures in (
      z,
      is,
      c.later-since.ensures
          ∙ rw (c.so.ensures, c.so-in-loop-i.ensures, c.loop-i.invariant.1, c.loop-i.invariant.2, is) (last_more t _ _ _ _ i c.requires.there.0),
      λ j k. equal_or_not j i (λ q. rw q (answer_at t i h ∙ sym c.if-given-e.false ∙ e.1)) (λ q. c.loop-i.invariant.3 j (omega arith)),
    )

pub returns : goal.returns
unfolding since_when
returns c = let a = c.args in
    let t = said a.tracks a.stamp a.table.now a.events.now a.on.now in
    let right : as_worked t ≡ true =
    (right_iff t.form (circuit_of t.table) (begun_of t) (marked t.events t.tracks)).1 (λ j h. c.loop-i.invariant.3 j (omega (arith, h, marked-long t.events t.tracks))) in
    rw (right, c.loop-i.invariant.2, all_watched (last_made t a.asked.track a.asked.answer a.asked.place) _ c.requires.there.0 c.loop-i.i (omega arith)) refl
