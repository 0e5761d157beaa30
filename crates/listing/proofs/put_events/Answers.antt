-- `listing::put_events` meets its contract: the lines of the events so far stand at the front.
use Prim.Native.Nat.{ℕ, ◌+◌, ◌≤◌}
use mathlib.Core.Path.{◌≡◌, refl, sym, ap, ◌∙◌}
use mathlib.Core.List.{List, [], ◌∷◌, ◌++◌}
use native.Mathlib.Omega.{arith}
use borrow.Author.Rules.{rules}
use lib.ListN.{length, get_or, take}
use lib.Seq.{take_all}
use Rattle.sheet.specs.Entry.{entry, number_of, post_of, answer_of, stamp_of}
use Rattle.working.proofs.Both.{marked-long, marked_at}
use Rattle.working.specs.Run.{marked}
use Rattle.listing.specs.Listing.{event_lines}
use Rattle.listing.proofs.Listed.{line_of_event, events_none, events_more}
use Rattle.digits.proofs.Stores.{stored_none, next_stands, next_place}
use Rattle.listing.proofs.put_events.Goals as goal

pub loop-i-init : goal.loop-i-init
loop-i-init c = rw events_none (refl, omega arith, refl, sym (stored_none _ _))

pub loop-i-preserved : goal.loop-i-preserved
loop-i-preserved c = let a = c.args in
    let i = c.loop-i.i in
    let k = i + 1 in
    let es = marked a.events.now a.on.now in
    let x = get_or a.events.now i [] in
    let r = c.put_event-p.ensures in
    let e = entry (number_of x) (post_of x) (answer_of x) (stamp_of x) ++ (get_or a.on.now i 0 ∷ []) in
    let more = events_more a.tracks 1 es i k (omega (arith, marked-long a.events.now a.on.now)) (omega arith) ∙ ap (λ (y : List ℕ). event_lines a.tracks 1 (take i es) ++ line_of_event a.tracks k y) (marked_at a.events.now a.on.now i (omega arith)) in
    let fits : c.loop-i.p + length (line_of_event a.tracks k e) ≤ length a.out.now = omega (arith, r.put.0, r.short) in (
      rw r.put.0 (next_place a.out.now c.loop-i.out _ _ _ 0 c.loop-i.p c.loop-i.invariant.3 c.loop-i.invariant.0 more fits),
      omega (arith, r.short),
      search rules,
      rw r.put.1 (next_stands a.out.now c.loop-i.out _ _ _ 0 c.loop-i.p c.loop-i.invariant.3 c.loop-i.invariant.0 more fits),
    )

pub returns : goal.returns
returns c = let a = c.args in
    let all : take c.loop-i.i (marked a.events.now a.on.now) ≡ marked a.events.now a.on.now = take_all c.loop-i.i (marked a.events.now a.on.now) (omega (arith, marked-long a.events.now a.on.now)) in
    record {
      put = (omega (arith, rw all at c.loop-i.invariant.0), rw all at c.loop-i.invariant.3);
      short = omega arith;
    }
