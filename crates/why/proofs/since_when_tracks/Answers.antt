-- `why::since_when_tracks` meets its contract: refused as reading refuses, refused for what is asked, else as the watch over the events says.
use Prim.Native.Nat.{ℕ, ◌-◌, ◌<◌}
use mathlib.Core.Path.{◌≡◌, refl, sym, ap, subst, ◌∙◌}
use mathlib.Core.Bool.{true}
use mathlib.Core.List.{List, []}
use native.Mathlib.Omega.{arith}
use lib.ListN.{get_or}
use lib.Seq.{length-take-le}
use Rattle.std.proofs.lemmas.Result.{err_from_is_err_and}
use Rattle.sheet.specs.Entry.{answer_of}
use Rattle.sheet.specs.Layout.{two_tracks}
use Rattle.sheet.specs.Reading.{decode_tracked}
use Rattle.sheet.specs.Sheet.{Tracked}
use Rattle.sheet.specs.Writing.{may_start}
use Rattle.sheet.specs.declared.Header.{Header}
use Rattle.working.proofs.Rooms.{Read, read, unread}
use Rattle.working.proofs.WorksTracks.{said_start}
use Rattle.why.specs.Why.{event_at, track_at, speaks}
use Rattle.why.proofs.Asked.{below_first, past_last, other-answer, is_asked, told_unread, since_not_asked, since_in_lem, event-read}
use Rattle.why.proofs.since_when_tracks.Goals as goal
use Rattle.why.proofs.since_when_tracks.Goals.{then-k-eq0-via-then-k-eq0, then-k-eq0-via-else-k-eq0+then-m-k}

-- the chosen event and its track are the sheet's
module _ (s : List ℕ) (h : Header) (table : List ℕ) (events : List (List ℕ)) (on : List ℕ) (r : Read s h table events on) (k : ℕ) (within : k - 1 < h.events) where
  chosen : get_or events (k - 1) [] ≡ event_at (decode_tracked s) k
  chosen = event-read [] events (decode_tracked s).events h.events k (ap (λ (t : Tracked). t.events) (r.same refl)) within

  chosen-track : get_or on (k - 1) 0 ≡ track_at (decode_tracked s) k
  chosen-track = event-read 0 on (decode_tracked s).tracks h.events k (ap (λ (t : Tracked). t.tracks) (r.same refl)) within

pub returns-in_err-header : goal.returns-in_err-header
returns-in_err-header c = let s = c.args.s.now in
    let u = unread s _ c.in_err-header.ensures.0 in
    let p = err_from_is_err_and c.from_residual.result c.from_residual.ensures.1 in
    rw (p.1, p.2) (told_unread two_tracks s c.args.position _ _ u.1 refl)

pub returns-then-k-eq0 : goal.returns-then-k-eq0
returns-then-k-eq0 c = let s = c.args.s.now in
    let r = read s c.in_ok-header.header _ _ _ c.in_ok-header.ensures in
    since_not_asked two_tracks s c.args.position r.accepted
    (elim c.then-k-eq0.branch [
      | then-k-eq0-via-then-k-eq0 w ↦ below_first (decode_tracked s) c.args.position (omega (arith, w.if-k-eq0.true))
      | then-k-eq0-via-else-k-eq0+then-m-k w ↦ past_last (decode_tracked s) c.args.position (omega (arith, w.if-m-k.true, r.count))
    ])

pub bounds-events-k : goal.bounds-events-k
bounds-events-k c = omega (arith, c.if-k-eq0.false, c.if-m-k.false, (read c.args.s.now c.in_ok-header.header _ _ _ c.in_ok-header.ensures).few)

pub bounds-on-k : goal.bounds-on-k
bounds-on-k c = omega (arith, c.if-k-eq0.false, c.if-m-k.false, (read c.args.s.now c.in_ok-header.header _ _ _ c.in_ok-header.ensures).few)

pub returns-then-not-speaks : goal.returns-then-not-speaks
returns-then-not-speaks c = let s = c.args.s.now in
    let r = read s c.in_ok-header.header _ _ _ c.in_ok-header.ensures in
    let e = chosen s _ _ _ _ r c.args.position (omega (arith, c.if-k-eq0.false, c.if-m-k.false)) in
    since_not_asked two_tracks s c.args.position r.accepted
    (other-answer (decode_tracked s) c.args.position (ap (λ (x : List ℕ). speaks (answer_of x)) (sym e) ∙ sym c.speaks.ensures ∙ c.if-not-speaks.true))

pub slice_bounds-table-end : goal.slice_bounds-table-end
slice_bounds-table-end c = (read c.args.s.now c.in_ok-header.header _ _ _ c.in_ok-header.ensures).table_within c.table_words-n.ensures

pub slice_bounds-watch-end : goal.slice_bounds-watch-end
slice_bounds-watch-end c = sym (length-take-le _ _ ((read c.args.s.now c.in_ok-header.header _ _ _ c.in_ok-header.ensures).table_within c.table_words-n.ensures))

pub slice_bounds-events-end : goal.slice_bounds-events-end
slice_bounds-events-end c = (read c.args.s.now c.in_ok-header.header _ _ _ c.in_ok-header.ensures).events_within

pub slice_bounds-watch-end-2 : goal.slice_bounds-watch-end-2
slice_bounds-watch-end-2 c = sym (length-take-le _ _ (read c.args.s.now c.in_ok-header.header _ _ _ c.in_ok-header.ensures).events_within)

pub slice_bounds-on-end : goal.slice_bounds-on-end
slice_bounds-on-end c = (read c.args.s.now c.in_ok-header.header _ _ _ c.in_ok-header.ensures).on_within

pub slice_bounds-watch-end-3 : goal.slice_bounds-watch-end-3
slice_bounds-watch-end-3 c = sym (length-take-le _ _ (read c.args.s.now c.in_ok-header.header _ _ _ c.in_ok-header.ensures).on_within)

pub watch-requires-clause-right : goal.watch-requires-clause-right
watch-requires-clause-right c = let r = read c.args.s.now c.in_ok-header.header _ _ _ c.in_ok-header.ensures in
    subst (λ (t : Tracked). may_start t ≡ true) (sym (r.same c.table_words-n.ensures)) (said_start c.args.s.now r.accepted)

pub watch-requires-clause-there : goal.watch-requires-clause-there
watch-requires-clause-there c = let r = read c.args.s.now c.in_ok-header.header _ _ _ c.in_ok-header.ensures in
    let long = length-take-le _ _ r.events_within in
    (omega (arith, c.if-k-eq0.false), omega (arith, c.if-m-k.false, long))

pub watch-requires-clause-few : goal.watch-requires-clause-few
watch-requires-clause-few c = let r = read c.args.s.now c.in_ok-header.header _ _ _ c.in_ok-header.ensures in
    omega (arith, r.few, length-take-le _ _ r.events_within)

pub returns : goal.returns
returns c = let s = c.args.s.now in
    let r = read s c.in_ok-header.header _ _ _ c.in_ok-header.ensures in
    let k = c.args.position in
    let within : k - 1 < c.in_ok-header.header.events = omega (arith, c.if-k-eq0.false, c.if-m-k.false) in
    let e = chosen s _ _ _ _ r k within in
    let t = chosen-track s _ _ _ _ r k within in
    let asked = is_asked (decode_tracked s) k (omega (arith, c.if-k-eq0.false)) (omega (arith, c.if-m-k.false, r.count)) (ap (λ (x : List ℕ). speaks (answer_of x)) (sym e) ∙ sym c.speaks.ensures ∙ c.if-not-speaks.false) in
    c.watch.ensures ∙ rw (r.same c.table_words-n.ensures, e, t) (since_in_lem two_tracks s k r.accepted asked)
