-- `listing::list_worked` meets its contract: a refusal is that of working; else the events are run, the lines of the events stand first and those of the sections after them, track by track.
use Prim.Native.Nat.{ℕ, ◌*◌, ◌≤◌}
use mathlib.Core.Path.{◌≡◌, refl, sym, ap, subst, ◌∙◌}
use mathlib.Core.List.{List, ◌++◌, append_assoc}
use native.Mathlib.Omega.{arith}
use borrow.Author.Rules.{rules}
use lib.ListN.{length, take, drop, length-append}
use lib.Seq.{take_at, length-take-le}
use Rattle.std.proofs.Common.{Option, Some}
use Rattle.std.specs.Option.{is_some}
use Rattle.std.proofs.lemmas.Option.{same_Some}
use Rattle.std.proofs.lemmas.Result.{err_from_is_err_and}
use Rattle.sheet.specs.Reading.{decode_tracked}
use Rattle.sheet.specs.Sheet.{Tracked, circuit_of, table_words}
use Rattle.sheet.specs.declared.Header.{Header}
use Rattle.tracks.specs.Circuit.{track_one, track_two}
use Rattle.working.specs.Run.{marked}
use Rattle.working.specs.Working.{session, ran_by, ran_events_by, end_of, worked_tracked}
use Rattle.working.specs.declared.Session.{Session}
use Rattle.working.proofs.Answers.{found, not_found}
use Rattle.working.proofs.Rooms.{Read, read, unread}
use Rattle.working.proofs.WorksTracks.{worked-long, said_start, ran_is, ran_events_are}
use Rattle.digits.specs.Texts.{Put}
use Rattle.digits.proofs.Stores.{put_then}
use Rattle.listing.specs.Lines.{track_named, Lined}
use Rattle.listing.specs.Listing.{event_lines, section_lines, lines_of}
use Rattle.listing.proofs.Sheets.{events_put, sections_put, answer-unread, answer-answered, answer-worked, Holds, holds_first, holds_second}
use Rattle.listing.proofs.list_worked.Goals as goal
use Rattle.listing.proofs.list_worked.Goals.{Start}

-- a run that is that of a sheet which was read
record Ran (s : List ℕ) (h : Header) (r : Option Session) (new : List (List ℕ)) : Type 0 where
  ends : r ≡ Some (session (decode_tracked s).form (circuit_of (decode_tracked s).table) (end_of (decode_tracked s)))
  worked : new ≡ (worked_tracked (decode_tracked s)).events
  long : length new ≡ h.events

module _ {s : List ℕ} {h : Header} {table : List ℕ} {events : List (List ℕ)} {on : List ℕ} (w : Read s h table events on) where
  abbrev d : Tracked
  d = decode_tracked s

  front : take h.events events ≡ d.events
  front = ap (λ (t : Tracked). t.events) (w.same refl)

  front_on : take h.events on ≡ d.tracks
  front_on = ap (λ (t : Tracked). t.tracks) (w.same refl)

  ran : {k : ℕ} {r : Option Session} {new : List (List ℕ)} → k ≡ table_words h.tracks h.posts
      → (r ≡ ran_by h.tracks (take k table) h.stamp (take h.events events) (take h.events on)) × (new ≡ ran_events_by h.tracks (take k table) h.stamp (take h.events events) (take h.events on))
      → Ran s h r new
  ran e said =
      let start = said_start s w.accepted in
      let worked = said.1 ∙ ap (λ (t : Tracked). ran_events_by t.form t.table t.stamp t.events t.tracks) (w.same e) ∙ ran_events_are d.form d.table d.stamp d.events d.tracks start in
      record {
        ends = said.0 ∙ ap (λ (t : Tracked). ran_by t.form t.table t.stamp t.events t.tracks) (w.same e) ∙ ran_is d.form d.table d.stamp d.events d.tracks start;
        worked = worked;
        long = ap (λ (xs : List (List ℕ)). length xs) worked ∙ worked-long d ∙ sym w.count;
      }

  module _ {r : Option Session} {new : List (List ℕ)} (q : Ran s h r new) where
    -- the events that ran stand at the front of their room
    module _ (rest : List (List ℕ)) where
      within : h.events ≤ length (new ++ rest)
      within = simp length-append (omega (arith, q.long))

      front-long : length (take h.events (new ++ rest)) ≡ h.events
      front-long = length-take-le _ _ within

      -- their lines stand at the front of the page
      events_stand : (form u : ℕ) (page page' : List ℕ) → form ≡ d.form → Lined (event_lines form 1 (marked (take h.events (new ++ rest)) (take h.events on))) u page page'
          → Put (event_lines d.form 1 (marked (worked_tracked d).events d.tracks)) 0 u page page'
      events_stand form u page page' f l = events_put d _ _ _ _ _ _ f (take_at _ _ _ q.long ∙ q.worked) front_on l

      used : {u : ℕ} → u ≤ length (take h.events (new ++ rest)) * 128 → u ≤ 483840
      used l = omega (arith, l, front-long, w.few)

    -- the session at the end, and the rows that hold its lines of posts
    module _ (end : Session) (e : r ≡ Some end) where
      ends_as : end ≡ session d.form (circuit_of d.table) (end_of d)
      ends_as = same_Some _ _ (sym e ∙ q.ends)

      form : end.tracks ≡ d.form
      form = ap (λ (z : Session). z.tracks) ends_as

      first-row : Holds s w.accepted end.first (end_of d).first
      first-row = holds_first s w.accepted _ (ap (λ (z : Session). z.first) ends_as)

      second-row : Holds s w.accepted end.second (end_of d).second
      second-row = holds_second s w.accepted _ (ap (λ (z : Session). z.second) ends_as)

-- the page has room for any listing
page-long : (c : Start) → length c.args.page.now ≡ 491776
page-long c = search rules

pub returns-in_err-header-clause-refused : goal.returns-in_err-header-clause-refused
returns-in_err-header-clause-refused c = let s = c.args.s.now in
    let p = err_from_is_err_and c.from_residual.result c.from_residual.ensures.1 in
    let u = unread s _ c.in_err-header.ensures.0 in
    rw (p.1, p.2) (u.1 ∙ sym (answer-unread s u.0))

pub returns-in_err-header-clause-listed : goal.returns-in_err-header-clause-listed
returns-in_err-header-clause-listed c = let p = err_from_is_err_and c.from_residual.result c.from_residual.ensures.1 in
    rw p.1 refl

pub slice_bounds-events-end : goal.slice_bounds-events-end
slice_bounds-events-end c = (read c.args.s.now c.in_ok-header.header _ _ _ c.in_ok-header.ensures).events_within

pub slice_bounds-first_answered-end : goal.slice_bounds-first_answered-end
slice_bounds-first_answered-end c = sym (length-take-le _ _ (read c.args.s.now c.in_ok-header.header _ _ _ c.in_ok-header.ensures).events_within)

-- the first answered event is one of 3,780
pub overflow_cast-result : goal.overflow_cast-result
overflow_cast-result c = let w = read c.args.s.now c.in_ok-header.header _ _ _ c.in_ok-header.ensures in
    let i = found (decode_tracked c.args.s.now).events _ (rw (front w) at c.first_answered.ensures) c.in-Some.i c.in-Some.is in
    omega (arith, i, w.count, w.few)

pub overflow_add-result : goal.overflow_add-result
overflow_add-result c = let w = read c.args.s.now c.in_ok-header.header _ _ _ c.in_ok-header.ensures in
    let i = found (decode_tracked c.args.s.now).events _ (rw (front w) at c.first_answered.ensures) c.in-Some.i c.in-Some.is in
    omega (arith, i, w.count, w.few)

pub returns-in-Some-clause-refused : goal.returns-in-Some-clause-refused
returns-in-Some-clause-refused c = let s = c.args.s.now in
    let w = read c.args.s.now c.in_ok-header.header _ _ _ c.in_ok-header.ensures in
    let f = rw (front w) at c.first_answered.ensures in
    let i = found (decode_tracked s).events _ f c.in-Some.i c.in-Some.is in
    rw i.0 (sym (answer-answered s w.accepted i.1))

pub slice_bounds-table-end : goal.slice_bounds-table-end
slice_bounds-table-end c = (read c.args.s.now c.in_ok-header.header _ _ _ c.in_ok-header.ensures).table_within c.table_words-k.ensures

pub slice_bounds-run-end : goal.slice_bounds-run-end
slice_bounds-run-end c = sym (length-take-le _ _ ((read c.args.s.now c.in_ok-header.header _ _ _ c.in_ok-header.ensures).table_within c.table_words-k.ensures))

pub slice_bounds-events-end-2 : goal.slice_bounds-events-end-2
slice_bounds-events-end-2 c = (read c.args.s.now c.in_ok-header.header _ _ _ c.in_ok-header.ensures).events_within

pub slice_bounds-run-end-2 : goal.slice_bounds-run-end-2
slice_bounds-run-end-2 c = sym (length-take-le _ _ (read c.args.s.now c.in_ok-header.header _ _ _ c.in_ok-header.ensures).events_within)

pub slice_bounds-on-end : goal.slice_bounds-on-end
slice_bounds-on-end c = (read c.args.s.now c.in_ok-header.header _ _ _ c.in_ok-header.ensures).on_within

pub slice_bounds-run-end-3 : goal.slice_bounds-run-end-3
slice_bounds-run-end-3 c = sym (length-take-le _ _ (read c.args.s.now c.in_ok-header.header _ _ _ c.in_ok-header.ensures).on_within)

pub unwrap-end-requires : goal.unwrap-end-requires
unwrap-end-requires c = let w = read c.args.s.now c.in_ok-header.header _ _ _ c.in_ok-header.ensures in
    ap is_some (ran w c.table_words-k.ensures c.run.ensures).ends

pub slice_bounds-events-end-3 : goal.slice_bounds-events-end-3
slice_bounds-events-end-3 c = let w = read c.args.s.now c.in_ok-header.header _ _ _ c.in_ok-header.ensures in
    let q = ran w c.table_words-k.ensures c.run.ensures in
    within w q _

pub slice_bounds-put_events-end-2 : goal.slice_bounds-put_events-end-2
slice_bounds-put_events-end-2 c = let w = read c.args.s.now c.in_ok-header.header _ _ _ c.in_ok-header.ensures in
    let q = ran w c.table_words-k.ensures c.run.ensures in
    sym (front-long w q _)

pub slice_bounds-on-end-2 : goal.slice_bounds-on-end-2
slice_bounds-on-end-2 c = (read c.args.s.now c.in_ok-header.header _ _ _ c.in_ok-header.ensures).on_within

pub slice_bounds-put_events-end-3 : goal.slice_bounds-put_events-end-3
slice_bounds-put_events-end-3 c = sym (length-take-le _ _ (read c.args.s.now c.in_ok-header.header _ _ _ c.in_ok-header.ensures).on_within)

pub put_events-used-requires : goal.put_events-used-requires
put_events-used-requires c = let w = read c.args.s.now c.in_ok-header.header _ _ _ c.in_ok-header.ensures in
    let q = ran w c.table_words-k.ensures c.run.ensures in
    let k = front-long w q (drop c.in_ok-header.header.events c.read_tracks.new.events) in
    let m = length-take-le _ _ w.on_within in
    (omega (arith, k, w.few), omega (arith, k, m), omega (arith, k, w.few, page-long (goal.at.put_events-used-requires c).Start))

pub put_sections-p-requires : goal.put_sections-p-requires
put_sections-p-requires c = let w = read c.args.s.now c.in_ok-header.header _ _ _ c.in_ok-header.ensures in
    let q = ran w c.table_words-k.ensures c.run.ensures in
    let u = used w q _ c.put_events-used.ensures.short in
    ((first-row w q c.unwrap-end.result c.unwrap-end.ensures).few, omega (arith, u, page-long (goal.at.put_sections-p-requires c).Start, c.put_events-used.auto.out))

pub put_sections-requires : goal.put_sections-requires
put_sections-requires c = let w = read c.args.s.now c.in_ok-header.header _ _ _ c.in_ok-header.ensures in
    let q = ran w c.table_words-k.ensures c.run.ensures in
    let u = used w q _ c.put_events-used.ensures.short in
    ((second-row w q c.unwrap-end.result c.unwrap-end.ensures).few, omega (arith, u, c.put_sections-p.ensures.short, page-long (goal.at.put_sections-requires c).Start, c.put_events-used.auto.out, c.put_sections-p.auto.out))

pub returns-clause-refused : goal.returns-clause-refused
returns-clause-refused c = let s = c.args.s.now in
    let w = read c.args.s.now c.in_ok-header.header _ _ _ c.in_ok-header.ensures in
    let f = rw (front w) at c.first_answered.ensures in
    sym (answer-worked s w.accepted (not_found (decode_tracked s).events _ f c.in_default.is))

pub returns-clause-listed : goal.returns-clause-listed
unfolding lines_of
returns-clause-listed c = let w = read c.args.s.now c.in_ok-header.header _ _ _ c.in_ok-header.ensures in
    let q = ran w c.table_words-k.ensures c.run.ensures in
    let page = c.args.page.now in
    let t = decode_tracked c.args.s.now in
    let e = c.put_events-used in
    let p = c.put_sections-p in
    let r = c.put_sections in
    let z = c.unwrap-end.ensures in
    let f = form w q c.unwrap-end.result z in
    let ts = event_lines t.form 1 (marked (worked_tracked t).events t.tracks) in
    let us = section_lines (track_named t.form track_one) 0 (end_of t).first in
    let vs = section_lines (track_named t.form track_two) 0 (end_of t).second in
    let zero : Put ts 0 e.result page e.new.out = events_stand w q _ _ _ _ _ f e.ensures.put in
    let one : Put us e.result p.result e.new.out p.new.out = sections_put _ _ _ _ _ _ _ _ _ f (first-row w q c.unwrap-end.result z).line p.ensures.put in
    let two : Put vs p.result r.result p.new.out r.new.out = sections_put _ _ _ _ _ _ _ _ _ f (second-row w q c.unwrap-end.result z).line r.ensures.put in
    let u = used w q _ e.ensures.short in
    let room = page-long (goal.at.returns-clause-listed c).Start in
    let a = put_then page _ ts 0 _ zero us _ _ (omega (arith, zero.0, one.0, p.ensures.short, u, room)) one in
    let b = put_then page _ (ts ++ us) 0 _ a vs _ _ (omega (arith, a.0, two.0, r.ensures.short, p.ensures.short, u, room)) two in
    let l = subst (λ (x : List ℕ). Put x 0 r.result page r.new.out) (append_assoc ts us vs) b in
    (omega (arith, l.0), l.1)
