-- 'With vibrated current the other track's events alter none of a track's answers, stamps and the event limit aside', over whole sessions: track b's entries and line are those of the session from which every other event is left out.
-- On vibrated current an event is the line's own (proofs/Answers.antt), and its answer and what it leaves do not go by the head where it is answered neither 4 nor 5.
use Prim.Native.Nat.{ℕ}
use mathlib.Core.Path.{◌≡◌, refl, sym, ap, ◌∙◌}
use mathlib.Core.Bool.{Bool, true, false, not, false≢true}
use mathlib.Core.List.{List, [], ◌∷◌}
use Rattle.relay.specs.Examples.{Event}
use Rattle.relay.specs.Line.{event_of}
use Rattle.relay.specs.Valid.{valid}
use Rattle.relay.specs.declared.Head.{Head}
use Rattle.relay.specs.declared.Post.{Post}
use Rattle.relay.proofs.Kept.{event-keeps}
use Rattle.relay.proofs.Truth.{facts, split}
use Rattle.history.specs.History.{Entry}
use Rattle.history.specs.Run.{State}
use Rattle.history.specs.Run as hist
use Rattle.tracks.specs.Circuit.{vibrated, event_on, startable_two}
use Rattle.tracks.specs.Desk.{desk, of_track, line_of, given, Asked, Session, step, run, begun, names, only, view, on_track, events_of, none_late}
use Rattle.tracks.proofs.Answers.{Timely, Alike, vibrated-alone, head-aside}
use Rattle.tracks.proofs.Runs.{Valid, seen, own, Seen, here, elsewhere, sees, step_keeps}
use Rattle.tracks.proofs.RunsGood.{begun-valid, begun-view}
use Rattle.tracks.proofs.CircuitKinds.{ValidTwo}

-- ---- no entry is late
-- neither is the newest, nor any before it
late_facts : (x : Entry) (h : List Entry) → none_late (x ∷ h) ≡ true → Timely x.answer × (none_late h ≡ true)
unfolding none_late
late_facts x h e = let f = simp facts at e in ((f.0, f.1.0), f.1.1)

-- what is so after a run was so before it
line_before : (es : List Event) (w : State) → none_late (hist.run es w).history ≡ true → none_late w.history ≡ true
unfolding hist.run hist.step
line_before [] w e = e
line_before (x ∷ es) w e = (late_facts _ w.history (line_before es (hist.step x w) e)).1

session-before : (b : Bool) (xs : List Asked) (w : Session) → none_late (only b (run xs w).history) ≡ true → none_late (only b w.history) ≡ true
unfolding run step only
session-before b [] w e = e
session-before b (x ∷ xs) w e =
    let f : none_late (only b (step x w).history) ≡ true = session-before b xs (step x w) e in
    split (names b x.track) (λ n. (late_facts _ (only b w.history) (rw n at f)).1) (λ n. rw n at f)

-- so neither was the answer just given
line_late : (e : Event) (v : State) → none_late (hist.step e v).history ≡ true → Timely (hist.given e v).told.answer
unfolding hist.step
line_late e v f = (late_facts _ v.history f).0

session_late : (b : Bool) (x : Asked) (w : Session) → names b x.track ≡ true → none_late (only b (step x w).history) ≡ true
    → Timely (given x w.desk).told.answer
unfolding step only
session_late b x w n f = (late_facts _ (only b w.history) (rw n at f)).0

-- ---- one event on a vibrated circuit
-- it is the line's own
pub own_alone : (c : ℕ) (l k : List Post) (s : Head) (n i t : ℕ) → c ≡ vibrated → ValidTwo c l k s → event_on c l k s n i t ≡ event_of l s n i t
own_alone c l k s n i t e v = rw e (vibrated-alone l k s n i t (rw e at v))

-- under two heads it is the same
own-alike : (c : ℕ) (l l' k : List Post) (s s' : Head) (n i t : ℕ) → c ≡ vibrated → l ≡ l' → ValidTwo c l k s → valid l' s' ≡ true
    → Timely (event_on c l k s n i t).told.answer → Timely (event_of l' s' n i t).told.answer
    → Alike (event_on c l k s n i t) (event_of l' s' n i t)
own-alike c l l' k s s' n i t e z v v' a a' =
    let y : event_on c l k s n i t ≡ event_of l' s n i t = own_alone c l k s n i t e v ∙ ap (λ (m : List Post). event_of m s n i t) z in
    rw y (head-aside l' s s' n i t (rw z at v.own) v' (rw y at a) a')

-- ---- the session beside the line alone
-- track b of the session w and the line v by itself: the same entries and the same posts, under two heads
record Same (b : Bool) (w : Session) (v : State) : Type 0 where
  circuit : w.desk.circuit ≡ vibrated
  valid-desk : Valid false w.desk
  valid-line : valid v.line v.head ≡ true
  entries : only b w.history ≡ v.history
  line : line_of b w.desk ≡ v.line

-- an event elsewhere
off : (b : Bool) (x : Asked) (w : Session) (v : State) → Same b w v → names b x.track ≡ false
    → line_of b (desk w.desk.circuit (given x w.desk)) ≡ line_of b w.desk
    → Same b (step x w) v
off b x w v r n l =
    record {
      circuit = unfold step in r.circuit;
      valid-desk = step_keeps x w r.valid-desk;
      valid-line = r.valid-line;
      entries = unfold step only in rw n r.entries;
      line = unfold step in l ∙ r.line;
    }

-- an event on the track, answered neither 4 nor 5 in both
on : (b : Bool) (x : Asked) (w : Session) (v : State) → Same b w v → names b x.track ≡ true
    → (given x w.desk).told ≡ (own b x w.desk).told
    → line_of b (desk w.desk.circuit (given x w.desk)) ≡ (own b x w.desk).line
    → Timely (given x w.desk).told.answer → Timely (hist.given x.event v).told.answer
    → Same b (step x w) (hist.step x.event v)
on b x w v r n t l a a' =
    let z = own-alike w.desk.circuit (line_of b w.desk) v.line (line_of (not b) w.desk) w.desk.head v.head x.event.number x.event.post x.event.stamp
    r.circuit r.line (seen b w.desk r.valid-desk) r.valid-line (rw t at a) a' in
    record {
      circuit = unfold step in r.circuit;
      valid-desk = step_keeps x w r.valid-desk;
      valid-line = unfold hist.step in event-keeps v.line v.head x.event.number x.event.post x.event.stamp r.valid-line;
      entries = unfold step only hist.step in rw (n, t, z.0, r.entries);
      line = unfold step hist.step in l ∙ z.1;
    }

-- track b's entries and line after the events xs of the session are those of the line after its own events of them
abbrev Ends : Bool → List Asked → Session → List Event → State → Type 0
Ends b xs w es v =
    (only b (run xs w).history ≡ (hist.run es v).history) × (line_of b (run xs w).desk ≡ (hist.run es v).line)

-- where none of the track's is answered 4 or 5 in either
runs_same : (b : Bool) (xs : List Asked) (w : Session) (v : State) → Same b w v
    → none_late (only b (run xs w).history) ≡ true → none_late (hist.run (events_of b xs) v).history ≡ true
    → Ends b xs w (events_of b xs) v
unfolding run hist.run events_of
runs_same b [] w v r e f = (r.entries, r.line)
runs_same b (x ∷ xs) w v r e f =
    by_seen (λ v' r' f'. runs_same b xs (step x w) v' r' e f') (sees b x w.desk r.valid-desk)
  where
    by_seen : ((v' : State) → Same b (step x w) v' → none_late (hist.run (events_of b xs) v').history ≡ true → Ends b xs (step x w) (events_of b xs) v')
        → Seen b x w.desk (given x w.desk)
        → Ends b (x ∷ xs) w (events_of b (x ∷ xs)) v
    by_seen next (here n t l) =
        let f' : none_late (hist.run (events_of b xs) (hist.step x.event v)).history ≡ true = rw n at f in
        let a = session_late b x w n (session-before b xs (step x w) e) in
        let a' = line_late x.event v (line_before (events_of b xs) (hist.step x.event v) f') in
        rw n (next (hist.step x.event v) (on b x w v r n t l a a') f')
    by_seen next (elsewhere n l _ _) = rw n (next v (off b x w v r n l) (rw n at f))

-- ---- the session from which the other events are left out
-- an event on the track is one on the line alone, head and all
view-step : (b : Bool) (x : Asked) (w : Session) → w.desk.circuit ≡ vibrated → Valid false w.desk → names b x.track ≡ true
    → view b (step x w) ≡ hist.step x.event (view b w)
unfolding view step only hist.step
view-step b x w e v n = by_seen (sees b x w.desk v)
  where
    by_seen : Seen b x w.desk (given x w.desk) → view b (step x w) ≡ hist.step x.event (view b w)
    by_seen (here _ t l) =
        rw (n, l, t, own_alone w.desk.circuit (line_of b w.desk) (line_of (not b) w.desk) w.desk.head x.event.number x.event.post x.event.stamp e (seen b w.desk v))
    by_seen (elsewhere m _ _ _) = absurd (false≢true (sym m ∙ n))

-- so it is the run of the line alone
run_alone : (b : Bool) (xs : List Asked) (w : Session) → w.desk.circuit ≡ vibrated → Valid false w.desk
    → view b (run (on_track b xs) w) ≡ hist.run (events_of b xs) (view b w)
unfolding run hist.run on_track events_of
run_alone b [] w e v = refl
run_alone b (x ∷ xs) w e v =
    split (names b x.track)
    (λ n.
    let kept : (step x w).desk.circuit ≡ vibrated = unfold step in e in
    rw n (run_alone b xs (step x w) kept (step_keeps x w v) ∙ ap (hist.run (events_of b xs)) (view-step b x w e v n)))
    (λ n. rw n (run_alone b xs w e v))

-- ---- a session begun on vibrated current, after the events xs
module _ (l k : List Post) (ks js : List ℕ) (t : ℕ) (started : startable_two vibrated l k ks js ≡ true) (b : Bool) (xs : List Asked) where
  abbrev first : Session
  first = begun vibrated l k ks js t

  vibrates : first.desk.circuit ≡ vibrated
  unfolding begun
  vibrates = refl

  -- with the other events left out it is the session of one line
  pub left_alone : view b (run (on_track b xs) first) ≡ hist.run (events_of b xs) (hist.begun (of_track b l k) (of_track b ks js) t)
  left_alone =
      run_alone b xs first vibrates (begun-valid vibrated l k ks js t started)
      ∙ ap (hist.run (events_of b xs)) (begun-view vibrated l k ks js t started b)

  -- track b at first
  same_first : Same b first (view b first)
  same_first =
      record {
        circuit = vibrates;
        valid-desk = begun-valid vibrated l k ks js t started;
        valid-line = unfold view in (seen b first.desk (begun-valid vibrated l k ks js t started)).own;
        entries = unfold view in refl;
        line = unfold view in refl;
      }

  -- where no event on track b is answered 4 or 5, its entries and its line are those of the session with the other events left out
  pub unaltered : none_late (only b (run xs first).history) ≡ true → none_late (only b (run (on_track b xs) first).history) ≡ true
      → (only b (run xs first).history ≡ only b (run (on_track b xs) first).history)
      × (line_of b (run xs first).desk ≡ line_of b (run (on_track b xs) first).desk)
  unaltered e f =
      let z = run_alone b xs first vibrates (begun-valid vibrated l k ks js t started) in
      let h : only b (run (on_track b xs) first).history ≡ (hist.run (events_of b xs) (view b first)).history = unfold view in ap (λ (v : State). v.history) z in
      let m : line_of b (run (on_track b xs) first).desk ≡ (hist.run (events_of b xs) (view b first)).line = unfold view in ap (λ (v : State). v.line) z in
      let y = runs_same b xs first (view b first) same_first e (rw h at f) in
      (y.0 ∙ sym h, y.1 ∙ sym m)
