-- A session on two tracks: it keeps the desk valid, and each track of it is a line that events befall, under a head that the other track moves too.
-- For one track an event of the session is an event on it, an event refused from outside (25), or something elsewhere that moves the head alone: crates/history's theorems are over these.
use Prim.Native.Nat.{ℕ, ◌≤◌}
use mathlib.Core.Path.{◌≡◌, refl}
use mathlib.Core.Bool.{Bool, true, false, not}
use mathlib.Core.List.{List}
use native.Mathlib.Omega.{arith}
use borrow.Author.Tests.{ne_eqb}
use Rattle.relay.specs.Choice.{one}
use Rattle.relay.specs.Examples.{Event}
use Rattle.relay.specs.Line.{After, told}
use Rattle.relay.specs.Valid.{most_events}
use Rattle.relay.specs.declared.Head.{Head}
use Rattle.relay.specs.declared.Post.{Post}
use Rattle.relay.proofs.Facts.{valid_iff}
use Rattle.history.specs.History.{Entry}
use Rattle.history.specs.Run.{State, Befalls, given_event, refused-outside, moved-elsewhere, Reached, at_first, further}
use Rattle.history.specs.Run as hist
use Rattle.tracks.specs.Circuit.{AfterTwo, after_two, event_on}
use Rattle.tracks.specs.Desk.{Desk, desk, line_of, given, Asked, Session, step, names, only, view}
use Rattle.tracks.proofs.Together.{swapped}
use Rattle.tracks.proofs.CircuitKinds.{ValidTwo}
use Rattle.tracks.proofs.Kept.{on_cases, head-later, two_cases, two_keeps}

-- ---- a desk that may be used
-- seen from track b
abbrev pub Valid : Bool → Desk → Type 0
Valid b d = ValidTwo d.circuit (line_of b d) (line_of (not b) d) d.head

-- from either
pub seen : (b : Bool) (d : Desk) → Valid false d → Valid b d
seen true d v = swapped v
seen false d v = v

-- ---- an event, as track b sees it
-- what track b makes of an event on it
abbrev pub own : Bool → Asked → Desk → After
own b x d = event_on d.circuit (line_of b d) (line_of (not b) d) d.head x.event.number x.event.post x.event.stamp

-- the event is on track b, and what it leaves there is that; or it is not, and the line is as it was
pub data Seen (b : Bool) (x : Asked) (d : Desk) (a : AfterTwo) : Type 0 where
  here : names b x.track ≡ true → a.told ≡ (own b x d).told → line_of b (desk d.circuit a) ≡ (own b x d).line → Seen b x d a
  elsewhere : names b x.track ≡ false → line_of b (desk d.circuit a) ≡ line_of b d
      → d.head.taken ≤ a.told.head.taken → a.told.head.taken ≤ most_events
      → Seen b x d a

-- an event on a track moves the head on, up to the limit
pub on-later : (c : ℕ) (l k : List Post) (s : Head) (n i t : ℕ) → ValidTwo c l k s
    → (s.taken ≤ (event_on c l k s n i t).told.head.taken) × ((event_on c l k s n i t).told.head.taken ≤ most_events)
on-later c l k s n i t v =
    on_cases (λ a. (s.taken ≤ a.told.head.taken) × (a.told.head.taken ≤ most_events)) c l k s n i t
    (λ v r m. head-later l s n i t v.own)
    (λ f. (omega arith, ((valid_iff l s).0 v.own).session))

-- track a of the desk with what an event leaves there
abbrev placed : Bool → After → Desk → AfterTwo
placed true o d = after_two o.told d.first o.line
placed false o d = after_two o.told o.line d.second

-- an event is on a track a, and leaves there what that makes of it; or it is on neither, and leaves the desk
which : (P : AfterTwo → Type 0) (x : Asked) (d : Desk) → ((a : Bool) → x.track ≡ one a → P (placed a (own a x d) d))
    → (((a : Bool) → x.track ≡ one a → ⊥) → (m : ℕ) → P (after_two (told m d.head) d.first d.second))
    → P (given x d)
which P x d f g =
    two_cases P d.circuit d.first d.second d.head x.track x.event.number x.event.post x.event.stamp
    (f false)
    (f true)
    (λ y z. g (λ a. either a y z) _)
  where
    either : (a : Bool) → (x.track ≡ 0 → ⊥) → (x.track ≡ 1 → ⊥) → x.track ≡ one a → ⊥
    either true y z = z
    either false y z = y

-- on the other track it moves the head alone
off : (b a : Bool) (x : Asked) (d : Desk) → Valid false d → names b x.track ≡ false → line_of b (desk d.circuit (placed a (own a x d) d)) ≡ line_of b d
    → (placed a (own a x d) d).told ≡ (own a x d).told
    → Seen b x d (placed a (own a x d) d)
off b a x d v n l e =
    let z = on-later d.circuit (line_of a d) (line_of (not a) d) d.head x.event.number x.event.post x.event.stamp (seen a d v) in
    elsewhere n l (rw e z.0) (rw e z.1)

on_one : (b a : Bool) (x : Asked) (d : Desk) → Valid false d → x.track ≡ one a → Seen b x d (placed a (own a x d) d)
on_one true true x d v e = here (rw e) refl refl
on_one false false x d v e = here (rw e) refl refl
on_one true false x d v e = off true false x d v (rw e) refl refl
on_one false true x d v e = off false true x d v (rw e) refl refl

pub sees : (b : Bool) (x : Asked) (d : Desk) → Valid false d → Seen b x d (given x d)
sees b x d v =
    which (Seen b x d) x d (λ a e. on_one b a x d v e)
    (λ f m. on_none b m (ne_eqb x.track (one b) (f b)) ((valid_iff d.first d.head).0 v.own).session)
  where
    on_none : (b : Bool) (m : ℕ) → names b x.track ≡ false → d.head.taken ≤ most_events → Seen b x d (after_two (told m d.head) d.first d.second)
    on_none b m n g = elsewhere n refl (omega arith) g

-- ---- a session
-- an event on either track, or on neither, keeps the desk
pub step_keeps : (x : Asked) (w : Session) → Valid false w.desk → Valid false (step x w).desk
unfolding step
step_keeps x w v =
    two_keeps w.desk.circuit w.desk.first w.desk.second w.desk.head x.track x.event.number x.event.post x.event.stamp v

-- an event on a track befalls its line
on-befalls : (c : ℕ) (l k : List Post) (s : Head) (h : List Entry) (e : Event)
    → Befalls (record { history = h; line = l; head = s }) (hist.next e h (event_on c l k s e.number e.post e.stamp))
on-befalls c l k s h e =
    on_cases (λ a. Befalls (record { history = h; line = l; head = s }) (hist.next e h a)) c l k s e.number e.post e.stamp
    (λ v r m. unfold hist.step in given_event e)
    (λ f. refused-outside e _ f)

-- so does any event of the session befall track b's
pub befalls : (b : Bool) (x : Asked) (w : Session) → Valid false w.desk → Befalls (view b w) (view b (step x w))
befalls b x w v =
    by_seen (sees b x w.desk v)
  where
    by_seen : Seen b x w.desk (given x w.desk) → Befalls (view b w) (view b (step x w))
    by_seen (here n t l) =
        unfold view step only in
        rw (n, l, t) (on-befalls w.desk.circuit (line_of b w.desk) (line_of (not b) w.desk) w.desk.head (only b w.history) x.event)
    by_seen (elsewhere n l f g) = unfold view step only in rw (n, l) (moved-elsewhere _ f g)
