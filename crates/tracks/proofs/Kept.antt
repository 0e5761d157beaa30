-- Every event on either track keeps the two valid together, and a refused one alters nothing.
-- The track's own line is kept by the base; the other is as it was, with a later head; and a signal comes only where the event sends one, which 25 refuses where the other's is under way.
use Prim.Native.Nat.{ℕ, ◌+◌, ◌≤◌}
use mathlib.Core.Path.{◌≡◌, refl, sym, ◌∙◌}
use mathlib.Core.Bool.{Bool, true, false, not, ◌||◌}
use mathlib.Core.List.{List}
use mathlib.Core.Logic.{◌⊎◌, inl, inr, ⊎_elim}
use native.Mathlib.Omega.{arith}
use borrow.Author.Tests.{eqb-true, eqb-false}
use lib.Dec.{eqb}
use lib.ListN.{length}
use Rattle.relay.specs.Choice.{pick}
use Rattle.relay.specs.Line.{After, after, told, head, numbered, neighbour, changed_line, event_of}
use Rattle.relay.specs.Relays.{W314, W241, up}
use Rattle.relay.specs.Valid.{valid, most_events}
use Rattle.relay.specs.declared.Head.{Head}
use Rattle.relay.specs.declared.Pair.{Pair}
use Rattle.relay.specs.declared.Post.{Post}
use Rattle.relay.specs.declared.Told.{Told}
use Rattle.relay.proofs.Accepted.{Accepted, accepted_iff, event_cases}
use Rattle.relay.proofs.Cases.{Taken, reverse, normalise, pass, pass-idle, strike_block, strike_close, strike_idle, announce, release, garage, announcement_arrives, announcement-jammed, release_arrives, announcement-lost, release-lost, restore, button_jams, button_freed, accepted-case}
use Rattle.relay.proofs.Facts.{valid_iff}
use Rattle.relay.proofs.Frame.{taken_replaces, length-stays, refused-alters-nothing, head-moves}
use Rattle.relay.proofs.Kept.{event-keeps, later-valid}
use Rattle.relay.proofs.Truth.{facts, unless_facts, by, split, equal_or_not}
use Rattle.relay.proofs.Word.{relays}
use Rattle.tracks.specs.Circuit.{polarised, on_wire, busy, facing, valid_two, sends, sends_in, facing_of, hinders, met, at_last, answer_on, event_on, AfterTwo, after_two, beside, turned, no_track, nowhere, event_two, startable_two, start_two, GivesTwo}
use Rattle.tracks.proofs.Together.{two_iff, swapped, fresh_two}
use Rattle.tracks.proofs.CircuitKinds.{ValidTwo}

-- ---- where a signal comes
or_left : (a b : Bool) → a ≡ true → (a || b) ≡ true
or_left a b e = rw e

or_right : (a b : Bool) → b ≡ true → (a || b) ≡ true
or_right true b e = refl
or_right false b e = e

-- at the post named: it was there, or the event is 5
here-comes : {i j n : ℕ} {p o : Post} {b : Pair} → Taken i j p o n b → on_wire b.here.word ≡ true → (on_wire p.word ≡ true) ⊎ (n ≡ 5)
unfolding on_wire
here-comes (reverse a b) h = inl (simp relays at h)
here-comes (normalise a) h = inl (simp relays at h)
here-comes (pass a b c) h = inl (simp relays at h)
here-comes (pass-idle a b) h = inl h
here-comes (strike_block a b) h = inl (simp relays at h)
here-comes (strike_close a b) h = inl (simp relays at h)
here-comes (strike_idle a b) h = inl h
here-comes (announce a b c) h = inr refl
here-comes (release m a f b c d e) h = inl (simp relays at h)
here-comes (garage m a f b c) h = inl (simp relays at h)
here-comes {p = p} (announcement_arrives m a b) h = inl (or_left _ (up W241 p.word) a)
here-comes {p = p} (announcement-jammed m a b) h = inl (or_left _ (up W241 p.word) a)
here-comes {p = p} (release_arrives m a b) h = inl (or_right (up W314 p.word) _ b)
here-comes {p = p} (announcement-lost m a) h = inl (or_left _ (up W241 p.word) a)
here-comes {p = p} (release-lost m a b) h = inl (or_right (up W314 p.word) _ b)
here-comes (restore m a b c d) h = inl (simp relays at h)
here-comes (button_jams a b) h = inl (simp relays at h)
here-comes (button_freed a b) h = inl (simp relays at h)

-- at its neighbour: it was there, or the event is 6 or 7 and the neighbour upstream
other-comes : {i j n : ℕ} {p o : Post} {b : Pair} → Taken i j p o n b → on_wire b.other.word ≡ true
    → (on_wire o.word ≡ true) ⊎ ((i ≡ j + 1) × ((n ≡ 6) ⊎ (n ≡ 7)))
unfolding on_wire
other-comes (reverse a b) h = inl h
other-comes (normalise a) h = inl h
other-comes (pass a b c) h = inl h
other-comes (pass-idle a b) h = inl h
other-comes (strike_block a b) h = inl h
other-comes (strike_close a b) h = inl h
other-comes (strike_idle a b) h = inl h
other-comes (announce a b c) h = inl h
other-comes (release m a f b c d e) h = inr (m, inl refl)
other-comes (garage m a f b c) h = inr (m, inr refl)
other-comes (announcement_arrives m a b) h = inl (simp relays at h)
other-comes (announcement-jammed m a b) h = inl h
other-comes (release_arrives m a b) h = inl h
other-comes (announcement-lost m a) h = inl h
other-comes (release-lost m a b) h = inl h
other-comes (restore m a b c d) h = inl h
other-comes (button_jams a b) h = inl h
other-comes (button_freed a b) h = inl h

-- section j is the one that event n at i sends in
abbrev SentIn : ℕ → ℕ → ℕ → Type 0
SentIn n i j = (sends n ≡ true) × (j ≡ sends_in n i)

sent-here : (n i : ℕ) → n ≡ 5 → SentIn n i i
unfolding sends sends_in
sent-here n i e = rw e (refl, refl)

sent_back : (n i j : ℕ) → i ≡ j + 1 → (n ≡ 6) ⊎ (n ≡ 7) → SentIn n i j
unfolding sends sends_in
sent_back n i j f = ⊎_elim (λ e. rw e (refl, omega arith)) (λ e. rw e (refl, omega arith))

-- on the line: it was there, or the event sends one there
comes : (l : List Post) (s : Head) (n i t : ℕ) → Accepted l s n i t → (j : ℕ) → busy (changed_line l n i) j ≡ true
    → (busy l j ≡ true) ⊎ SentIn n i j
unfolding busy
comes l s n i t r j h =
    let R = taken_replaces l s n i t r in
    let T = accepted-case l s n i t r in
    equal_or_not j i
    (λ e. ⊎_elim (λ x. inl (rw e x)) (λ x. inr (rw e (sent-here n i x))) (here-comes T (rw (e, R.first) at h)))
    (λ e.
    equal_or_not j (neighbour n i)
    (λ f.
    ⊎_elim (λ x. inl (rw f x)) (λ x. inr (rw f (sent_back n i (neighbour n i) x.0 x.1)))
    (other-comes T (rw (f, R.second) at h)))
    (λ f. inl (rw (R.rest j e f) at h)))

-- ---- an event is refused, or is the base's and is met by no signal
pub on-taken : (c : ℕ) (l k : List Post) (s : Head) (n i t : ℕ) → answer_on c l k s n i t ≡ 0
    → ValidTwo c l k s × (Accepted l s n i t × (met c k n i ≡ false))
unfolding answer_on at_last
on-taken c l k s n i t e =
    let f = simp (unless_facts, facts, two_iff) at e in
    (f.0, ((accepted_iff l s n i t).0 f.1.1, f.1.0 f.1.1))

pub on_cases : (P : After → Type 0) (c : ℕ) (l k : List Post) (s : Head) (n i t : ℕ)
    → (ValidTwo c l k s → Accepted l s n i t → met c k n i ≡ false → P (event_of l s n i t))
    → ((answer_on c l k s n i t ≡ 0 → ⊥) → P (after (told (answer_on c l k s n i t) s) l))
    → P (event_on c l k s n i t)
unfolding event_on
on_cases P c l k s n i t f g =
    by P (eqb (answer_on c l k s n i t) 0)
    (λ e. let z = on-taken c l k s n i t (eqb-true _ _ e) in f z.0 z.1.0 z.1.1)
    (λ e. g (eqb-false _ _ e))

-- where the event is met by none, the other has no signal under way where it sends
unmet : (k : List Post) (n i : ℕ) → met polarised k n i ≡ false → sends n ≡ true → busy k (facing (length k) (sends_in n i)) ≡ false
unfolding met hinders facing_of busy
unmet k n i e f = rw f at e

-- the events taken never pass the limit, and never go back
pub head-later : (l : List Post) (s : Head) (n i t : ℕ) → valid l s ≡ true
    → (s.taken ≤ (event_of l s n i t).told.head.taken) × ((event_of l s n i t).told.head.taken ≤ most_events)
head-later l s n i t v =
    event_cases (λ a. (s.taken ≤ a.told.head.taken) × (a.told.head.taken ≤ most_events)) l s n i t
    (λ r. (omega (arith, r.room), omega (arith, r.room)))
    (λ e. (omega arith, ((valid_iff l s).0 v).session))

-- the line that an event leaves has a signal under way where it had one, or where the event sends
event-comes : (l : List Post) (s : Head) (n i t : ℕ) → Accepted l s n i t → (j : ℕ) → busy (event_of l s n i t).line j ≡ true
    → (busy l j ≡ true) ⊎ SentIn n i j
event-comes l s n i t r j =
    event_cases (λ a. busy a.line j ≡ true → (busy l j ≡ true) ⊎ SentIn n i j) l s n i t
    (λ q. comes l s n i t q j)
    (λ e h. inl h)

-- every event on a track keeps the two valid together
pub on-keeps : (c : ℕ) (l k : List Post) (s : Head) (n i t : ℕ) → ValidTwo c l k s
    → ValidTwo c (event_on c l k s n i t).line k (event_on c l k s n i t).told.head
on-keeps c l k s n i t v =
    on_cases (λ a. ValidTwo c a.line k a.told.head) c l k s n i t
    (λ v r m.
    let later = head-later l s n i t v.own in
    let stays = length-stays l s n i t in
    record {
      circuit = v.circuit;
      own = event-keeps l s n i t v.own;
      other = later-valid k s _ later.0 later.1 v.other;
      long = stays ∙ v.long;
      alone = λ z j h b.
          rw stays
          (⊎_elim (λ x. v.alone z j (omega arith) x)
          (λ x. rw (x.1, v.long) (unmet k n i (rw z at m) x.0))
          (event-comes l s n i t r j b));
    })
    (λ e. v)

-- ---- whichever track the event names
-- what holds of an event on track 1, of one on track 2 and of one on neither holds of the event
pub two_cases : (P : AfterTwo → Type 0) (c : ℕ) (l k : List Post) (s : Head) (track n i t : ℕ)
    → (track ≡ 0 → P (beside (event_on c l k s n i t) k))
    → (track ≡ 1 → P (turned (beside (event_on c k l s n i t) l)))
    → ((track ≡ 0 → ⊥) → (track ≡ 1 → ⊥) → P (after_two (told (nowhere c l k s n) s) l k))
    → P (event_two c l k s track n i t)
unfolding event_two
two_cases P c l k s track n i t f g h =
    by P (eqb track 0)
    (λ e. f (eqb-true _ _ e))
    (λ e. by P (eqb track 1) (λ d. g (eqb-true _ _ d)) (λ d. h (eqb-false _ _ e) (eqb-false _ _ d)))

-- every event keeps the two valid together
pub two_keeps : (c : ℕ) (l k : List Post) (s : Head) (track n i t : ℕ) → ValidTwo c l k s
    → ValidTwo c (event_two c l k s track n i t).first (event_two c l k s track n i t).second (event_two c l k s track n i t).told.head
two_keeps c l k s track n i t v =
    two_cases (λ a. ValidTwo c a.first a.second a.told.head) c l k s track n i t
    (λ e. on-keeps c l k s n i t v)
    (λ e. swapped (on-keeps c k l s n i t (swapped v)))
    (λ d e. v)

-- ---- a refusal
on-refused : (c : ℕ) (l k : List Post) (s : Head) (n i t : ℕ) → ((event_on c l k s n i t).told.answer ≡ 0 → ⊥)
    → ((event_on c l k s n i t).line ≡ l) × ((event_on c l k s n i t).told.head ≡ s)
on-refused c l k s n i t =
    on_cases (λ a. (a.told.answer ≡ 0 → ⊥) → (a.line ≡ l) × (a.told.head ≡ s)) c l k s n i t
    (λ v r m. refused-alters-nothing l s n i t)
    (λ e f. (refl, refl))

-- 'A refusal alters neither row nor the head', whichever track it names
pub two_refused : (c : ℕ) (l k : List Post) (s : Head) (track n i t : ℕ) → ((event_two c l k s track n i t).told.answer ≡ 0 → ⊥)
    → ((event_two c l k s track n i t).first ≡ l)
    × ((event_two c l k s track n i t).second ≡ k)
    × ((event_two c l k s track n i t).told.head ≡ s)
two_refused c l k s track n i t =
    two_cases (λ a. (a.told.answer ≡ 0 → ⊥) → (a.first ≡ l) × (a.second ≡ k) × (a.told.head ≡ s)) c l k s track n i t
    (λ e f. let z = on-refused c l k s n i t f in (z.0, refl, z.1))
    (λ e f. let z = on-refused c k l s n i t f in (refl, z.0, z.1))
    (λ d e f. (refl, refl, refl))

-- ---- an event taken
on-moves : (c : ℕ) (l k : List Post) (s : Head) (n i t : ℕ) → (event_on c l k s n i t).told.answer ≡ 0
    → (event_on c l k s n i t).told.head ≡ head (s.taken + 1) t
on-moves c l k s n i t =
    on_cases (λ a. a.told.answer ≡ 0 → a.told.head ≡ head (s.taken + 1) t) c l k s n i t
    (λ v r m. head-moves l s n i t)
    (λ e f. absurd (e f))

-- 'An event taken adds 1 to the events taken and sets the last stamp', whichever track it names
pub two_moves : (c : ℕ) (l k : List Post) (s : Head) (track n i t : ℕ) → (event_two c l k s track n i t).told.answer ≡ 0
    → (event_two c l k s track n i t).told.head ≡ head (s.taken + 1) t
unfolding nowhere no_track
two_moves c l k s track n i t =
    two_cases (λ a. a.told.answer ≡ 0 → a.told.head ≡ head (s.taken + 1) t) c l k s track n i t
    (λ e. on-moves c l k s n i t)
    (λ e. on-moves c k l s n i t)
    (λ d e. never (valid_two c l k s) (numbered n))
  where
    never : (a b : Bool) → ◌≡◌ {A = ℕ} (pick (not a) 1 (pick (not b) 3 2)) 0 → s ≡ head (s.taken + 1) t
    never true true e = absurd (omega (arith, e))
    never true false e = absurd (omega (arith, e))
    never false b e = absurd (omega (arith, e))

-- an event on one track alters no post of the other
pub other-stays : (c : ℕ) (l k : List Post) (s : Head) (n i t : ℕ)
    → ((event_two c l k s 0 n i t).second ≡ k) × ((event_two c l k s 1 n i t).first ≡ l)
unfolding event_two
other-stays c l k s n i t = (refl, refl)

-- two outcomes of a call that both satisfy its statement are equal
pub gives_one : (a : AfterTwo) (r r' : Told) (l l' k k' : List Post) → GivesTwo a r l k → GivesTwo a r' l' k' → (r ≡ r') × (l ≡ l') × (k ≡ k')
gives_one a r r' l l' k k' f g = (f.0 ∙ sym g.0, f.1 ∙ sym g.1, f.2 ∙ sym g.2)

-- a start that is taken leaves two valid lines under one head; one that is refused leaves both rows as lent, and a head of zeros
pub start_leaves : (c : ℕ) (l k : List Post) (ks js : List ℕ) (t : ℕ)
    → ((start_two c l k ks js t).told.answer ≡ 0
    → ValidTwo c (start_two c l k ks js t).first (start_two c l k ks js t).second (start_two c l k ks js t).told.head)
    × (((start_two c l k ks js t).told.answer ≡ 0 → ⊥) → start_two c l k ks js t ≡ after_two (told 1 (head 0 0)) l k)
unfolding start_two
start_leaves c l k ks js t =
    split (startable_two c l k ks js)
    (λ e. rw e (λ z. fresh_two c l k ks js t e, λ f. absurd (f refl)))
    (λ e. rw e (λ z. absurd (omega (arith, z)), λ f. refl))
