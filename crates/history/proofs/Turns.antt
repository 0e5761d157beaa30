-- What an entry of the history may make of L and RL at a post.
-- Each case of an event holds because only 5 drops RL, and only a release received and a restoration raise L or RL, where RL was down.
use Prim.Native.Nat.{ℕ, ◌+◌, ◌≤◌, ◌<◌}
use mathlib.Core.Path.{◌≡◌, refl, ◌∙◌}
use mathlib.Core.Bool.{true, false, ◌||◌}
use mathlib.Core.List.{List}
use native.Mathlib.Omega.{arith}
use borrow.Author.Tests.{eq-eqb}
use lib.Dec.{eqb}
use lib.ListN.{length}
use Rattle.relay.specs.Choice.{one}
use Rattle.relay.specs.Examples.{Event, ev_at}
use Rattle.relay.specs.Line.{neighbour}
use Rattle.relay.specs.Posts.{at}
use Rattle.relay.specs.Relays.{L, RL, W241, up}
use Rattle.relay.specs.declared.Pair.{Pair}
use Rattle.relay.specs.declared.Post.{Post}
use Rattle.relay.proofs.Accepted.{event_cases}
use Rattle.relay.proofs.Cases.{Taken, reverse, normalise, pass, pass-idle, strike_block, strike_close, strike_idle, announce, release, garage, announcement_arrives, announcement-jammed, release_arrives, announcement-lost, release-lost, restore, button_jams, button_freed, accepted-case}
use Rattle.relay.proofs.Facts.{SectionOk}
use Rattle.relay.proofs.Frame.{taken_replaces, neighbour-within}
use Rattle.relay.proofs.Touched.{other-stays}
use Rattle.relay.proofs.Truth.{ones, up_or_down, split, equal_or_not}
use Rattle.relay.proofs.Word.{relays}
use Rattle.history.specs.History.{Entry, entry, did, announces, last_sent, jam_loses, receives}
use Rattle.history.specs.Run.{State, given, answer}
use Rattle.history.proofs.Agrees.{release-sent}
use Rattle.history.proofs.RunsBefore.{Sound}

-- ---- what an entry x, after the history h, may make of post i: q before it, q' after
pub data Turn (i : ℕ) (h : List Entry) (x : Entry) (q q' : Post) : Type 0 where
  -- RL stays, and L does not rise
  quiet : (up L q.word ≡ false → up L q'.word ≡ false) → up RL q'.word ≡ up RL q.word → Turn i h x q q'
  -- RL drops by an announcement
  sends : announces i x ≡ true → up RL q'.word ≡ false → Turn i h x q q'
  -- L and RL rise by a release received or a restoration, where RL was down
  frees : up RL q.word ≡ false → (receives 241 i x h || did 10 i x) ≡ true → Turn i h x q q'

-- the post named
turn-here : {n i k j t : ℕ} {h : List Entry} {p o : Post} {b : Pair} → eqb k i ≡ true → (j ≡ k + 1 → SectionOk p o × (one (up W241 p.word) ≤ one (eqb (last_sent i h) 241))) → Taken k j p o n b
    → Turn i h (entry (ev_at n k t) 0) p b.here
unfolding announces receives jam_loses did
turn-here f z (reverse a b) = quiet (λ e. simp relays e) (simp relays)
turn-here f z (normalise a) = quiet (λ e. simp relays e) (simp relays)
turn-here f z (pass a b c) = quiet (λ e. simp relays e) (simp relays)
turn-here f z (pass-idle a b) = quiet (λ e. e) refl
turn-here f z (strike_block a b) = quiet (λ e. simp relays) (simp relays)
turn-here f z (strike_close a b) = quiet (λ e. simp relays e) (simp relays)
turn-here f z (strike_idle a b) = quiet (λ e. e) refl
turn-here f z (announce a b c) = sends (simp f) (simp relays)
turn-here f z (release m a n b c d e) = quiet (λ e. simp relays e) (simp relays)
turn-here f z (garage m a n b c) = quiet (λ e. simp relays e) (simp relays)
turn-here f z (announcement_arrives m a b) = quiet (λ e. simp relays e) (simp relays)
turn-here f z (announcement-jammed m a b) = quiet (λ e. simp relays e) (simp relays)
turn-here {i = i} {h = h} {p = p} {o = o} f z (release_arrives m a b) =
    let k = z m in
    frees
    (split (up RL p.word) (λ e. absurd (omega (arith, ones, k.0, up_or_down (up RL p.word)))) (λ e. e))
    (simp (f, release-sent i h p k.1 b))
turn-here f z (announcement-lost m a) = quiet (λ e. simp relays e) (simp relays)
turn-here f z (release-lost m a b) = quiet (λ e. simp relays e) (simp relays)
turn-here f z (restore m a b c d) = frees a (simp f)
turn-here f z (button_jams a b) = quiet (λ e. simp relays e) (simp relays)
turn-here f z (button_freed a b) = quiet (λ e. simp relays e) (simp relays)

-- its neighbour
turn-other : {n i k j t : ℕ} {h : List Entry} {p o : Post} {b : Pair} → Taken k j p o n b → Turn i h (entry (ev_at n k t) 0) o b.other
turn-other T = quiet (λ e. other-stays T L refl ∙ e) (other-stays T RL refl)

-- any post i, by any event, taken or refused
pub turn : {ks : List ℕ} (e : Event) (w : State) → Sound ks w → (i : ℕ)
    → Turn i w.history (entry e (answer e w)) (at w.line i) (at (given e w).line i)
turn e w r i =
    event_cases (λ a. Turn i w.history (entry e a.told.answer) (at w.line i) (at a.line i)) w.line w.head e.number e.post e.stamp
    (λ c.
    let R = taken_replaces w.line w.head e.number e.post e.stamp c in
    let T = accepted-case w.line w.head e.number e.post e.stamp c in
    equal_or_not i e.post
    (λ f.
    rw (f, R.first)
    (turn-here (eq-eqb e.post e.post refl)
    (λ m.
    let k : e.post + 1 < length w.line = omega (arith, neighbour-within w.line w.head e.number e.post e.stamp c) in
    rw m (c.valid.sections e.post k, (r.agrees e.post k).release_last))
    T))
    (λ f.
    equal_or_not i (neighbour e.number e.post)
    (λ g. rw (g, R.second) (turn-other T))
    (λ g. rw (R.rest i f g) (quiet (λ d. d) refl))))
    (λ c. quiet (λ d. d) refl)
