-- What the event named can be, which is what a pupil is told: for 8 a strike or an announcement at that post, for 9 an announcement, for 13 a release received or a restoration.
-- By the events' cases: only a strike and an announcement drop L, only an announcement drops RL, and only a release received and a restoration raise RL.
-- Assumes nothing.
use Prim.Native.Nat.{ℕ}
use mathlib.Core.Path.{◌≡◌, refl, sym, ◌∙◌}
use mathlib.Core.Bool.{true, false, false≢true}
use mathlib.Core.List.{List}
use Rattle.relay.proofs.Accepted.{event_cases}
use Rattle.relay.proofs.Cases.{Taken, reverse, normalise, pass, pass-idle, strike_block, strike_close, strike_idle, announce, release, garage, announcement_arrives, announcement-jammed, release_arrives, announcement-lost, release-lost, restore, button_jams, button_freed, accepted-case}
use Rattle.relay.proofs.Frame.{taken_replaces}
use Rattle.relay.proofs.Touched.{other-stays}
use Rattle.relay.proofs.Truth.{equal_or_not}
use Rattle.relay.proofs.Word.{relays}
use Rattle.relay.specs.Answers.{lDown, rlDown, rlUp}
use Rattle.relay.specs.Kinds.{blocks_at_pedal}
use Rattle.relay.specs.Line.{neighbour, event_of}
use Rattle.relay.specs.Posts.{at, form}
use Rattle.relay.specs.Relays.{L, RL, W314, W241, up}
use Rattle.relay.specs.declared.Head.{Head}
use Rattle.relay.specs.declared.Pair.{Pair}
use Rattle.relay.specs.declared.Post.{Post}
use Rattle.why.specs.Why.{so}

-- ---- what is told
-- event m at post or section i, taken where post p is q, has made what refusal n says so
pub data Cause (m i p : ℕ) (q : Post) : ℕ → Type 0 where
  -- 8: 'the signal closes, and at kinds 0 and 2 L drops'
  struck : m ≡ 4 → i ≡ p → blocks_at_pedal (form q) ≡ true → Cause m i p q lDown
  -- 8 and 9: 'RL and L drop'
  announced_8 : m ≡ 5 → i ≡ p → Cause m i p q lDown
  announced_9 : m ≡ 5 → i ≡ p → Cause m i p q rlDown
  -- 13: an arrival, where a release was under way: 'it drops, L and RL rise'
  received : m ≡ 8 → i ≡ p → up W314 q.word ≡ false → up W241 q.word ≡ true → Cause m i p q rlUp
  -- 13: 'Restoration by the supervisor': 'L and RL rise'
  restored : m ≡ 10 → i ≡ p → Cause m i p q rlUp

-- ---- what event m, which names i, may make of L and RL at post p: q before it, q' after
pub data Moves (m i p : ℕ) (q q' : Post) : Type 0 where
  still : up L q'.word ≡ up L q.word → up RL q'.word ≡ up RL q.word → Moves m i p q q'
  strikes : m ≡ 4 → i ≡ p → blocks_at_pedal (form q) ≡ true → up RL q'.word ≡ up RL q.word → Moves m i p q q'
  sends : m ≡ 5 → i ≡ p → up RL q'.word ≡ false → Moves m i p q q'
  frees : Cause m i p q rlUp → up L q'.word ≡ true → up RL q'.word ≡ true → Moves m i p q q'

-- the post named
moves-here : {m i j p : ℕ} {q o : Post} {b : Pair} → i ≡ p → Taken i j q o m b → Moves m i p q b.here
moves-here f (reverse a b) = still (simp relays) (simp relays)
moves-here f (normalise a) = still (simp relays) (simp relays)
moves-here f (pass a b c) = still (simp relays) (simp relays)
moves-here f (pass-idle a b) = still refl refl
moves-here f (strike_block a b) = strikes refl f a (simp relays)
moves-here f (strike_close a b) = still (simp relays) (simp relays)
moves-here f (strike_idle a b) = still refl refl
moves-here f (announce a b c) = sends refl f (simp relays)
moves-here f (release k a n b c d e) = still (simp relays) (simp relays)
moves-here f (garage k a n b c) = still (simp relays) (simp relays)
moves-here f (announcement_arrives k a b) = still (simp relays) (simp relays)
moves-here f (announcement-jammed k a b) = still (simp relays) (simp relays)
moves-here f (release_arrives k a b) = frees (received refl f a b) (simp relays) (simp relays)
moves-here f (announcement-lost k a) = still (simp relays) (simp relays)
moves-here f (release-lost k a b) = still (simp relays) (simp relays)
moves-here f (restore k a b c d) = frees (restored refl f) (simp relays) (simp relays)
moves-here f (button_jams a b) = still (simp relays) (simp relays)
moves-here f (button_freed a b) = still (simp relays) (simp relays)

-- its neighbour
moves-other : {m i j p : ℕ} {q o : Post} {b : Pair} → Taken i j q o m b → Moves m i p o b.other
moves-other T = still (other-stays T L refl) (other-stays T RL refl)

-- any post, by any event, taken or refused
pub moves : (l : List Post) (s : Head) (m i t p : ℕ) → Moves m i p (at l p) (at (event_of l s m i t).line p)
moves l s m i t p =
    event_cases (λ a. Moves m i p (at l p) (at a.line p)) l s m i t
    (λ c.
    let R = taken_replaces l s m i t c in
    let T = accepted-case l s m i t c in
    equal_or_not p i
    (λ f. rw (f, R.first) (moves-here refl T))
    (λ f. equal_or_not p (neighbour m i) (λ g. rw (g, R.second) (moves-other T)) (λ g. rw (R.rest p f g) (still refl refl))))
    (λ c. still refl refl)

-- ---- what made it so
module _ {m i p : ℕ} {q q' : Post} where
  pub cause_8 : Moves m i p q q' → so lDown q.word ≡ false → so lDown q'.word ≡ true → Cause m i p q lDown
  unfolding so
  cause_8 (still a b) f g = absurd (false≢true (sym f ∙ rw (← a) g))
  cause_8 (strikes a b c d) f g = struck a b c
  cause_8 (sends a b c) f g = announced_8 a b
  cause_8 (frees a b c) f g = absurd (false≢true (rw b at g))

  pub cause_9 : Moves m i p q q' → so rlDown q.word ≡ false → so rlDown q'.word ≡ true → Cause m i p q rlDown
  unfolding so
  cause_9 (still a b) f g = absurd (false≢true (sym f ∙ rw (← b) g))
  cause_9 (strikes a b c d) f g = absurd (false≢true (sym f ∙ rw (← d) g))
  cause_9 (sends a b c) f g = announced_9 a b
  cause_9 (frees a b c) f g = absurd (false≢true (rw c at g))

  pub cause_13 : Moves m i p q q' → so rlUp q.word ≡ false → so rlUp q'.word ≡ true → Cause m i p q rlUp
  unfolding so
  cause_13 (still a b) f g = absurd (false≢true (sym f ∙ rw (← b) g))
  cause_13 (strikes a b c d) f g = absurd (false≢true (sym f ∙ rw (← d) g))
  cause_13 (sends a b c) f g = absurd (false≢true (sym c ∙ g))
  cause_13 (frees a b c) f g = a
