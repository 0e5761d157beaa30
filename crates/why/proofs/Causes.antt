-- What the event named can be, by the refusal that it made so.
-- Assumes nothing.
use Prim.Native.Nat.{ℕ}
use mathlib.Core.Path.{◌≡◌}
use mathlib.Core.Bool.{true, false, ◌||◌}
use mathlib.Core.List.{List}
use borrow.Author.Tests.{eqb-true}
use lib.Dec.{eqb}
use Rattle.relay.proofs.Truth.{or_facts}
use Rattle.relay.specs.Answers.{lDown, rlDown, rlUp}
use Rattle.relay.specs.Line.{event_of}
use Rattle.relay.specs.Posts.{at}
use Rattle.relay.specs.declared.Head.{Head}
use Rattle.relay.specs.declared.Post.{Post}
use Rattle.why.specs.Why.{speaks, so}
use Rattle.why.proofs.Cause.{Cause, Moves, moves, cause_8, cause_9, cause_13}

module _ {m i p : ℕ} {q q' : Post} where
  causes : (n : ℕ) → speaks n ≡ true → Moves m i p q q' → so n q.word ≡ false → so n q'.word ≡ true → Cause m i p q n
  unfolding speaks
  causes n a =
      or_facts (eqb n lDown) (eqb n rlDown || eqb n rlUp)
      (λ z. rw (eqb-true n lDown z) cause_8)
      (or_facts (eqb n rlDown) (eqb n rlUp) (λ z. rw (eqb-true n rlDown z) cause_9) (λ z. rw (eqb-true n rlUp z) cause_13))
      a

-- an event after which it is so at post p, where before it it was not
pub cause : (l : List Post) (s : Head) (m i t p n : ℕ) → speaks n ≡ true → so n (at l p).word ≡ false
    → so n (at (event_of l s m i t).line p).word ≡ true
    → Cause m i p (at l p) n
cause l s m i t p n a = causes n a (moves l s m i t p)
