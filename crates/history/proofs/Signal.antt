-- Whatever befalls a line, and so after any run, a post's signal is open exactly when the history says so.
-- It is followed through the history (proofs/Followed.antt): only 1 raises the signal of the post named, and 2 and 4 close it.
use Prim.Native.Nat.{ℕ}
use mathlib.Core.Path.{◌≡◌, refl, sym, ◌∙◌}
use mathlib.Core.Bool.{Bool, true, ◌||◌, false≢true}
use mathlib.Core.List.{List}
use borrow.Author.Tests.{eqb-true}
use lib.Dec.{eqb}
use Rattle.relay.specs.Examples.{Event}
use Rattle.relay.specs.Kinds.{terminus, ordinary}
use Rattle.relay.specs.Line.{startable}
use Rattle.relay.specs.Posts.{at, fresh_word}
use Rattle.relay.specs.Relays.{signal, up, raise}
use Rattle.relay.specs.declared.Post.{Post}
use Rattle.relay.proofs.Cases.{reverse, normalise, strike_block, strike_close, strike_idle}
use Rattle.relay.proofs.Touched.{touched}
use Rattle.relay.proofs.Truth.{nor_facts, or_facts, split, pick_same}
use Rattle.relay.proofs.Word.{relays}
use Rattle.history.specs.History.{did, closes, is_open}
use Rattle.history.specs.Run.{State, run, begun, Reached, at_first}
use Rattle.history.proofs.Followed.{Moves, not_did, Followed, reached-says}
use Rattle.history.proofs.Reached.{run-reached}

-- event n makes of the signal of the post named what its entry says
module _ (i t m : ℕ) where
  abbrev By : ℕ → Type 0
  By n = Moves signal (did 1) closes i t m n

  by_reversing : By 1
  unfolding closes did
  by_reversing j p o b f r (reverse x y) = simp (relays, f)

  by_normalising : By 2
  unfolding closes did
  by_normalising j p o b f r (normalise x) = simp (relays, f)

  by_striking : By 4
  unfolding closes did
  by_striking j p o b f r (strike_block x y) = simp (relays, f)
  by_striking j p o b f r (strike_close x y) = simp (relays, f)
  by_striking j p o b f r (strike_idle x y) =
      simp f (split (up signal p.word) (λ c. absurd (false≢true (sym y ∙ r.open_reversed c))) (λ c. c))

-- the signal is one that the history says
abbrev moves : ℕ → Bool
moves n = eqb n 1 || (eqb n 2 || eqb n 4)

signal-followed : Followed signal (did 1) closes moves
unfolding closes did touched fresh_word up raise
signal-followed =
    record {
      here = λ i t m n.
          or_facts (eqb n 1) (eqb n 2 || eqb n 4) (λ e. rw (eqb-true n 1 e) (by_reversing i t m))
          (or_facts (eqb n 2) (eqb n 4) (λ e. rw (eqb-true n 2 e) (by_normalising i t m)) (λ e. rw (eqb-true n 4 e) (by_striking i t m)));
      still = λ n e. let f = simp nor_facts at e in simp (f.0, f.1.0, f.1.1, pick_same);
      only = λ i x e.
          (not_did 1 moves i x refl e, (nor_facts (did 2 i x) (did 4 i x)).1 (not_did 2 moves i x refl e, not_did 4 moves i x refl e));
      relay = refl;
      own = refl;
      fresh = λ k. split (eqb (ordinary k) terminus) (λ e. rw e) (λ e. rw e);
      blank = refl;
    }

-- the signal of each post is what the history says
abbrev pub Says : State → Type 0
Says w = (i : ℕ) → up signal (at w.line i).word ≡ is_open i w.history

-- in every state reached from a line started from a table
pub reached_open : (l : List Post) (ks : List ℕ) (t : ℕ) → startable l ks ≡ true → {w : State} → Reached (begun l ks t) w → Says w
reached_open = reached-says signal-followed

-- so after any run
pub signal_is : (l : List Post) (ks : List ℕ) (t : ℕ) → startable l ks ≡ true → (es : List Event)
    → (i : ℕ) → up signal (at (run es (begun l ks t)).line i).word ≡ is_open i (run es (begun l ks t)).history
signal_is l ks t e es = reached_open l ks t e (run-reached es (begun l ks t) at_first)
