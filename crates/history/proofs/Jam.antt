-- Whatever befalls a line, and so after any run, a post's release button is jammed, bit 8 of its record, exactly when the history says so.
-- It is followed through the history (proofs/Followed.antt): only 11 raises the jam of the post named, and 12 drops it.
-- Assumes nothing.
use Prim.Native.Nat.{ℕ}
use mathlib.Core.Path.{◌≡◌, refl}
use mathlib.Core.Bool.{Bool, true, ◌||◌}
use mathlib.Core.List.{List}
use borrow.Author.Tests.{eqb-true}
use lib.Dec.{eqb}
use Rattle.relay.specs.Examples.{Event}
use Rattle.relay.specs.Kinds.{terminus, ordinary}
use Rattle.relay.specs.Line.{startable}
use Rattle.relay.specs.Posts.{at, fresh_word}
use Rattle.relay.specs.Relays.{jam, up, raise}
use Rattle.relay.specs.declared.Post.{Post}
use Rattle.relay.proofs.Cases.{button_jams, button_freed}
use Rattle.relay.proofs.Touched.{touched}
use Rattle.relay.proofs.Truth.{nor_facts, or_facts, split, pick_same}
use Rattle.relay.proofs.Word.{relays}
use Rattle.history.specs.History.{did, is_jammed}
use Rattle.history.specs.Run.{run, begun, at_first}
use Rattle.history.proofs.Followed.{Moves, not_did, Followed, reached-says}
use Rattle.history.proofs.Reached.{run-reached}
use Rattle.history.proofs.JamMoves.{jams, frees}

-- event n makes of the jam of the post named what its entry says
module _ (i t m : ℕ) where
  abbrev By : ℕ → Type 0
  By n = Moves jam jams frees i t m n

  by_jamming : By 11
  unfolding did
  by_jamming j p o b f r (button_jams x y) = simp (relays, f)

  by_freeing : By 12
  unfolding did
  by_freeing j p o b f r (button_freed x y) = simp (relays, f)

-- the jam is one that the history says
abbrev moves : ℕ → Bool
moves n = eqb n 11 || eqb n 12

pub jam-followed : Followed jam jams frees moves
unfolding did touched fresh_word up raise
jam-followed =
    record {
      here = λ i t m n.
          or_facts (eqb n 11) (eqb n 12) (λ e. rw (eqb-true n 11 e) (by_jamming i t m)) (λ e. rw (eqb-true n 12 e) (by_freeing i t m));
      still = λ n e. let f = simp nor_facts at e in simp (f.0, f.1, pick_same);
      only = λ i x e. (not_did 11 moves i x refl e, not_did 12 moves i x refl e);
      relay = refl;
      own = refl;
      fresh = λ k. split (eqb (ordinary k) terminus) (λ e. rw e) (λ e. rw e);
      blank = refl;
    }

-- so after any run
pub jam_is : (l : List Post) (ks : List ℕ) (t : ℕ) → startable l ks ≡ true → (es : List Event)
    → (i : ℕ) → up jam (at (run es (begun l ks t)).line i).word ≡ is_jammed i (run es (begun l ks t)).history
jam_is l ks t e es = reached-says jam-followed l ks t e (run-reached es (begun l ks t) at_first)
