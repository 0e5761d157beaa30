-- Whatever befalls a line, and so after any run, it is valid, and what its history says of each section is what the records say.
-- It holds of a fresh line, where all counts are zero. What is refused from outside or happens elsewhere alters no record and grows no count; every event keeps it: proofs/Agrees.antt says what becomes of the section, whichever of its posts the event alters.
use Prim.Native.Nat.{ℕ, zero, suc, ◌+◌, ◌<◌}
use mathlib.Core.Path.{◌≡◌, refl, ◌∙◌}
use mathlib.Core.Bool.{true}
use mathlib.Core.List.{List, [], ◌∷◌}
use native.Mathlib.Omega.{arith}
use borrow.Author.Tests.{ne_eqb}
use lib.ListN.{length, get_or}
use Rattle.relay.specs.Examples.{Event}
use Rattle.relay.specs.Line.{fresh_line, startable, start_of}
use Rattle.relay.specs.Posts.{at, fresh_post}
use Rattle.relay.specs.declared.Post.{Post}
use Rattle.relay.proofs.Fresh.{length-fresh}
use Rattle.relay.proofs.Kept.{event-keeps, later-valid, fresh-valid}
use Rattle.history.specs.Run.{State, step, run, begun, Befalls, given_event, refused-outside, moved-elsewhere, Reached, at_first}
use Rattle.history.proofs.Agrees.{refused, fresh-agrees}
use Rattle.history.proofs.Followed.{step-says, befalls-says, begun-says}
use Rattle.history.proofs.Jam.{jam-followed}
use Rattle.history.proofs.Reached.{always, run-reached}
use Rattle.history.proofs.RunsBefore.{Sound, event-agrees, step-length, befalls-length}

-- every event keeps both
pub step-sound : {ks : List ℕ} (e : Event) (w : State) → Sound ks w → Sound ks (step e w)
unfolding step
step-sound {ks} e w r =
    record {
      valid = event-keeps w.line w.head e.number e.post e.stamp r.valid;
      jams = step-says jam-followed e w r.jams;
      agrees = λ s k.
          let fits : s + 1 < length w.line = omega (arith, step-length e w) in
          event-agrees ks e w.history w.line w.head r.jams s fits (r.agrees s fits);
    }

-- whatever befalls the line keeps both
pub befalls-sound : {ks : List ℕ} {w v : State} → Befalls w v → Sound ks w → Sound ks v
befalls-sound {w = w} (given_event e) r = step-sound e w r
befalls-sound {ks} {w} (refused-outside e n f) r =
    record {
      valid = r.valid;
      jams = befalls-says jam-followed {w = w} (refused-outside e n f) r.jams;
      agrees = λ s k.
          refused ks e n w.history s (at w.line s) (at w.line (s + 1)) (ne_eqb n 0 (λ z. omega arith)) (r.agrees s k);
    }
befalls-sound {w = w} (moved-elsewhere s f g) r =
    record { valid = later-valid w.line w.head s (omega arith) (omega arith) r.valid; jams = r.jams; agrees = r.agrees }

-- ---- the states reached
-- both hold in every state reached from one where they do, and no post is more or less
pub reached-sound : {ks : List ℕ} {b w : State} → Reached b w → Sound ks b → Sound ks w
reached-sound {ks} r = always (Sound ks) (λ w v x. befalls-sound x) r

pub reached-length : {b w : State} → Reached b w → length w.line ≡ length b.line
reached-length {b} r = always (λ w. length w.line ≡ length b.line) (λ w v x e. befalls-length x ∙ e) r refl

-- every run keeps both
pub run_sound : {ks : List ℕ} (es : List Event) (w : State) → Sound ks w → Sound ks (run es w)
run_sound es w = reached-sound (run-reached es w at_first)

-- no run alters the number of posts
pub run_length : (es : List Event) (w : State) → length (run es w).line ≡ length w.line
run_length es w = reached-length (run-reached es w at_first)

-- ---- a line just started
-- post i of a fresh line is a fresh post
fresh_at : (ks : List ℕ) (i : ℕ) → i < length ks → at (fresh_line ks) i ≡ fresh_post (get_or ks i 0)
unfolding fresh_line
fresh_at [] i f = absurd (omega arith)
fresh_at (k ∷ ks) zero f = refl
fresh_at (k ∷ ks) (suc i) f = fresh_at ks i (omega arith)

-- a line just started has a post for each kind
pub begun-length : (l : List Post) (ks : List ℕ) (t : ℕ) → startable l ks ≡ true → length (begun l ks t).line ≡ length ks
unfolding begun start_of
begun-length l ks t e = rw e (length-fresh ks)

-- a line just started is sound
pub begun-sound : (l : List Post) (ks : List ℕ) (t : ℕ) → startable l ks ≡ true → Sound ks (begun l ks t)
unfolding begun start_of
begun-sound l ks t e =
    rw e
    (record {
      valid = fresh-valid l ks t e;
      jams = rw e at (begun-says jam-followed l ks t e);
      agrees = λ s k.
          let x : s + 1 < length ks = omega (arith, length-fresh ks) in
          rw (fresh_at ks s (omega arith), fresh_at ks (s + 1) x) (fresh-agrees ks s (get_or ks s 0));
    })
