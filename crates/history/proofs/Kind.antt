-- Nothing that befalls a line alters a post's kind: in every state reached, and so after any run, it is the table's.
-- It holds because no case of an event writes a kind.
use Prim.Native.Nat.{ℕ, zero, suc}
use mathlib.Core.Path.{◌≡◌, refl, ◌∙◌}
use mathlib.Core.Bool.{true}
use mathlib.Core.List.{List, [], ◌∷◌}
use lib.ListN.{get_or}
use Rattle.relay.specs.Examples.{Event}
use Rattle.relay.specs.Line.{neighbour, fresh_line, startable, start_of}
use Rattle.relay.specs.Posts.{at, fresh_post}
use Rattle.relay.specs.declared.Pair.{Pair}
use Rattle.relay.specs.declared.Post.{Post}
use Rattle.relay.proofs.Accepted.{event_cases}
use Rattle.relay.proofs.Cases.{Taken, reverse, normalise, pass, pass-idle, strike_block, strike_close, strike_idle, announce, release, garage, announcement_arrives, announcement-jammed, release_arrives, announcement-lost, release-lost, restore, button_jams, button_freed, accepted-case}
use Rattle.relay.proofs.Frame.{taken_replaces}
use Rattle.relay.proofs.Truth.{equal_or_not}
use Rattle.history.specs.Run.{State, step, run, begun, Befalls, given_event, refused-outside, moved-elsewhere, Reached, at_first}
use Rattle.history.proofs.Reached.{always, run-reached}

-- the post named and its neighbour keep their kinds
taken-kinds : {i j n : ℕ} {p o : Post} {b : Pair} → Taken i j p o n b → (b.here.kind ≡ p.kind) × (b.other.kind ≡ o.kind)
taken-kinds (reverse a b) = (refl, refl)
taken-kinds (normalise a) = (refl, refl)
taken-kinds (pass a b c) = (refl, refl)
taken-kinds (pass-idle a b) = (refl, refl)
taken-kinds (strike_block a b) = (refl, refl)
taken-kinds (strike_close a b) = (refl, refl)
taken-kinds (strike_idle a b) = (refl, refl)
taken-kinds (announce a b c) = (refl, refl)
taken-kinds (release m a n b c d e) = (refl, refl)
taken-kinds (garage m a n b c) = (refl, refl)
taken-kinds (announcement_arrives m a b) = (refl, refl)
taken-kinds (announcement-jammed m a b) = (refl, refl)
taken-kinds (release_arrives m a b) = (refl, refl)
taken-kinds (announcement-lost m a) = (refl, refl)
taken-kinds (release-lost m a b) = (refl, refl)
taken-kinds (restore m a b c d) = (refl, refl)
taken-kinds (button_jams a b) = (refl, refl)
taken-kinds (button_freed a b) = (refl, refl)

-- and so does every post
pub step-kinds : (e : Event) (w : State) (i : ℕ) → (at (step e w).line i).kind ≡ (at w.line i).kind
unfolding step
step-kinds e w i =
    event_cases (λ a. (at a.line i).kind ≡ (at w.line i).kind) w.line w.head e.number e.post e.stamp
    (λ c.
    let R = taken_replaces w.line w.head e.number e.post e.stamp c in
    let k = taken-kinds (accepted-case w.line w.head e.number e.post e.stamp c) in
    equal_or_not i e.post
    (λ f. rw (f, R.first) k.0)
    (λ f. equal_or_not i (neighbour e.number e.post) (λ g. rw (g, R.second) k.1) (λ g. rw (R.rest i f g))))
    (λ c. refl)

-- whatever befalls the line
pub befalls-kinds : {w v : State} → Befalls w v → (i : ℕ) → (at v.line i).kind ≡ (at w.line i).kind
befalls-kinds {w} (given_event e) i = step-kinds e w i
befalls-kinds (refused-outside e n f) i = refl
befalls-kinds (moved-elsewhere s f g) i = refl

fresh-kinds : (ks : List ℕ) (i : ℕ) → (at (fresh_line ks) i).kind ≡ get_or ks i 0
unfolding fresh_line fresh_post
fresh-kinds [] i = refl
fresh-kinds (k ∷ ks) zero = refl
fresh-kinds (k ∷ ks) (suc i) = fresh-kinds ks i

-- a line started from a table has the table's kinds
pub begun-kinds : (l : List Post) (ks : List ℕ) (t : ℕ) → startable l ks ≡ true → (i : ℕ) → (at (begun l ks t).line i).kind ≡ get_or ks i 0
unfolding begun start_of
begun-kinds l ks t f i = rw f (fresh-kinds ks i)

-- and has them in every state reached
pub reached-kinds : (l : List Post) (ks : List ℕ) (t : ℕ) → startable l ks ≡ true → {w : State} → Reached (begun l ks t) w → (i : ℕ)
    → (at w.line i).kind ≡ get_or ks i 0
reached-kinds l ks t f r i =
    always (λ w. (at w.line i).kind ≡ get_or ks i 0) (λ w v x z. befalls-kinds x i ∙ z) r (begun-kinds l ks t f i)

-- so after any run
pub kinds_stay : (l : List Post) (ks : List ℕ) (t : ℕ) → startable l ks ≡ true → (es : List Event) (i : ℕ)
    → (at (run es (begun l ks t)).line i).kind ≡ get_or ks i 0
kinds_stay l ks t f es = reached-kinds l ks t f (run-reached es (begun l ks t) at_first)
