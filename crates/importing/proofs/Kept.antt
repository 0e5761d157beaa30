-- What is kept of the records that stand: at the front of its room, as long as it fits.
-- Assumes nothing.
use Prim.Native.Nat.{ℕ, ◌+◌, ◌≤◌, ◌<◌}
use mathlib.Core.Path.{◌≡◌, refl, ap, ◌∙◌}
use mathlib.Core.List.{List, [], ◌∷◌, ◌++◌}
use native.Mathlib.Numerals.{add-one}
use native.Mathlib.Omega.{arith}
use borrow.Author.Tests.{eq-eqb, ne_eqb}
use lib.ListN.{length, set, take, length-append, length-set}
use lib.Seq.{take-suc-set, set_out}
use Rattle.importing.specs.Rooms.{Fed, entry_in, kept_kind, kept_event, fed_next, fed}
use Rattle.importing.specs.Steps.{number_in, state_next}
use Rattle.importing.specs.declared.steps.State.{State}
use Rattle.importing.proofs.Fold.{kinds-long, events-long}

-- what one more changes: nothing where none is told, nor past the room
pub ruleset storing = (eq-eqb, ne_eqb, set_out)

abbrev pub Kept : {X : Type 0} → List X → List X → Type 0
Kept xs room = length xs ≤ length room → take (length xs) room ≡ xs

pub kept_none : {X : Type 0} (room : List X) → Kept [] room
kept_none [] h = refl
kept_none (x ∷ room) h = refl

-- one more, right behind
pub kept_more : {X : Type 0} (xs room : List X) (x : X) → Kept xs room → Kept (xs ++ (x ∷ [])) (set room (length xs) x)
kept_more xs room x k h =
    let n : length (xs ++ (x ∷ [])) ≡ length xs + 1 = length-append xs (x ∷ []) in
    let m : length (set room (length xs) x) ≡ length room = length-set room (length xs) x in
    let l : length xs < length room = omega arith in
    rw (n, add-one) (take-suc-set room (length xs) x l ∙ ap (λ (ys : List _). ys ++ (x ∷ [])) (k (omega arith)))

-- ---- a byte after which no more is known
module _ (s : State) where
  pub same_kinds : (n : ℕ) (ks : List ℕ) → n ≡ s.posts → kept_kind n s ks ≡ ks
  unfolding kept_kind
  same_kinds n ks e = rw (eq-eqb n s.posts e)

  pub same_events : (n : ℕ) (es : List (List ℕ)) → n ≡ s.events → kept_event n s es ≡ es
  unfolding kept_event
  same_events n es e = rw (eq-eqb n s.events e)

  -- and one after which there is
  pub one_kind : (n : ℕ) (ks : List ℕ) → s.posts ≡ n + 1 → kept_kind n s ks ≡ set ks n (number_in s.marks.b)
  unfolding kept_kind
  one_kind n ks e = rw (ne_eqb n s.posts (λ z. omega arith))

  pub one_event : (n : ℕ) (es : List (List ℕ)) → s.events ≡ n + 1 → kept_event n s es ≡ set es n (entry_in s.marks)
  unfolding kept_event
  one_event n es e = rw (ne_eqb n s.events (λ z. omega arith))

-- ---- the rooms keep their lengths
pub fed-kinds-long : (f : Fed) (t : List ℕ) → length (fed f t).kinds ≡ length f.kinds
unfolding fed fed_next
fed-kinds-long f [] = refl
fed-kinds-long f (b ∷ t) = fed-kinds-long (fed_next f b) t ∙ kinds-long f.state.posts (state_next f.state b) f.kinds

pub fed-events-long : (f : Fed) (t : List ℕ) → length (fed f t).events ≡ length f.events
unfolding fed fed_next
fed-events-long f [] = refl
fed-events-long f (b ∷ t) = fed-events-long (fed_next f b) t ∙ events-long f.state.events (state_next f.state b) f.events
