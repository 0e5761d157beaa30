-- A text fed byte by byte: what is left of it decides; and the rooms keep their lengths.
-- Assumes nothing.
use Prim.Native.Nat.{ℕ, ◌+◌, ◌≤◌, ◌<◌}
use mathlib.Core.Path.{◌≡◌, refl}
use mathlib.Core.List.{List, [], ◌∷◌, ◌++◌}
use native.Mathlib.Numerals.{add-one}
use lib.Dec.{eqb}
use lib.ListN.{length, get_or, drop, drop_of_length-le, length-set}
use lib.Seq.{drop-cons}
use Rattle.relay.proofs.Truth.{by}
use Rattle.importing.specs.Rooms.{Fed, kept_kind, kept_event, entry_in, fed_next, fed}
use Rattle.importing.specs.Steps.{number_in}
use Rattle.importing.specs.declared.steps.State.{State}

module _ (f : Fed) (t : List ℕ) (i : ℕ) where
  pub fold_more : i < length t → fed (fed_next f (get_or t i 0)) (drop (i + 1) t) ≡ fed f (drop i t)
  unfolding fed
  fold_more h = rw (add-one i, drop-cons t i 0 h)

  pub fold_end : length t ≤ i → fed f (drop i t) ≡ f
  unfolding fed
  fold_end h = rw (drop_of_length-le t h)

pub fed-append : (f : Fed) (a b : List ℕ) → fed f (a ++ b) ≡ fed (fed f a) b
unfolding fed
fed-append f [] b = refl
fed-append f (x ∷ a) b = fed-append (fed_next f x) a b

module _ (n : ℕ) (s : State) where
  pub kinds-long : (ks : List ℕ) → length (kept_kind n s ks) ≡ length ks
  unfolding kept_kind
  kinds-long ks = by (λ (x : List ℕ). length x ≡ length ks) (eqb n s.posts) (λ e. refl) (λ e. length-set ks n (number_in s.marks.b))

  pub events-long : (es : List (List ℕ)) → length (kept_event n s es) ≡ length es
  unfolding kept_event
  events-long es = by (λ (x : List (List ℕ)). length x ≡ length es) (eqb n s.events) (λ e. refl) (λ e. length-set es n (entry_in s.marks))
