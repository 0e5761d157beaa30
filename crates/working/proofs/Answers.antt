-- The first event that is answered already: the first at which a test passes, and what a search for it returns.
-- Assumes nothing.
use Prim.Native.Nat.{ℕ, zero, suc, ◌≤◌, ◌<◌}
use mathlib.Core.Path.{◌≡◌, refl, sym, ◌∙◌}
use mathlib.Core.Bool.{Bool, not}
use mathlib.Core.List.{List, [], ◌∷◌}
use native.Mathlib.Omega.{arith}
use borrow.Author.Tests.{eqb-true, eqb-false, ltb-true, ltb-false}
use lib.Dec.{eqb, ltb}
use lib.ListN.{length, get_or}
use Rattle.std.proofs.Common.{Option, Some, None}
use Rattle.std.specs.List.{position_or_len}
use Rattle.std.proofs.lemmas.List.Recursion.{is_position_or_len}
use Rattle.std.proofs.lemmas.Option.{same_Some, none-some}
use Rattle.relay.proofs.Truth.{split}
use Rattle.relay.specs.Choice.{pick}
use Rattle.sheet.specs.Layout.{unanswered}
use Rattle.sheet.specs.Entry.{answer_of}
use Rattle.working.specs.Working.{first_answered}

-- an answer other than 31
abbrev pub answered-already : List ℕ → Bool
answered-already e = not (eqb (answer_of e) unanswered)

pub first_place : (es : List (List ℕ)) → first_answered es ≡ position_or_len answered-already es
unfolding first_answered
first_place = is_position_or_len first_answered answered-already refl (λ e es. split (eqb (answer_of e) unanswered) (λ t. rw t (omega arith)) (λ t. rw t refl))

-- what the search for it returns
module _ (es : List (List ℕ)) (r : Option ℕ) (e : r ≡ pick (ltb (first_answered es) (length es)) (Some (first_answered es)) None) where
  pub found : (i : ℕ) → r ≡ Some i → (i ≡ first_answered es) × (first_answered es < length es)
  found i s =
      split (ltb (first_answered es) (length es))
      (λ t. (same_Some _ _ (sym s ∙ rw t at e), ltb-true (first_answered es) (length es) t))
      (λ t. absurd (none-some _ (sym (sym s ∙ rw t at e))))

  pub not_found : r ≡ None → length es ≤ first_answered es
  not_found s =
      split (ltb (first_answered es) (length es))
      (λ t. absurd (none-some _ (sym s ∙ rw t at e)))
      (λ t. ltb-false (first_answered es) (length es) t)

-- ---- the first answered event of a list
-- each event before it is not yet answered
pub unanswered-before : (es : List (List ℕ)) (i : ℕ) → i < first_answered es → i < length es → answer_of (get_or es i []) ≡ unanswered
unfolding first_answered
unanswered-before [] i f h = absurd (omega (arith, h))
unanswered-before (e ∷ es) zero f h =
    split (eqb (answer_of e) unanswered) (λ t. eqb-true (answer_of e) unanswered t) (λ t. absurd (omega (arith, rw t at f)))
unanswered-before (e ∷ es) (suc i) f h =
    split (eqb (answer_of e) unanswered)
    (λ t. unanswered-before es i (omega (arith, rw t at f)) (omega arith))
    (λ t. absurd (omega (arith, rw t at f)))

-- and it is answered
pub answered-there : (es : List (List ℕ)) → first_answered es < length es → answer_of (get_or es (first_answered es) []) ≡ unanswered → ⊥
unfolding first_answered
answered-there [] = λ h. absurd (omega arith)
answered-there (e ∷ es) =
    split (eqb (answer_of e) unanswered)
    (λ t. rw t (λ h. answered-there es (omega arith)))
    (λ t. rw t (λ h. eqb-false (answer_of e) unanswered t))
