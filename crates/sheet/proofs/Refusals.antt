-- A refusal has a number, which its verdict has too, and zeros stand for no refusal. No two refusals have one verdict, so that what an outcome is in numbers says which outcome it is.
-- Assumes nothing.
use mathlib.Core.Path.{◌≡◌, refl, sym, ap, ◌∙◌}
use native.Mathlib.Omega.{arith}
use Rattle.std.specs.Prelude.{Result, Ok, Err, IfOk, eqb}
use Rattle.relay.specs.Answers.{notValid}
use Rattle.relay.specs.Choice.{pick}
use Rattle.sheet.specs.Layout.{length_wrong, check_wrong, contents_wrong, room_short}
use Rattle.sheet.specs.Reading.{verdict}
use Rattle.sheet.specs.Refusals.{number_of_refusal, verdict_of_refusal, verdict_code}
use Rattle.sheet.specs.declared.Verdict.{Verdict}
use Rattle.sheet.specs.declared.refusal.Refusal.{Refusal}
use Rattle.sheet.specs.declared.refusal.Refusal.TheVariants.{NotValid, Length, Check, Contents, RoomShort, UpperBits}

pub refuses : (r : Refusal) → (verdict_of_refusal r).number ≡ 0 → ⊥
refuses NotValid e = absurd (omega arith)
refuses Length e = absurd (omega arith)
refuses (Check _) e = absurd (omega arith)
refuses (Contents _) e = absurd (omega arith)
refuses RoomShort e = absurd (omega arith)
refuses (UpperBits _ _) e = absurd (omega arith)

pub passes_as : (v : Verdict) → verdict 0 0 ≡ v → v.number ≡ 0
passes_as v e = sym (ap (λ (w : Verdict). w.number) e)

pub number_is : (r : Refusal) → (verdict_of_refusal r).number ≡ number_of_refusal r
number_is NotValid = refl
number_is Length = refl
number_is (Check _) = refl
number_is (Contents _) = refl
number_is RoomShort = refl
number_is (UpperBits _ _) = refl

-- ---- the refusal that a verdict is of; one of no refusal says nothing
unfoldable pub refusal_at : Verdict → Refusal
refusal_at v =
    pick (eqb v.number notValid) NotValid (
    pick (eqb v.number length_wrong) Length (
    pick (eqb v.number check_wrong) (Check v.block) (
    pick (eqb v.number contents_wrong) (Contents v.block) (
    pick (eqb v.number room_short) RoomShort (UpperBits v.block v.position)))))

pub back : (r : Refusal) → refusal_at (verdict_of_refusal r) ≡ r
unfolding refusal_at
back NotValid = refl
back Length = refl
back (Check _) = refl
back (Contents _) = refl
back RoomShort = refl
back (UpperBits _ _) = refl

pub refusal_one : (r r' : Refusal) → verdict_of_refusal r ≡ verdict_of_refusal r' → r ≡ r'
refusal_one r r' e = sym (back r) ∙ ap refusal_at e ∙ back r'

-- ---- an outcome whose value, if it has one, is x
module _ {T : Type 0} (x : T) where
  outcome_at : Verdict → Result T Refusal
  outcome_at v = pick (eqb v.number 0) (Ok x) (Err (refusal_at v))

  refused_back : (r : Refusal) → outcome_at (verdict_of_refusal r) ≡ Err r
  unfolding outcome_at refusal_at
  refused_back NotValid = refl
  refused_back Length = refl
  refused_back (Check _) = refl
  refused_back (Contents _) = refl
  refused_back RoomShort = refl
  refused_back (UpperBits _ _) = refl

  outcome_back : (r : Result T Refusal) → IfOk r (λ y. y ≡ x) → outcome_at (verdict_code r) ≡ r
  unfolding outcome_at
  outcome_back (Ok y) e = ap Ok (sym e)
  outcome_back (Err refusal) _ = refused_back refusal

  pub outcome_one : (r r' : Result T Refusal) → IfOk r (λ y. y ≡ x) → IfOk r' (λ y. y ≡ x) → verdict_code r ≡ verdict_code r' → r ≡ r'
  outcome_one r r' h h' e = sym (outcome_back r h) ∙ ap outcome_at e ∙ outcome_back r' h'
