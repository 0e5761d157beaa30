-- The statement of each public call has one outcome: any two that satisfy it are equal, in numbers, as a panel is given them, and as results.
-- Assumes nothing.
use Prim.Native.Nat.{ℕ}
use mathlib.Core.Path.{◌≡◌, refl, sym, ap, ◌∙◌}
use mathlib.Core.List.{List}
use Rattle.std.specs.Prelude.{Result, Ok, Err, eqb}
use Rattle.relay.specs.Choice.{pick}
use Rattle.sheet.specs.Reading.{verdict_at}
use Rattle.sheet.specs.declared.refusal.Refusal as sheet
use Rattle.sheet.specs.declared.refusal.Refusal.TheVariants.{NotValid, Length, Check, Contents, RoomShort, UpperBits}
use Rattle.sheet.proofs.Refusals.{refusal_at}
use Rattle.why.specs.Why.{no_such_refusal, since_told, since_up_to}
use Rattle.why.specs.declared.Refusal.{Refusal}
use Rattle.why.specs.declared.Refusal.TheVariants.{NoSuchRefusal, Sheet}
use Rattle.why.specs.declared.Since.{Since}

pub since_one : (most : ℕ) (s : List ℕ) (k : ℕ) (r r' : Since) → r ≡ since_up_to most s k → r' ≡ since_up_to most s k → r ≡ r'
since_one most s k r r' e f = e ∙ sym f

-- ---- `since_when`, `since_when_tracks`: the outcome that an answer in numbers is of
outcome_at : Since → Result ℕ Refusal
outcome_at s =
    pick (eqb s.number 0) (Ok s.position)
    (pick (eqb s.number no_such_refusal) (Err NoSuchRefusal) (Err (Sheet (refusal_at (verdict_at s.number s.block s.position)))))

refused_back : (r : sheet.Refusal) → outcome_at (since_told (Err (Sheet r))) ≡ Err (Sheet r)
unfolding outcome_at refusal_at
refused_back NotValid = refl
refused_back Length = refl
refused_back (Check _) = refl
refused_back (Contents _) = refl
refused_back RoomShort = refl
refused_back (UpperBits _ _) = refl

back : (r : Result ℕ Refusal) → outcome_at (since_told r) ≡ r
unfolding outcome_at
back (Ok _) = refl
back (Err NoSuchRefusal) = refl
back (Err (Sheet refusal)) = refused_back refusal

pub told_one : (r r' : Result ℕ Refusal) → since_told r ≡ since_told r' → r ≡ r'
told_one r r' e = sym (back r) ∙ ap outcome_at e ∙ back r'
