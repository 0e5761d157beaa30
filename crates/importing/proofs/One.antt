-- The statements of `import` and of `settle` have one outcome as a result too: the numbers that a panel is given say which it is, since no refusal of the sheet names a block.
-- Assumes nothing.
use Prim.Native.Nat.{ℕ}
use mathlib.Core.Path.{◌≡◌, refl, sym, ap, ◌∙◌}
use Rattle.std.specs.Prelude.{Result, Ok, Err, IfErr, eqb}
use Rattle.relay.specs.Choice.{pick}
use Rattle.sheet.specs.Reading.{verdict}
use Rattle.sheet.specs.Refusals as sheet
use Rattle.sheet.specs.declared.Verdict.{Verdict}
use Rattle.sheet.specs.declared.refusal.Refusal as declared
use Rattle.sheet.specs.declared.refusal.Refusal.TheVariants.{NotValid, Length, Check, Contents, RoomShort, UpperBits}
use Rattle.sheet.proofs.Refusals.{refusal_at, back}
use Rattle.register.specs.Register.{wrong_record}
use Rattle.importing.specs.Importing.{imported_of}
use Rattle.importing.specs.Refusals.{NamesNoBlock}
use Rattle.importing.specs.declared.Imported.{Imported}
use Rattle.importing.specs.declared.refusal.Refusal.{Refusal}
use Rattle.importing.specs.declared.refusal.Refusal.TheVariants.{Record, Sheet}

-- the outcome that numbers are of
outcome_at : Imported → Result ℕ Refusal
outcome_at i =
    pick (eqb i.number 0) (Ok i.bytes)
    (pick (eqb i.number wrong_record) (Err (Record i.at)) (Err (Sheet (refusal_at (verdict i.number 0)))))

sheet_back : (r : declared.Refusal) → outcome_at (imported_of (Err (Sheet r))) ≡ Err (Sheet (refusal_at (verdict (sheet.number_of_refusal r) 0)))
unfolding outcome_at
sheet_back NotValid = refl
sheet_back Length = refl
sheet_back (Check _) = refl
sheet_back (Contents _) = refl
sheet_back RoomShort = refl
sheet_back (UpperBits _ _) = refl

outcome_back : (r : Result ℕ Refusal) → IfErr r (λ refusal. NamesNoBlock refusal) → outcome_at (imported_of r) ≡ r
unfolding outcome_at
outcome_back (Ok _) _ = refl
outcome_back (Err (Record _)) _ = refl
outcome_back (Err (Sheet refusal)) h = sheet_back refusal ∙ ap (λ (v : Verdict). Err (Sheet (refusal_at v))) (sym h) ∙ ap (λ (r : declared.Refusal). Err (Sheet r)) (back refusal)

pub imported_one : (r r' : Result ℕ Refusal) → IfErr r (λ refusal. NamesNoBlock refusal) → IfErr r' (λ refusal. NamesNoBlock refusal) → imported_of r ≡ imported_of r' → r ≡ r'
imported_one r r' h h' e = sym (outcome_back r h) ∙ ap outcome_at e ∙ outcome_back r' h'
