-- The statement of `export` has one outcome: any two that satisfy it are equal, since both parts are equations; in numbers, as a panel is given it, and as a result.
-- Assumes nothing.
use Prim.Native.Nat.{ℕ}
use mathlib.Core.Path.{◌≡◌, refl, sym, ap, subst, ◌∙◌}
use mathlib.Core.List.{List}
use Rattle.std.specs.Prelude.{Result, Ok, Err, IfOk}
use Rattle.sheet.specs.Reading.{verdict_at}
use Rattle.sheet.specs.Refusals.{verdict_code}
use Rattle.sheet.specs.declared.refusal.Refusal.{Refusal}
use Rattle.sheet.proofs.Refusals.{outcome_one}
use Rattle.exporting.specs.Exporting.{exported_of, Exports}
use Rattle.exporting.specs.declared.Exported.{Exported}

pub export_one : (s : List ℕ) (r r' : Exported) (out end end' : List ℕ) → Exports s r out end → Exports s r' out end' → (r ≡ r') × (end ≡ end')
export_one s r r' out end end' a b = (a.0 ∙ sym b.0, a.1 ∙ sym b.1)

-- ---- `export`, `export_tracks`: what was exported has how long the text is, or the refusal's verdict
exported_verdict : (r : Result ℕ Refusal) → (λ (e : Exported). verdict_at e.number e.block e.position) (exported_of r) ≡ verdict_code r
exported_verdict (Ok _) = refl
exported_verdict (Err _) = refl

exported_long : (r : Result ℕ Refusal) → IfOk r (λ n. n ≡ (exported_of r).bytes)
exported_long (Ok _) = refl
exported_long (Err _) = record {}

pub exported_one : (r r' : Result ℕ Refusal) → exported_of r ≡ exported_of r' → r ≡ r'
exported_one r r' e =
    outcome_one (exported_of r).bytes r r' (exported_long r) (subst (λ (x : Exported). IfOk r' (λ n. n ≡ x.bytes)) (sym e) (exported_long r'))
    (sym (exported_verdict r) ∙ ap (λ (x : Exported). verdict_at x.number x.block x.position) e ∙ exported_verdict r')
