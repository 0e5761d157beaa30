-- A record can stand exactly when it has five fields and each fits its place.
-- Assumes nothing.
use Prim.Native.Nat.{ℕ, suc, ◌^◌}
use mathlib.Core.Path.{◌≡◌, refl, ap, ◌∙◌}
use mathlib.Core.Bool.{Bool, true, false, ◌&&◌}
use mathlib.Core.List.{List, [], ◌∷◌}
use lib.Dec.{ltb}
use lib.ListN.{length, get_or}
use Rattle.relay.proofs.Truth.{and_facts}
use Rattle.sheet.specs.Entry.{in_fields}
use Rattle.sheet.specs.Sheet.{Sheet}
use Rattle.digits.specs.Digits.{digits, value}
use Rattle.register.specs.Records.{header, start_record, kind_record, event_record}
use Rattle.register.specs.Reading.{Read, same, alike, may_stand, wanted, within, stands}
use Rattle.register.specs.declared.Stage.{Stage}
use Rattle.register.specs.declared.Stage.TheVariants.{AtHeader, AtStart, AtKinds, AtEvents}
use Rattle.register.proofs.Alike.{alike_eq}

-- a number as it is written
abbrev pub numeral : List ℕ → Bool
numeral f = same f (digits (value 0 f))

-- and below n
abbrev pub numeral_below : ℕ → List ℕ → Bool
numeral_below n f = numeral f && ltb (value 0 f) n

-- five fields fit, at this stage, with so many kinds and events before them
abbrev pub fit : Stage → ℕ → ℕ → List ℕ → List ℕ → List ℕ → List ℕ → List ℕ → Bool
fit AtHeader p e f₀ f₁ f₂ f₃ f₄ =
    same f₀ (get_or header 0 []) && (same f₁ (get_or header 1 []) && (same f₂ (get_or header 2 []) && (same f₃ (get_or header 3 []) && same f₄ (get_or header 4 []))))
fit AtStart p e f₀ f₁ f₂ f₃ f₄ = same f₀ [] && (same f₁ [] && (same f₂ [] && (numeral_below (2 ^ 32) f₃ && same f₄ [])))
fit AtKinds p e f₀ f₁ f₂ f₃ f₄ =
    same f₀ [] && ((numeral f₁ && may_stand p (value 0 f₁)) && (same f₂ (digits p) && (same f₃ [] && same f₄ [])))
fit AtEvents p e f₀ f₁ f₂ f₃ f₄ =
    same f₀ (digits (suc e)) && (numeral_below 32 f₁ && (numeral_below 64 f₂ && (numeral_below (2 ^ 32) f₃ && numeral_below 32 f₄)))

-- ---- 'and' in another order
pub and-false : (x : Bool) → (x && false) ≡ false
and-false true = refl
and-false false = refl

and-true : (x : Bool) → (x && true) ≡ x
and-true true = refl
and-true false = refl

header-and : (a b c d e : Bool) → ((a && (b && (c && (d && (e && true))))) && true) ≡ (a && (b && (c && (d && e))))
header-and a b c d e = simp and-true

start_and : (a b c n l d : Bool) → ((a && (b && (c && (n && (d && true))))) && l) ≡ (a && (b && (c && ((n && l) && d))))
start_and false b c n l d = refl
start_and true false c n l d = refl
start_and true true false n l d = refl
start_and true true true false l d = refl
start_and true true true true true d = simp and-true
start_and true true true true false d = simp and-false

kinds-and : (a n l p c d : Bool) → ((a && (n && (p && (c && (d && true))))) && l) ≡ (a && ((n && l) && (p && (c && d))))
kinds-and false n l p c d = refl
kinds-and true false l p c d = refl
kinds-and true true true p c d = simp and-true
kinds-and true true false p c d = simp and-false

events-and : (a b₁ l₁ b₂ l₂ b₃ l₃ b₄ l₄ : Bool)
    → ((a && (b₁ && (b₂ && (b₃ && (b₄ && true))))) && ((l₁ && (l₂ && l₄)) && l₃))
    ≡ (a && ((b₁ && l₁) && ((b₂ && l₂) && ((b₃ && l₃) && (b₄ && l₄)))))
events-and false b₁ l₁ b₂ l₂ b₃ l₃ b₄ l₄ = refl
events-and true false l₁ b₂ l₂ b₃ l₃ b₄ l₄ = refl
events-and true true false b₂ l₂ b₃ l₃ b₄ l₄ = simp and-false
events-and true true true false l₂ b₃ l₃ b₄ l₄ = refl
events-and true true true true false b₃ l₃ b₄ l₄ = simp and-false
events-and true true true true true false l₃ b₄ l₄ = refl
events-and true true true true true true false b₄ l₄ = simp and-false
events-and true true true true true true true false l₄ = refl
events-and true true true true true true true true false = refl
events-and true true true true true true true true true = refl

module _ (t : Sheet) (f₀ f₁ f₂ f₃ f₄ : List ℕ) where
  pub stands-fit : (g : Stage) → stands (record { stage = g; sheet = t }) (f₀ ∷ f₁ ∷ f₂ ∷ f₃ ∷ f₄ ∷ []) ≡ fit g (length t.kinds) (length t.events) f₀ f₁ f₂ f₃ f₄
  unfolding stands wanted within start_record kind_record event_record alike in_fields
  stands-fit AtHeader =
      header-and (same f₀ (get_or header 0 [])) (same f₁ (get_or header 1 [])) (same f₂ (get_or header 2 [])) (same f₃ (get_or header 3 [])) (same f₄ (get_or header 4 []))
  stands-fit AtStart = start_and (same f₀ []) (same f₁ []) (same f₂ []) (numeral f₃) (ltb (value 0 f₃) (2 ^ 32)) (same f₄ [])
  stands-fit AtKinds = kinds-and (same f₀ []) (numeral f₁) (may_stand (length t.kinds) (value 0 f₁)) (same f₂ (digits (length t.kinds))) (same f₃ []) (same f₄ [])
  stands-fit AtEvents = events-and (same f₀ (digits (suc (length t.events)))) (numeral f₁) (ltb (value 0 f₁) 32) (numeral f₂) (ltb (value 0 f₂) 64) (numeral f₃) (ltb (value 0 f₃) (2 ^ 32)) (numeral f₄) (ltb (value 0 f₄) 32)

-- ---- no other number of fields
wanted-five : (g : Stage) (t : Sheet) (r : List (List ℕ)) → length (wanted g t r) ≡ 5
unfolding wanted start_record kind_record event_record
wanted-five AtHeader t r = refl
wanted-five AtStart t r = refl
wanted-five AtKinds t r = refl
wanted-five AtEvents t r = refl

pub stands-five : (s : Read) (r : List (List ℕ)) → stands s r ≡ true → length r ≡ 5
unfolding stands
stands-five s r h =
    ap (λ (x : List (List ℕ)). length x) (alike_eq r (wanted s.stage s.sheet r) ((and_facts (alike r (wanted s.stage s.sheet r)) _).0 h).0) ∙ wanted-five s.stage s.sheet r
