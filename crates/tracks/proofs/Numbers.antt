-- No refusal has the number that says 'taken', no two have one number, and so an outcome's number says which outcome it is.
-- Assumes nothing.
use Prim.Native.Nat.{ℕ}
use mathlib.Core.Path.{◌≡◌, refl, sym, ap, ◌∙◌}
use native.Mathlib.Omega.{arith}
use Rattle.std.specs.Prelude.{Result, Ok, Err, IfOk, eqb}
use Rattle.relay.specs.Answers.{taken}
use Rattle.relay.specs.Choice.{pick}
use Rattle.relay.specs.Numbers.{number_of_refusal as number_alone}
use Rattle.relay.specs.declared.refusal.Refusal as relay
use Rattle.relay.specs.declared.refusal.Refusal.TheVariants.{NotValid, NoSuchPlace, NoSuchEvent, StampBehind, SessionFull, NoDevice, LeverThere, LDown, RlDown, LeverReversed, AnDown, KpgDown, RlUp, NothingUnderWay, SectionFree, SignalUnderWay, AnUp, ButtonJammed, ButtonFree}
use Rattle.relay.proofs.Numbers.{some as some_alone, refusal_at as alone_at}
use Rattle.tracks.specs.Circuit.{circuit_busy}
use Rattle.tracks.specs.Numbers.{number_of_refusal, refusal_code}
use Rattle.tracks.specs.declared.refusal.Refusal.{Refusal}
use Rattle.tracks.specs.declared.refusal.Refusal.TheVariants.{Relays, CircuitBusy}

pub some : (r : Refusal) → number_of_refusal r ≡ 0 → ⊥
some (Relays alone) e = some_alone alone e
some CircuitBusy e = omega (arith, e)

-- the refusal that a number is of; another number says nothing
refusal_at : ℕ → Refusal
refusal_at n = pick (eqb n circuit_busy) CircuitBusy (Relays (alone_at n))

alone_back : (r : relay.Refusal) → refusal_at (number_alone r) ≡ Relays r
unfolding refusal_at alone_at
alone_back NotValid = refl
alone_back NoSuchPlace = refl
alone_back NoSuchEvent = refl
alone_back StampBehind = refl
alone_back SessionFull = refl
alone_back NoDevice = refl
alone_back LeverThere = refl
alone_back LDown = refl
alone_back RlDown = refl
alone_back LeverReversed = refl
alone_back AnDown = refl
alone_back KpgDown = refl
alone_back RlUp = refl
alone_back NothingUnderWay = refl
alone_back SectionFree = refl
alone_back SignalUnderWay = refl
alone_back AnUp = refl
alone_back ButtonJammed = refl
alone_back ButtonFree = refl

back : (r : Refusal) → refusal_at (number_of_refusal r) ≡ r
unfolding refusal_at
back (Relays alone) = alone_back alone
back CircuitBusy = refl

pub refusal_one : (r r' : Refusal) → number_of_refusal r ≡ number_of_refusal r' → r ≡ r'
refusal_one r r' e = sym (back r) ∙ ap refusal_at e ∙ back r'

-- ---- an outcome whose value, if it has one, is x
module _ {T : Type 0} (x : T) where
  outcome_at : ℕ → Result T Refusal
  outcome_at n = pick (eqb n taken) (Ok x) (Err (refusal_at n))

  refused_alone : (r : relay.Refusal) → outcome_at (number_alone r) ≡ Err (Relays r)
  unfolding outcome_at refusal_at alone_at
  refused_alone NotValid = refl
  refused_alone NoSuchPlace = refl
  refused_alone NoSuchEvent = refl
  refused_alone StampBehind = refl
  refused_alone SessionFull = refl
  refused_alone NoDevice = refl
  refused_alone LeverThere = refl
  refused_alone LDown = refl
  refused_alone RlDown = refl
  refused_alone LeverReversed = refl
  refused_alone AnDown = refl
  refused_alone KpgDown = refl
  refused_alone RlUp = refl
  refused_alone NothingUnderWay = refl
  refused_alone SectionFree = refl
  refused_alone SignalUnderWay = refl
  refused_alone AnUp = refl
  refused_alone ButtonJammed = refl
  refused_alone ButtonFree = refl

  outcome_back : (r : Result T Refusal) → IfOk r (λ y. y ≡ x) → outcome_at (refusal_code r) ≡ r
  unfolding outcome_at refusal_at
  outcome_back (Ok y) e = ap Ok (sym e)
  outcome_back (Err (Relays alone)) _ = refused_alone alone
  outcome_back (Err CircuitBusy) _ = refl

  pub outcome_one : (r r' : Result T Refusal) → IfOk r (λ y. y ≡ x) → IfOk r' (λ y. y ≡ x) → refusal_code r ≡ refusal_code r' → r ≡ r'
  outcome_one r r' h h' e = sym (outcome_back r h) ∙ ap outcome_at e ∙ outcome_back r' h'
