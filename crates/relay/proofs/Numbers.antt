-- No refusal has the number that says 'taken', no two have one number, and so an outcome's number says which outcome it is.
-- Assumes nothing.
use Prim.Native.Nat.{ℕ}
use mathlib.Core.Path.{◌≡◌, refl, sym, ap, ◌∙◌}
use native.Mathlib.Omega.{arith}
use Rattle.std.specs.Prelude.{Result, Ok, Err, IfOk, eqb}
use Rattle.relay.specs.Answers.{taken, notValid, noSuchPlace, noSuchEvent, stampBehind, sessionFull, noDevice, leverThere, lDown, rlDown, leverReversed, anDown, kpgDown, rlUp, nothingUnderWay, sectionFree, signalUnderWay, anUp, buttonJammed}
use Rattle.relay.specs.Choice.{pick}
use Rattle.relay.specs.Numbers.{number_of_refusal, refusal_code}
use Rattle.relay.specs.declared.refusal.Refusal.{Refusal}
use Rattle.relay.specs.declared.refusal.Refusal.TheVariants.{NotValid, NoSuchPlace, NoSuchEvent, StampBehind, SessionFull, NoDevice, LeverThere, LDown, RlDown, LeverReversed, AnDown, KpgDown, RlUp, NothingUnderWay, SectionFree, SignalUnderWay, AnUp, ButtonJammed, ButtonFree}

pub some : (r : Refusal) → number_of_refusal r ≡ 0 → ⊥
some NotValid e = omega (arith, e)
some NoSuchPlace e = omega (arith, e)
some NoSuchEvent e = omega (arith, e)
some StampBehind e = omega (arith, e)
some SessionFull e = omega (arith, e)
some NoDevice e = omega (arith, e)
some LeverThere e = omega (arith, e)
some LDown e = omega (arith, e)
some RlDown e = omega (arith, e)
some LeverReversed e = omega (arith, e)
some AnDown e = omega (arith, e)
some KpgDown e = omega (arith, e)
some RlUp e = omega (arith, e)
some NothingUnderWay e = omega (arith, e)
some SectionFree e = omega (arith, e)
some SignalUnderWay e = omega (arith, e)
some AnUp e = omega (arith, e)
some ButtonJammed e = omega (arith, e)
some ButtonFree e = omega (arith, e)

-- the refusal that a number is of; another number says nothing
unfoldable pub refusal_at : ℕ → Refusal
refusal_at n =
    pick (eqb n notValid) NotValid (
    pick (eqb n noSuchPlace) NoSuchPlace (
    pick (eqb n noSuchEvent) NoSuchEvent (
    pick (eqb n stampBehind) StampBehind (
    pick (eqb n sessionFull) SessionFull (
    pick (eqb n noDevice) NoDevice (
    pick (eqb n leverThere) LeverThere (
    pick (eqb n lDown) LDown (
    pick (eqb n rlDown) RlDown (
    pick (eqb n leverReversed) LeverReversed (
    pick (eqb n anDown) AnDown (
    pick (eqb n kpgDown) KpgDown (
    pick (eqb n rlUp) RlUp (
    pick (eqb n nothingUnderWay) NothingUnderWay (
    pick (eqb n sectionFree) SectionFree (
    pick (eqb n signalUnderWay) SignalUnderWay (
    pick (eqb n anUp) AnUp (
    pick (eqb n buttonJammed) ButtonJammed (
    ButtonFree))))))))))))))))))

back : (r : Refusal) → refusal_at (number_of_refusal r) ≡ r
unfolding refusal_at
back NotValid = refl
back NoSuchPlace = refl
back NoSuchEvent = refl
back StampBehind = refl
back SessionFull = refl
back NoDevice = refl
back LeverThere = refl
back LDown = refl
back RlDown = refl
back LeverReversed = refl
back AnDown = refl
back KpgDown = refl
back RlUp = refl
back NothingUnderWay = refl
back SectionFree = refl
back SignalUnderWay = refl
back AnUp = refl
back ButtonJammed = refl
back ButtonFree = refl

pub refusal_one : (r r' : Refusal) → number_of_refusal r ≡ number_of_refusal r' → r ≡ r'
refusal_one r r' e = sym (back r) ∙ ap refusal_at e ∙ back r'

-- ---- an outcome whose value, if it has one, is x
module _ {T : Type 0} (x : T) where
  outcome_at : ℕ → Result T Refusal
  outcome_at n = pick (eqb n taken) (Ok x) (Err (refusal_at n))

  refused_back : (r : Refusal) → outcome_at (number_of_refusal r) ≡ Err r
  unfolding outcome_at refusal_at
  refused_back NotValid = refl
  refused_back NoSuchPlace = refl
  refused_back NoSuchEvent = refl
  refused_back StampBehind = refl
  refused_back SessionFull = refl
  refused_back NoDevice = refl
  refused_back LeverThere = refl
  refused_back LDown = refl
  refused_back RlDown = refl
  refused_back LeverReversed = refl
  refused_back AnDown = refl
  refused_back KpgDown = refl
  refused_back RlUp = refl
  refused_back NothingUnderWay = refl
  refused_back SectionFree = refl
  refused_back SignalUnderWay = refl
  refused_back AnUp = refl
  refused_back ButtonJammed = refl
  refused_back ButtonFree = refl

  outcome_back : (r : Result T Refusal) → IfOk r (λ y. y ≡ x) → outcome_at (refusal_code r) ≡ r
  unfolding outcome_at
  outcome_back (Ok y) e = ap Ok (sym e)
  outcome_back (Err refusal) _ = refused_back refusal

  pub outcome_one : (r r' : Result T Refusal) → IfOk r (λ y. y ≡ x) → IfOk r' (λ y. y ≡ x) → refusal_code r ≡ refusal_code r' → r ≡ r'
  outcome_one r r' h h' e = sym (outcome_back r h) ∙ ap outcome_at e ∙ outcome_back r' h'
