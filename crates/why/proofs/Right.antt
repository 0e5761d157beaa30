-- A sheet's answers are those of working its events exactly when each event has the one that it gets from the lines as the events before it left them. Of one track or of two: the events have their tracks behind them, and c is the circuit.
-- Assumes nothing.
use Prim.Native.Nat.{ℕ, zero, suc, ◌<◌}
use mathlib.Core.Path.{◌≡◌, refl, sym}
use mathlib.Core.Logic.{◌↔◌}
use mathlib.Core.Bool.{true, false, and-false, false≢true}
use mathlib.Core.List.{List, [], ◌∷◌}
use native.Mathlib.Omega.{arith}
use borrow.Author.Tests.{eq-eqb, ne_eqb, eqb-true, eqb-false}
use lib.Dec.{eqb}
use lib.ListN.{length, get_or, take}
use Rattle.relay.proofs.Truth.{and_facts, nand_facts, split}
use Rattle.sheet.specs.Entry.{answer_of}
use Rattle.tracks.specs.Circuit.{AfterTwo}
use Rattle.working.specs.Run.{next_by, run_by}
use Rattle.why.specs.Why.{right_answers}

-- event i has the answer that working gives it
abbrev pub Right : ℕ → ℕ → AfterTwo → List (List ℕ) → ℕ → Type 0
Right form c a es i = answer_of (get_or es i []) ≡ (next_by form c (run_by form c a (take i es)) (get_or es i [])).told.answer

module _ (form c : ℕ) where
  right_at : (a : AfterTwo) (es : List (List ℕ)) → right_answers form c a es ≡ true → (i : ℕ) → i < length es → Right form c a es i
  unfolding right_answers run_by
  right_at a [] r i h = absurd (omega (arith, h))
  right_at a (e ∷ es) r zero h = eqb-true (answer_of e) (next_by form c a e).told.answer ((and_facts (eqb (answer_of e) (next_by form c a e).told.answer) (right_answers form c (next_by form c a e) es)).0 r).0
  right_at a (e ∷ es) r (suc i) h =
      right_at (next_by form c a e) es ((and_facts (eqb (answer_of e) (next_by form c a e).told.answer) (right_answers form c (next_by form c a e) es)).0 r).1 i (omega arith)

  right_all : (a : AfterTwo) (es : List (List ℕ)) → ((i : ℕ) → i < length es → Right form c a es i) → right_answers form c a es ≡ true
  unfolding right_answers run_by
  right_all a [] f = refl
  right_all a (e ∷ es) f =
      rw (eq-eqb (answer_of e) (next_by form c a e).told.answer (f 0 (omega arith))) (right_all (next_by form c a e) es (λ i h. f (suc i) (omega arith)))

  pub right_iff : (a : AfterTwo) (es : List (List ℕ)) → (right_answers form c a es ≡ true) ↔ ((i : ℕ) → i < length es → Right form c a es i)
  right_iff a es = (right_at a es, right_all a es)

  -- one event with another answer, and where the answers are not right there is one
  pub wrong_at : (a : AfterTwo) (es : List (List ℕ)) (i : ℕ) → i < length es → (Right form c a es i → ⊥) → right_answers form c a es ≡ false
  unfolding right_answers run_by
  wrong_at a [] i h n = absurd (omega (arith, h))
  wrong_at a (e ∷ es) zero h n = rw (ne_eqb (answer_of e) (next_by form c a e).told.answer n)
  wrong_at a (e ∷ es) (suc i) h n = rw (wrong_at (next_by form c a e) es i (omega arith) n) (and-false (eqb (answer_of e) (next_by form c a e).told.answer))

  pub wrong-some : (a : AfterTwo) (es : List (List ℕ)) → right_answers form c a es ≡ false → (i : ℕ) × ((i < length es) × (Right form c a es i → ⊥))
  unfolding right_answers run_by
  wrong-some a [] r = absurd (false≢true (sym r))
  wrong-some a (e ∷ es) r =
      split (eqb (answer_of e) (next_by form c a e).told.answer)
      (λ z.
      let w = wrong-some (next_by form c a e) es ((nand_facts (eqb (answer_of e) (next_by form c a e).told.answer) (right_answers form c (next_by form c a e) es)).0 r z) in
      (suc w.0, (omega (arith, w.1.0), w.1.1)))
      (λ z. (0, (omega arith, eqb-false (answer_of e) (next_by form c a e).told.answer z)))
