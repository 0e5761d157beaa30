-- What a call of `export` does: a refusal leaves the output; otherwise the front of the output is a right text of the sheet that was read, and what stood past it stays.
-- Assumes nothing.
use Prim.Native.Nat.{ℕ}
use mathlib.Core.Path.{◌≡◌, refl, sym, ap, ◌∙◌}
use mathlib.Core.List.{List, ◌++◌}
use native.Mathlib.Omega.{arith}
use borrow.Author.Tests.{eq-eqb, ne_eqb, eqb-true, eqb-false}
use lib.Dec.{ltb}
use lib.ListN.{length, take, drop}
use lib.Seq.{take_at}
use Rattle.relay.proofs.Truth.{split}
use Rattle.sheet.specs.Reading.{accepted, verdict_of, decode}
use Rattle.register.specs.Register.{RightText, exported}
use Rattle.register.proofs.Import.{export_right}
use Rattle.exporting.specs.Exporting.{text_for, done, export_of, export_into, Exports}
use Rattle.exporting.specs.declared.Exported.{Exported}

-- a returned 0: the sheet was accepted, and the text fits
well : (s : List ℕ) (m : ℕ) → (export_of s m).number ≡ 0 → ((verdict_of s).number ≡ 0) × (export_of s m ≡ done (length (text_for s)))
unfolding export_of
well s m =
    split (accepted s)
    (λ a. split (ltb m (length (text_for s))) (λ b. rw (a, b) (λ z. absurd (omega arith))) (λ b. rw (a, b) (λ z. (eqb-true _ _ a, refl))))
    (λ a. rw a (λ z. absurd (eqb-false _ _ a z)))

module _ (s : List ℕ) (r : Exported) (out out' : List ℕ) (e : Exports s r out out') where
  number : (export_of s (length out)).number ≡ r.number
  number = sym (ap (λ (x : Exported). x.number) e.0)

  -- a refused export leaves the output as it was
  pub refused_export : (r.number ≡ 0 → ⊥) → out' ≡ out
  unfolding export_into
  refused_export n = e.1 ∙ rw (ne_eqb (export_of s (length out)).number 0 (λ z. n (sym number ∙ z)))

  -- what an export that returned 0 wrote
  pub record Wrote : Type 0 where
    pub accepted : (verdict_of s).number ≡ 0
    pub bytes : r.bytes ≡ length (exported (decode s))
    pub text : take r.bytes out' ≡ exported (decode s)
    pub right : RightText (decode s) (take r.bytes out')
    pub rest : out' ≡ take r.bytes out' ++ drop r.bytes out

  pub export_wrote : r.number ≡ 0 → Wrote
  unfolding export_into
  export_wrote z =
      let w = well s (length out) (number ∙ z) in
      let b : r.bytes ≡ length (text_for s) = ap (λ (x : Exported). x.bytes) (e.0 ∙ w.1) in
      let o : out' ≡ text_for s ++ drop (length (text_for s)) out = e.1 ∙ rw (eq-eqb (export_of s (length out)).number 0 (number ∙ z)) in
      let t : take r.bytes out' ≡ text_for s = rw (b, o) (take_at (text_for s) _ _ refl) in
      record {
        accepted = w.0;
        bytes = b;
        text = t;
        right = rw t (export_right (decode s));
        rest = rw (t, b) o;
      }
