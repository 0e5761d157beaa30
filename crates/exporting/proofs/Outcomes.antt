-- Export by its outcomes: refused as reading refuses, refused for the output, or the register put at its front.
-- Assumes nothing.
use Prim.Native.Nat.{ℕ, ◌+◌, ◌≤◌, ◌<◌}
use mathlib.Core.Path.{◌≡◌, refl}
use mathlib.Core.Bool.{false, not}
use mathlib.Core.List.{List, ◌++◌}
use native.Mathlib.Omega.{arith}
use borrow.Author.Tests.{eq-eqb, lt-ltb, le-ltb, ltb-false}
use lib.Dec.{ltb}
use lib.ListN.{length, drop}
use Rattle.relay.proofs.Truth.{by}
use Rattle.digits.specs.Texts.{stored}
use Rattle.sheet.specs.Layout.{room_short}
use Rattle.sheet.specs.Reading.{accepted, verdict, verdict_of}
use Rattle.exporting.specs.Exporting as spec
use Rattle.exporting.specs.Exporting.{done, text_for, export_of, export_into, Exports}
use Rattle.exporting.specs.declared.Exported.{Exported}

-- ---- the outcomes
-- a text stored at the front
stored-front : (d t : List ℕ) → stored d 0 t ≡ t ++ drop (length t) d
unfolding stored
stored-front d t = let e : 0 + length t ≡ length t = omega arith in rw e refl

module _ (s out : List ℕ) where
  pub exports_unread : accepted s ≡ false → Exports s (spec.refused (verdict_of s)) out out
  unfolding export_of export_into
  exports_unread h = (rw h, rw (h, h))

  module _ (z : (verdict_of s).number ≡ 0) where
    pub exports_short : length out < length (text_for s) → Exports s (spec.refused (verdict room_short 0)) out out
    unfolding export_of export_into
    exports_short h = let a = eq-eqb (verdict_of s).number 0 z in let b = lt-ltb (length out) (length (text_for s)) h in (rw (a, b), rw (a, b))

    pub exports_done : length (text_for s) ≤ length out → Exports s (done (length (text_for s))) out (stored out 0 (text_for s))
    unfolding export_of export_into
    exports_done h =
        let a = eq-eqb (verdict_of s).number 0 z in
        let b = le-ltb (length out) (length (text_for s)) h in
        (rw (a, b), rw (a, b) (stored-front out (text_for s)))

-- no more is written than there is room for
pub export_within : (s : List ℕ) (r : Exported) (out out' : List ℕ) → Exports s r out out' → r.bytes ≤ length out
unfolding export_of
export_within s r out out' x =
    rw x.0 (by (λ (y : Exported). y.bytes ≤ length out) (not (accepted s)) (λ e. omega arith)
    (λ e. by (λ (y : Exported). y.bytes ≤ length out) (ltb (length out) (length (text_for s))) (λ h. omega arith) (λ h. ltb-false (length out) (length (text_for s)) h)))
