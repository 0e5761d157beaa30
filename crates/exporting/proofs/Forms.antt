-- A good sheet of one track is one of those that are read where two are, and of those the others are of two.
-- Assumes nothing.
use Rattle.std.specs.Prelude.{Result, Ok, Err, is_err}
use Prim.Native.Nat.{ℕ}
use mathlib.Core.Path.{◌≡◌, ap, ◌∙◌}
use mathlib.Core.Bool.{true, false}
use mathlib.Core.List.{List}
use native.Mathlib.Omega.{arith}
use borrow.Author.Tests.{ne_eqb, eqb-false}
use Rattle.relay.proofs.Truth.{equal_or_not}
use Rattle.sheet.specs.Refusals.{verdict_code}
use Rattle.sheet.specs.declared.Verdict.{Verdict}
use Rattle.sheet.specs.declared.refusal.Refusal.{Refusal}
use Rattle.sheet.proofs.Refusals.{refuses, passes_as}
use Rattle.sheet.proofs.Forms.{good_too, taken_too, says-most}
use Rattle.sheet.proofs.Rooms.{form_one}
use Rattle.sheet.specs.Layout.{one_track, two_tracks}
use Rattle.sheet.specs.Reading.{form_in, verdict_up_to, verdict_of, accepted}

module _ (s : List ℕ) where
  -- a good sheet of one track is not of two, and is read where two are; and of those read there, one that is not of two is that
  pub not_two : (verdict_of s).number ≡ 0 → form_in s ≡ two_tracks → ⊥
  not_two z e = omega (arith, e, form_one s z)

  pub good_one : (verdict_of s).number ≡ 0 → (verdict_up_to two_tracks s).number ≡ 0
  good_one z = taken_too s z

  pub one_good : (verdict_up_to two_tracks s).number ≡ 0 → (form_in s ≡ two_tracks → ⊥) → (verdict_of s).number ≡ 0
  one_good z n = good_too s two_tracks one_track (let h = says-most s two_tracks z in omega arith) z

  -- of those, one that is not good as a sheet of one track is of two
  pub two_left : (verdict_up_to two_tracks s).number ≡ 0 → accepted s ≡ false → form_in s ≡ two_tracks
  two_left z a = equal_or_not (form_in s) two_tracks (λ e. e) (λ n. absurd (eqb-false (verdict_of s).number 0 a (one_good z n)))

  -- what testing said of a sheet of one track
  pub one_refused : {T : Type 0} (r : Result T Refusal) → verdict_code r ≡ verdict_of s → is_err r ≡ true → accepted s ≡ false
  one_refused (Ok x) v e = absurd (cc)
  one_refused (Err refusal) v e = ne_eqb _ 0 (λ z. refuses refusal (ap (λ (w : Verdict). w.number) v ∙ z))

  pub one_passes : {T : Type 0} (r : Result T Refusal) → verdict_code r ≡ verdict_of s → is_err r ≡ false → (verdict_of s).number ≡ 0
  one_passes (Ok x) v e = passes_as (verdict_of s) v
  one_passes (Err refusal) v e = absurd (cc)
