-- An event packed into its word: each field is read from it again, the word has no upper bits, and what unpacking said of a word, by its case. The fields stand side by side, so each is a quotient's remainder.
-- Assumes nothing.
use mathlib.Core.Path.{◌≡◌, refl, sym, ap}
use Prim.Native.Nat.{ℕ, ◌*◌, ◌<◌}
use mathlib.Core.Bool.{true, false}
use mathlib.Core.List.{List, [], ◌∷◌}
use Rattle.std.proofs.Common.{Option, Some, None, IsSome}
use lib.ListN.{get_or}
use native.Mathlib.Omega.{arith}
use Rattle.sheet.specs.Entry.{packed, on_track, number_in, post_in, answer_in, track_in, upper_zero, values_of, unpacked, entry_word}
use Rattle.sheet.specs.Layout.{upper_bits}
use Rattle.sheet.specs.declared.Unpacked.{Unpacked}
use Rattle.relay.proofs.Truth.{split}
use Rattle.sheet.proofs.Fields.{In}

module _ (number post answer track : ℕ) (hn : number < 32) (hp : post < 64) (ha : answer < 32) (ht : track < 2) where
  pub number-packed : number_in (on_track (packed number post answer) track) ≡ number
  unfolding packed on_track number_in
  number-packed = omega arith

  pub post-packed : post_in (on_track (packed number post answer) track) ≡ post
  unfolding packed on_track post_in
  post-packed = omega arith

  pub answer-packed : answer_in (on_track (packed number post answer) track) ≡ answer
  unfolding packed on_track answer_in
  answer-packed = omega arith

  pub track-packed : track_in (on_track (packed number post answer) track) ≡ track
  unfolding packed on_track track_in
  track-packed = omega arith

small : (number post answer track f : ℕ) → number < 32 → post < 64 → answer < 32 → track < f → on_track (packed number post answer) track < f * 65536
unfolding packed on_track
small number post answer track f hn hp ha ht = omega arith

-- 'bits 16 to 31 are zero', or 17 to 31: of a track below f
pub packed-small : (e : List ℕ) (track f : ℕ) → In e → track < f → on_track (entry_word e) track < f * 65536
packed-small e track f i h = small _ _ _ track f i.number i.post i.answer h

-- the two answers differ in their number
apart : {a b c d : ℕ} → (0 ∷ a ∷ b ∷ c ∷ d ∷ []) ≡ (upper_bits ∷ []) → ⊥
apart q = omega (arith, ap (λ (l : List ℕ). get_or l 0 0) q)

-- what unpacking the word w of a sheet of f tracks said, by its case
module _ (f w : ℕ) (r : Option Unpacked) (e : values_of r ≡ unpacked f w) where
  pub told-upper : r ≡ None → upper_zero f w ≡ false
  unfolding unpacked
  told-upper u = split (upper_zero f w) (λ z. absurd (apart (sym (rw (u, z) at e)))) (λ z. z)

  pub told-fields : (u : Unpacked) → r ≡ Some u
      → (upper_zero f w ≡ true) × (u.number ≡ number_in w) × (u.post ≡ post_in w) × (u.answer ≡ answer_in w) × (u.track ≡ track_in w)
  unfolding unpacked
  told-fields u is =
      split (upper_zero f w)
      (λ z. let q : (0 ∷ u.number ∷ u.post ∷ u.answer ∷ u.track ∷ []) ≡ (0 ∷ number_in w ∷ post_in w ∷ answer_in w ∷ track_in w ∷ []) = rw (is, z) at e in
      (z, ap (λ (l : List ℕ). get_or l 1 0) q, ap (λ (l : List ℕ). get_or l 2 0) q, ap (λ (l : List ℕ). get_or l 3 0) q, ap (λ (l : List ℕ). get_or l 4 0) q))
      (λ z. absurd (apart (rw (is, z) at e)))

-- and it hands out the fields where the word has no upper bits
pub told_some : (f w : ℕ) (r : Option Unpacked) → values_of r ≡ unpacked f w → upper_zero f w ≡ true → IsSome r
unfolding unpacked
told_some f w None e z = absurd (apart (sym (rw z at e)))
told_some f w (Some u) e z = refl
