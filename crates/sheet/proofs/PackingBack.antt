-- An event comes back from its word, its stamp and its track, and a word from its event and its track. The fields stand side by side, so each is a quotient's remainder.
-- Assumes nothing.
use mathlib.Core.Path.{◌≡◌}
use Prim.Native.Nat.{ℕ, ◌+◌, ◌*◌, ◌/◌, ◌%◌, ◌≤◌, ◌<◌}
use mathlib.Core.List.{List, [], ◌∷◌}
use lib.ListN.{length}
use native.Mathlib.Omega.{arith}
use Rattle.sheet.specs.Entry.{packed, on_track, number_in, post_in, answer_in, track_in, entry_word, entry_of, stamp_of}
use Rattle.sheet.proofs.Fields.{In}
use Rattle.sheet.proofs.Packing.{number-packed, post-packed, answer-packed, track-packed}

-- an event of four numbers comes back from its word and its stamp, and so does its track
pub entry-back : (e : List ℕ) (track : ℕ) → length e ≡ 4 → In e → track < 2 → entry_of (on_track (entry_word e) track) (stamp_of e) ≡ e
entry-back [] k l f h = absurd (omega arith)
entry-back (a ∷ []) k l f h = absurd (omega arith)
entry-back (a ∷ b ∷ []) k l f h = absurd (omega arith)
entry-back (a ∷ b ∷ c ∷ []) k l f h = absurd (omega arith)
entry-back (a ∷ b ∷ c ∷ d ∷ x ∷ r) k l f h = absurd (omega arith)
entry-back (a ∷ b ∷ c ∷ d ∷ []) k l f h =
    let hn = f.number in
    let hp = f.post in
    let ha = f.answer in
    rw (number-packed a b c k hn hp ha h, post-packed a b c k hn hp ha h, answer-packed a b c k hn hp ha h)

pub track-back : (e : List ℕ) (track : ℕ) → In e → track < 2 → track_in (on_track (entry_word e) track) ≡ track
track-back e track f h = track-packed _ _ _ track f.number f.post f.answer h

-- and a word from its event and its track
pub word_back : (f w t : ℕ) → f ≤ 2 → w < f * 65536 → on_track (entry_word (entry_of w t)) (track_in w) ≡ w
unfolding packed on_track number_in post_in answer_in track_in
word_back f w t k h =
    digits w (w % 32) (w / 32) (w / 32 % 64) (w / 2048) (w / 2048 % 32) (w / 65536) (w / 65536 % 2)
    (omega arith) (omega arith) (omega arith) (omega arith)
  where
    digits : (w a x b y c z d : ℕ) → w ≡ x * 32 + a → x ≡ y * 64 + b → y ≡ z * 32 + c → z ≡ d → a + b * 32 + c * 2048 + d * 65536 ≡ w
    digits w a x b y c z d p q r s = omega arith

-- a track is one of the sheet's
pub track-small : (f w : ℕ) → w < f * 65536 → track_in w < f
unfolding track_in
track-small f w h = omega arith
