-- Both round trips, over what reading accepts. 00, demand 2: 'A sheet that was written reads back as its table and events. An accepted sheet, read and written again, has the same bytes.'
-- By the facts of a good sheet: what is written has them, and what has them is what is written of what it says.
-- Of a sheet of either form, where sheets of so many tracks are taken: tracked_accepted, tracked_read, tracked_written, tracked_differ. Of one track:
--     written-accepted     a sheet that can be written is accepted once it is written
--     written_read         and says the table, start stamp and events that were written
--     read-written         an accepted sheet, written again from what it says, has the same bytes
--     sheets_differ        two accepted sheets that say the same are the same bytes
-- `Below 256 s` is what a slice of bytes is known to be.
-- Assumes nothing.
use Prim.Native.Nat.{ℕ, ◌≤◌}
use mathlib.Core.Path.{◌≡◌, sym, ap, subst, ◌∙◌}
use mathlib.Core.List.{List}
use native.Mathlib.Omega.{arith}
use lib.ListN.{length}
use Rattle.sheet.specs.Sheet.{Sheet, Tracked, of_one, encode, encode_tracked, blocks_for}
use Rattle.sheet.specs.Layout.{one_track, two_tracks}
use Rattle.sheet.specs.Reading.{blocks_in, verdict_up_to, verdict_of, decode, decode_tracked}
use Rattle.sheet.proofs.Accepts.{accepted-good, good-accepted}
use Rattle.sheet.proofs.Bytes.{Below}
use Rattle.sheet.proofs.Good.{Good}
use Rattle.sheet.proofs.TripRead.{encode-decode, decode_one, encode_one}
use Rattle.sheet.proofs.TripWritten.{written-good, decode-encode, says_one}
use Rattle.sheet.proofs.Writable.{Writable, WritableTracked, writable_one}

-- ---- a sheet of either form, read where sheets of so many tracks are taken
module _ (t : Tracked) (w : WritableTracked t) where
  pub tracked_accepted : (most : ℕ) → t.form ≤ most → (verdict_up_to most (encode_tracked t)).number ≡ 0
  tracked_accepted most h =
      let n = blocks_for (length t.events) in
      let g = written-good t w most h in
      let e : n ≡ blocks_in (length (encode_tracked t)) = omega (arith, g.long) in
      good-accepted most (encode_tracked t) (subst (λ (m : ℕ). Good most m (encode_tracked t)) e g)

  pub tracked_read : decode_tracked (encode_tracked t) ≡ t
  tracked_read = decode-encode t w

module _ (most : ℕ) (fits : most ≤ two_tracks) where
  pub tracked_written : (s : List ℕ) → Below 256 s → (verdict_up_to most s).number ≡ 0 → encode_tracked (decode_tracked s) ≡ s
  tracked_written s small z = encode-decode most (blocks_in (length s)) s (accepted-good most s z) fits small

  pub tracked_differ : (s s' : List ℕ) → Below 256 s → Below 256 s' → (verdict_up_to most s).number ≡ 0 → (verdict_up_to most s').number ≡ 0 → decode_tracked s ≡ decode_tracked s' → s ≡ s'
  tracked_differ s s' small small' z z' e =
      decode_one most (blocks_in (length s)) (blocks_in (length s')) s s' fits (accepted-good most s z) (accepted-good most s' z') small small' e

-- ---- a sheet of one track
module _ (t : Sheet) (w : Writable t) where
  pub written-accepted : (verdict_of (encode t)).number ≡ 0
  unfolding encode
  written-accepted = tracked_accepted (of_one t) (writable_one t w) one_track (omega arith)

  pub written_read : decode (encode t) ≡ t
  written_read = says_one t w

pub read-written : (s : List ℕ) → Below 256 s → (verdict_of s).number ≡ 0 → encode (decode s) ≡ s
read-written s small z = encode_one (blocks_in (length s)) s (accepted-good one_track s z) small

pub sheets_differ : (s s' : List ℕ) → Below 256 s → Below 256 s' → (verdict_of s).number ≡ 0 → (verdict_of s').number ≡ 0 → decode s ≡ decode s' → s ≡ s'
sheets_differ s s' small small' z z' e = sym (read-written s small z) ∙ ap encode e ∙ read-written s' small' z'
