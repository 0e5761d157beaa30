-- `desk work` into `desk why`: the line printed of the event named is a line of the listing that `desk` alone prints of the same sheet.
-- Assumes nothing.
use Prim.Native.Nat.{ℕ, ◌+◌, ◌-◌, ◌<◌}
use mathlib.Core.Path.{◌≡◌, refl, ap, ◌∙◌}
use mathlib.Core.List.{List}
use native.Mathlib.Omega.{arith}
use lib.ListN.{length}
use Rattle.sheet.proofs.Bytes.{Below}
use Rattle.sheet.proofs.Trips.{tracked_read}
use Rattle.sheet.specs.Layout.{two_tracks}
use Rattle.sheet.specs.Reading.{verdict_up_to, decode_tracked}
use Rattle.sheet.specs.Sheet.{Tracked, encode_tracked}
use Rattle.working.proofs.Both.{marked_at}
use Rattle.working.specs.Run.{marked}
use Rattle.working.specs.Working.{worked_tracked}
use Rattle.listing.proofs.Numbered.{event_text as lineText}
use Rattle.why.proofs.Named.{since-within}
use Rattle.why.proofs.Worked.{worked-writable}
use Rattle.why.specs.Why.{since_tracks_of}
use Rattle.desk.specs.Text.{event_text, since_text}
use Rattle.desk.proofs.Texts.{text-event}

-- the events of a sheet with their tracks, as the listing takes them
abbrev events : Tracked → List (List ℕ)
events t = marked t.events t.tracks

-- line j of the listing, of which the first is line 1
at_line : (t : Tracked) (j : ℕ) → (j ≡ 0 → ⊥) → j - 1 < length t.events → event_text t j ≡ lineText t.form (events t) (j - 1)
at_line t j n h = let same : j - 1 + 1 ≡ j = omega (arith, n) in rw (same, marked_at t.events t.tracks (j - 1) h) refl

-- by `listing-lines` and `lines-joined` the listing of s is these lines, one after the other, and then those of its sections
module _ (s : List ℕ) (small : Below 256 s) (z : (verdict_up_to two_tracks s).number ≡ 0) where
  abbrev t : Tracked
  t = worked_tracked (decode_tracked s)

  back : decode_tracked (encode_tracked t) ≡ t
  back = tracked_read t (worked-writable two_tracks (omega arith) s small z)

  pub piped : (k : ℕ) → (since_tracks_of (encode_tracked t) k).number ≡ 0 → ((since_tracks_of (encode_tracked t) k).position ≡ 0 → ⊥)
      → since_text (encode_tracked t) k ≡ lineText t.form (events t) ((since_tracks_of (encode_tracked t) k).position - 1)
  piped k e n =
      let w = encode_tracked t in
      let j = (since_tracks_of w k).position in
      let within = since-within two_tracks (omega arith) w k e in
      text-event w k (since_tracks_of w k) refl e n
      ∙ ap (λ (x : Tracked). event_text x j) back
      ∙ at_line t j n (omega (arith, within.0, within.1, n, ap (λ (x : Tracked). length x.events) back))
