-- A sheet of one track is asked as it was before there were two: every event is on its one track, and what stands after its events is what stands in the run of one track, with no line beside it.
-- Assumes nothing.
use Prim.Native.Nat.{ℕ, ◌-◌}
use mathlib.Core.Path.{◌≡◌, refl}
use mathlib.Core.List.{List, []}
use native.Mathlib.Omega.{arith}
use lib.ListN.{take}
use Rattle.sheet.specs.Layout.{one_track, two_tracks}
use Rattle.sheet.specs.Reading.{form_in, verdict_of, decode, decode_tracked}
use Rattle.sheet.specs.Sheet.{circuit_of}
use Rattle.tracks.specs.Circuit.{beside}
use Rattle.working.proofs.OneTrack.{one_run, one, table_one, stamp_one, events_one}
use Rattle.sheet.proofs.Forms.{on-track, same_reading}
use Rattle.working.specs.Run.{begun, run, begun_by}
use Rattle.why.specs.Why.{track_at, state_after, since_up_to, since_of, since_tracks_of}

-- any sheet that does not say 2, good or bad, gets the answer that it got
pub same_since : (s : List ℕ) (k : ℕ) → (form_in s ≡ two_tracks → ⊥) → since_tracks_of s k ≡ since_of s k
unfolding since_up_to
same_since s k n = rw (same_reading s n) refl

module _ (s : List ℕ) (z : (verdict_of s).number ≡ 0) where
  -- every event is on its one track
  pub track_one : (k : ℕ) → track_at (decode_tracked s) k ≡ 0
  track_one k = omega (arith, one s z, on-track one_track (omega arith) s z (k - 1))

  -- what stands after the first i events, answer, head and line, is what stands in the run of one track
  pub state_one : (i : ℕ) → state_after (decode_tracked s) i ≡ beside (run (begun (decode s).kinds (decode s).stamp) (take i (decode s).events)) []
  unfolding begun_by
  state_one i =
      rw (one s z, table_one s z, stamp_one s z, events_one s z)
      (one_run (circuit_of (decode s).kinds) (begun (decode s).kinds (decode s).stamp) [] (decode s).events (decode_tracked s).tracks i)
