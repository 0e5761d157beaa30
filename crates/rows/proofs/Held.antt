-- Two rows that hold lines and blank records past them: an event on either track leaves them so, with the lines that the event leaves. And starting, by its answer.
-- Assumes nothing.
use Prim.Native.Nat.{ℕ, ◌≤◌}
use mathlib.Core.Path.{◌≡◌, refl}
use mathlib.Core.List.{List}
use lib.ListN.{length}
use Rattle.relay.proofs.Frame.{length-stays}
use Rattle.relay.specs.declared.Head.{Head}
use Rattle.relay.specs.declared.Post.{Post}
use Rattle.row.specs.Row.{most, row_of}
use Rattle.row.proofs.Held.{held-line, held_to}
use Rattle.tracks.specs.Circuit.{event_on, event_two}
use Rattle.tracks.proofs.Kept.{on_cases, two_cases}
use Rattle.rows.specs.Rows.{stood_two, event_rows}

-- ---- no event alters how many posts a line has
on-long : (c : ℕ) (l k : List Post) (s : Head) (n i t : ℕ) → length (event_on c l k s n i t).line ≡ length l
on-long c l k s n i t = on_cases (λ a. length a.line ≡ length l) c l k s n i t (λ v r m. length-stays l s n i t) (λ f. refl)

pub two_long : (c : ℕ) (l k : List Post) (s : Head) (track n i t : ℕ)
    → (length (event_two c l k s track n i t).first ≡ length l) × (length (event_two c l k s track n i t).second ≡ length k)
two_long c l k s track n i t =
    two_cases (λ a. (length a.first ≡ length l) × (length a.second ≡ length k)) c l k s track n i t
    (λ z. (on-long c l k s n i t, refl))
    (λ z. (refl, on-long c k l s n i t))
    (λ y z. (refl, refl))

-- ---- an event
module _ (l k : List Post) (few : length l ≤ most) (few' : length k ≤ most) where
  pub held_two : (c : ℕ) (s : Head) (track n i t : ℕ) → event_rows c (row_of l) (row_of k) s track n i t
      ≡ stood_two (event_two c l k s track n i t).told (row_of (event_two c l k s track n i t).first) (row_of (event_two c l k s track n i t).second)
  unfolding event_rows
  held_two c s track n i t =
      let g = two_long c l k s track n i t in
      rw (held-line l few, held-line k few', held_to l few (event_two c l k s track n i t).first g.0, held_to k few' (event_two c l k s track n i t).second g.1) refl
