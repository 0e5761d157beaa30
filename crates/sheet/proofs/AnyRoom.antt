-- Reading into rooms that take any sheet, 32 kinds and 3,780 events: refused as the sheet is, or it hands out what the sheet says, at the front of each room.
-- Assumes nothing.
use Prim.Native.Nat.{ℕ, ◌≤◌}
use mathlib.Core.Path.{◌≡◌, refl, sym, ap, ◌∙◌}
use mathlib.Core.Bool.{false}
use mathlib.Core.List.{List}
use native.Mathlib.Omega.{arith}
use borrow.Author.Tests.{eq-eqb, le-leb, eqb-true, eqb-false}
use lib.Dec.{eqb}
use lib.ListN.{length, take, length-append}
use lib.Seq.{take_at}
use Rattle.relay.proofs.Truth.{split}
use Rattle.sheet.specs.Layout.{one_track, two_tracks}
use Rattle.sheet.specs.Check.{word}
use Rattle.sheet.specs.Reading.{form_in, accepted, verdict_up_to, verdict_of, entries_in, decode, decode_tracked, refused, refused_tracks, found, found_tracks, room_for, room_for_tracks, read_of, read_tracks_of, handed, handed_by}
use Rattle.sheet.specs.Sheet.{table_words}
use Rattle.sheet.specs.declared.Found.{Found}
use Rattle.sheet.specs.declared.FoundTracks.{FoundTracks}
use Rattle.sheet.proofs.Table.{words-few}
use Rattle.sheet.proofs.TripRead as tracked
use Rattle.sheet.proofs.Rooms.{posts-few, entries-few, kinds-long, events-long}

module _ (s : List ℕ) where
  accepted-found : (verdict_of s).number ≡ 0 → read_of s 32 3780 ≡ found (decode s)
  unfolding read_of room_for
  accepted-found z =
      rw (eq-eqb (verdict_of s).number 0 z, kinds-long s, events-long s, le-leb (word s 0 1) 32 (posts-few one_track s z), le-leb (entries_in s) 3780 (entries-few one_track s z)) refl

  refused-found : accepted s ≡ false → read_of s 32 3780 ≡ refused (verdict_of s)
  unfolding read_of
  refused-found h = rw h refl

  module _ (r : Found) (e : r ≡ read_of s 32 3780) where
    -- refused: as reading refuses
    pub bad : (r.number ≡ 0 → ⊥) → (accepted s ≡ false) × (r ≡ refused (verdict_of s))
    bad n =
        split (accepted s)
        (λ h. absurd (n (ap (λ (x : Found). x.number) (e ∙ accepted-found (eqb-true _ 0 h)))))
        (λ h. (h, e ∙ refused-found h))

    -- taken: what the sheet says
    pub good : r.number ≡ 0 → ((verdict_of s).number ≡ 0) × (r ≡ found (decode s))
    good z =
        split (accepted s)
        (λ h. (eqb-true _ 0 h, e ∙ accepted-found (eqb-true _ 0 h)))
        (λ h. absurd (eqb-false (verdict_of s).number 0 h (sym (ap (λ (x : Found). x.number) (e ∙ refused-found h)) ∙ z)))

-- what reading hands out stands at the front of its room: n of xs, kinds or events
pub front_by : {X : Type 0} (k : ℕ) → k ≡ 0 → (n : ℕ) (xs room room' : List X) → n ≡ length xs → room' ≡ handed_by k xs room
    → (take n room' ≡ xs) × (n ≤ length room')
front_by k z n xs room room' l f = rw (f, eq-eqb k 0 z, l) (take_at _ _ _ refl, simp length-append (omega arith))

pub front : {X : Type 0} (r : Found) → r.number ≡ 0 → (n : ℕ) (xs room room' : List X) → n ≡ length xs → room' ≡ handed r xs room
    → (take n room' ≡ xs) × (n ≤ length room')
front r z n xs room room' l f = front_by r.number z n xs room room' l f

-- ---- the same of either form, into rooms for 65 words, 3,780 events and their tracks
module _ (s : List ℕ) where
  tracks-found : (verdict_up_to two_tracks s).number ≡ 0 → read_tracks_of s 65 3780 3780 ≡ found_tracks (decode_tracked s)
  unfolding read_tracks_of room_for_tracks
  tracks-found z =
      let few = entries-few two_tracks s z in
      rw (eq-eqb (verdict_up_to two_tracks s).number 0 z, tracked.table-long s, tracked.events-long s, tracked.tracks-long s, le-leb (table_words (form_in s) (word s 0 1)) 65 (words-few s (posts-few two_tracks s z)), le-leb (entries_in s) 3780 few) refl

  tracks-refused : eqb (verdict_up_to two_tracks s).number 0 ≡ false → read_tracks_of s 65 3780 3780 ≡ refused_tracks (verdict_up_to two_tracks s)
  unfolding read_tracks_of
  tracks-refused h = rw h refl

  module _ (r : FoundTracks) (e : r ≡ read_tracks_of s 65 3780 3780) where
    pub bad-tracks : (r.number ≡ 0 → ⊥) → (eqb (verdict_up_to two_tracks s).number 0 ≡ false) × (r ≡ refused_tracks (verdict_up_to two_tracks s))
    bad-tracks n =
        split (eqb (verdict_up_to two_tracks s).number 0)
        (λ h. absurd (n (ap (λ (x : FoundTracks). x.number) (e ∙ tracks-found (eqb-true _ 0 h)))))
        (λ h. (h, e ∙ tracks-refused h))

    pub good-tracks : r.number ≡ 0 → ((verdict_up_to two_tracks s).number ≡ 0) × (r ≡ found_tracks (decode_tracked s))
    good-tracks z =
        split (eqb (verdict_up_to two_tracks s).number 0)
        (λ h. (eqb-true _ 0 h, e ∙ tracks-found (eqb-true _ 0 h)))
        (λ h. absurd (eqb-false (verdict_up_to two_tracks s).number 0 h (sym (ap (λ (x : FoundTracks). x.number) (e ∙ tracks-refused h)) ∙ z)))
