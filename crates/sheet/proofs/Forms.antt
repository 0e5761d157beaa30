-- A good sheet where sheets of so many tracks are taken: its form, the tracks of its events, and that it is good wherever its own form is taken. And of any sheet, good or not, that does not say 2: that it is read as one of one track.
-- Assumes nothing.
use Prim.Native.Nat.{ℕ, zero, suc, ◌+◌, ◌≤◌, ◌<◌}
use mathlib.Core.Path.{◌≡◌, refl}
use mathlib.Core.List.{List}
use native.Mathlib.Omega.{arith}
use borrow.Author.Tests.{le-leb, lt-leb}
use lib.Dec.{eqb}
use lib.ListN.{length, get_or}
use Rattle.relay.proofs.Truth.{facts, and_facts, least_or_below}
use Rattle.sheet.proofs.Accepts.{accepted-good, good-accepted}
use Rattle.sheet.proofs.Fields.{below_at}
use Rattle.sheet.proofs.Rooms.{form_one}
use Rattle.sheet.proofs.TripRead.{form_is, said-form, said-tracks}
use Rattle.sheet.specs.Layout.{one_track, two_tracks}
use Rattle.sheet.specs.Reading.{form_in, form_ok, head_ok, first_bad, blocks_in, verdict_up_to, verdict_of, decode_tracked}
use Rattle.sheet.specs.Writing.{all_below, tracks_fit}

-- a good sheet stays good where sheets of more or of fewer tracks are taken, its own among them
pub good_too : (s : List ℕ) (most other : ℕ) → form_in s ≤ other → (verdict_up_to most s).number ≡ 0 → (verdict_up_to other s).number ≡ 0
unfolding form_ok
good_too s most other h z =
    let g = accepted-good most s z in
    let f = simp facts at g.first in
    good-accepted other s (record {
      some = g.some;
      most = g.most;
      long = g.long;
      sums = g.sums;
      first = rw (le-leb 1 (form_in s) f.0, le-leb (form_in s) other h) refl;
      table = g.table;
      rest = g.rest;
      few = g.few;
      many = g.many;
      full = g.full;
      fields = g.fields;
      zero = g.zero;
    })

-- a sheet of one track is one of two at the most
pub taken_too : (s : List ℕ) → (verdict_up_to one_track s).number ≡ 0 → (verdict_up_to two_tracks s).number ≡ 0
taken_too s z = good_too s one_track two_tracks (omega (arith, form_one s z)) z

-- ---- a sheet that does not say that it is of two tracks
-- word 0 of block 0 is tested alike, unless it is a 2
same_form : (s : List ℕ) → (form_in s ≡ two_tracks → ⊥) → form_ok two_tracks (form_in s) ≡ form_ok one_track (form_in s)
unfolding form_ok
same_form s n =
    least_or_below (form_in s) 1
    (λ h. rw (le-leb (form_in s) 1 h, le-leb (form_in s) 2 (omega arith)))
    (λ h. rw (lt-leb (form_in s) 1 h, lt-leb (form_in s) 2 (omega arith)))

same_bad : (s : List ℕ) → (form_in s ≡ two_tracks → ⊥) → (n b m : ℕ) → first_bad two_tracks s n b m ≡ first_bad one_track s n b m
unfolding first_bad head_ok
same_bad s e n b zero = refl
same_bad s e n b (suc m) = rw (same_form s e, same_bad s e n (b + 1) m) refl

-- 'One-track calls, sheets and listings stay as they are', refused ones too: reading says of it, where two tracks are taken, what it says where one is
pub same_reading : (s : List ℕ) → (form_in s ≡ two_tracks → ⊥) → verdict_up_to two_tracks s ≡ verdict_of s
unfolding verdict_up_to
same_reading s e = rw (same_bad s e (blocks_in (length s)) 0 (blocks_in (length s))) refl

-- ---- a good sheet
-- it is of no more tracks than are taken
pub says-most : (s : List ℕ) (most : ℕ) → (verdict_up_to most s).number ≡ 0 → form_in s ≤ most
unfolding form_ok
says-most s most z = (simp facts at (accepted-good most s z).first).1

module _ (most : ℕ) (fits : most ≤ two_tracks) (s : List ℕ) (z : (verdict_up_to most s).number ≡ 0) where
  form_facts : (1 ≤ (decode_tracked s).form) × ((decode_tracked s).form ≤ 2)
  unfolding form_ok
  form_facts = simp facts at (said-form most (blocks_in (length s)) s (accepted-good most s z) fits)

  -- it is of one track or of two
  pub form_two : (decode_tracked s).form ≤ 2
  form_two = form_facts.1

  -- of no more than are taken
  pub form-most : (decode_tracked s).form ≤ most
  form-most = rw (form_is s) (says-most s most z)

  -- and each event is on one of its tracks
  pub on-track : (i : ℕ) → get_or (decode_tracked s).tracks i 0 < (decode_tracked s).form
  unfolding tracks_fit
  on-track i =
      let d = decode_tracked s in
      let f = (and_facts (eqb (length d.tracks) (length d.events)) (all_below d.form d.tracks)).0 (said-tracks most (blocks_in (length s)) s (accepted-good most s z) fits) in
      below_at d.form d.tracks f.1 (omega (arith, form_facts.0)) i
