-- Reading a sheet of either form into lent room, by its outcomes: a refusal leaves the three rooms, and a good sheet with room enough hands out its table, its events and their tracks.
-- Assumes nothing.
use Prim.Native.Nat.{ℕ, ◌+◌}
use mathlib.Core.Path.{◌≡◌, refl, ◌∙◌}
use mathlib.Core.Bool.{Bool, true, false, ◌&&◌}
use mathlib.Core.List.{List, ◌++◌}
use borrow.Author.Tests.{eq-eqb, ne_eqb}
use lib.Dec.{eqb, leb}
use lib.ListN.{length, drop}
use Rattle.sheet.specs.Layout.{two_tracks, room_short}
use Rattle.sheet.specs.Words.{tab}
use Rattle.sheet.specs.Check.{word}
use Rattle.sheet.specs.Sheet.{table_words}
use Rattle.sheet.specs.Reading.{form_in, verdict, verdict_up_to, entries_in, entry_in, track_on, decode_tracked, refused_tracks, found_tracks, room_for_tracks, read_tracks_of, ReadsTracks}
use Rattle.sheet.specs.declared.Verdict.{Verdict}
use Rattle.sheet.proofs.TripRead.{form_is, stamp_is, table-long, events-long, tracks-long, posts-words}

assoc : (a b c : Bool) → (a && (b && c)) ≡ ((a && b) && c)
assoc true b c = refl
assoc false b c = refl

-- ---- what a sheet says
module _ (s : List ℕ) where
  abbrev words : ℕ
  words = table_words (form_in s) (word s 0 1)

  pub found_is : found_tracks (decode_tracked s) ≡ record { number = 0; block = 0; position = 0; tracks = form_in s; posts = word s 0 1; stamp = word s 0 2; events = entries_in s }
  found_is = rw (form_is s, table-long s, posts-words (form_in s) (word s 0 1), stamp_is s, events-long s) refl

  pub room_is : (a b c : ℕ) → room_for_tracks (decode_tracked s) a b c ≡ (leb words a && (leb (entries_in s) b && leb (entries_in s) c))
  unfolding room_for_tracks
  room_is a b c = rw (table-long s, events-long s, tracks-long s) refl

  pub room_parts : (a b c : ℕ) → room_for_tracks (decode_tracked s) a b c ≡ ((leb words a && leb (entries_in s) b) && leb (entries_in s) c)
  room_parts a b c = room_is a b c ∙ assoc (leb words a) (leb (entries_in s) b) (leb (entries_in s) c)

  -- what the loops store is what is handed out
  pub table_out : (ks : List ℕ) → tab (λ i. word s 0 (3 + i)) words ++ drop words ks ≡ (decode_tracked s).table ++ drop (length (decode_tracked s).table) ks
  unfolding decode_tracked
  table_out ks = rw (table-long s) refl

  pub events_out : (es : List (List ℕ)) → tab (entry_in s) (entries_in s) ++ drop (entries_in s) es ≡ (decode_tracked s).events ++ drop (length (decode_tracked s).events) es
  unfolding decode_tracked
  events_out es = rw (events-long s) refl

  pub tracks_out : (ts : List ℕ) → tab (track_on s) (entries_in s) ++ drop (entries_in s) ts ≡ (decode_tracked s).tracks ++ drop (length (decode_tracked s).tracks) ts
  unfolding decode_tracked
  tracks_out ts = rw (tracks-long s) refl

-- ---- the outcomes
module _ (s : List ℕ) (ks : List ℕ) (es : List (List ℕ)) (ts : List ℕ) where
  pub read-refused : (v : Verdict) → v ≡ verdict_up_to two_tracks s → (v.number ≡ 0 → ⊥) → ReadsTracks s (refused_tracks v) ks ks es es ts ts
  unfolding read_tracks_of
  read-refused v e h = let no : eqb v.number 0 ≡ false = ne_eqb v.number 0 h in (rw (← e, no), rw no, rw no, rw no)

  module _ (z : (verdict_up_to two_tracks s).number ≡ 0) where
    pub read_short : room_for_tracks (decode_tracked s) (length ks) (length es) (length ts) ≡ false → ReadsTracks s (refused_tracks (verdict room_short 0)) ks ks es es ts ts
    unfolding read_tracks_of
    read_short e = (rw (eq-eqb (verdict_up_to two_tracks s).number 0 z, e), refl, refl, refl)

    pub read_found : room_for_tracks (decode_tracked s) (length ks) (length es) (length ts) ≡ true
        → ReadsTracks s (found_tracks (decode_tracked s)) ks ((decode_tracked s).table ++ drop (length (decode_tracked s).table) ks) es ((decode_tracked s).events ++ drop (length (decode_tracked s).events) es) ts ((decode_tracked s).tracks ++ drop (length (decode_tracked s).tracks) ts)
    unfolding read_tracks_of
    read_found e = (rw (eq-eqb (verdict_up_to two_tracks s).number 0 z, e), refl, refl, refl)
