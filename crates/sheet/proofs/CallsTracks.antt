-- What a refused call on a sheet of either form leaves, and both round trips, as the calls say them. 00, demand 1: 'A refused sheet or write leaves the lent output unaltered.' Demand 2: 'A sheet that was written reads back as its table and events. An accepted sheet, read and written again, has the same bytes.'
-- As in proofs/Calls.antt for one track: what writing stores is the sheet's bytes, which are accepted and say the sheet; what reading hands out is what the sheet says, which is written as its bytes.
-- Assumes nothing.
use Prim.Native.Nat.{ℕ, ◌^◌, ◌≤◌, ◌<◌}
use mathlib.Core.Path.{◌≡◌, refl, sym, ap, ◌∙◌}
use mathlib.Core.Bool.{true}
use mathlib.Core.List.{List, ◌++◌}
use native.Mathlib.Omega.{arith}
use borrow.Author.Tests.{ne_eqb, eqb-true, eqb-false, le-leb, leb-true}
use lib.Dec.{eqb, leb}
use lib.ListN.{length, take, drop}
use lib.Seq.{take_at}
use Rattle.relay.proofs.Truth.{split}
use Rattle.sheet.specs.Entry.{stamp_of}
use Rattle.sheet.specs.Layout.{most_entries, two_tracks}
use Rattle.sheet.specs.Reading.{form_ok, table_fits, blocks_in, verdict_up_to, decode_tracked, found_tracks, room_for_tracks, read_tracks_of, ReadsTracks}
use Rattle.sheet.specs.Sheet.{Tracked, table_words, posts_of, entry_at, encode_tracked}
use Rattle.sheet.specs.Writing.{all_in_fields, tracks_fit, may_start, all_fit, bytes_for, size_number, tracked_number, leaves, WritesTracked}
use Rattle.sheet.specs.declared.FoundTracks.{FoundTracks}
use Rattle.sheet.proofs.Accepts.{accepted-good}
use Rattle.sheet.proofs.Along.{both}
use Rattle.sheet.proofs.Bytes.{Below}
use Rattle.sheet.proofs.Calls.{Out}
use Rattle.sheet.proofs.Laid.{passes, wrote}
use Rattle.sheet.proofs.One.{read-tracks_one, write_tracks_one}
use Rattle.sheet.proofs.Rooms.{bytes_are}
use Rattle.sheet.proofs.RoomsTracks.{read_found}
use Rattle.sheet.proofs.TripRead.{decoded_tracked, events-long}
use Rattle.sheet.proofs.TripWritten.{written-good, words-posts}
use Rattle.sheet.proofs.Trips.{tracked_accepted, tracked_read, tracked_written}
use Rattle.sheet.proofs.Writable.{WritableTracked, form-few, tracks-long, gate}

-- ---- refused
-- a refused write leaves the output as it was
pub refused_write : (t : Tracked) (r : ℕ) (out out' : List ℕ) → WritesTracked t r out out' → (r ≡ 0 → ⊥) → out' ≡ out
unfolding leaves
refused_write t r out out' w n = w.1 ∙ rw (ne_eqb r 0 n)

-- a refused reading leaves the three rooms as they were
pub refused-read : (s : List ℕ) (f : FoundTracks) (ks ks' : List ℕ) (es es' : List (List ℕ)) (ts ts' : List ℕ) → ReadsTracks s f ks ks' es es' ts ts' → (f.number ≡ 0 → ⊥)
    → (ks' ≡ ks) × (es' ≡ es) × (ts' ≡ ts)
refused-read s f ks ks' es es' ts ts' q n = let z = ne_eqb f.number 0 n in (q.1 ∙ rw z, q.2 ∙ rw z, q.3 ∙ rw z)

-- ---- what the numbers of a sheet are by the types of what is lent to be written
pub record TypedTracks (t : Tracked) : Type 0 where
  pub stamp : t.stamp < 2 ^ 32
  pub words : Below (2 ^ 32) t.table
  pub four : (i : ℕ) → i < length t.events → length (entry_at t i) ≡ 4
  pub stamps : (i : ℕ) → i < length t.events → stamp_of (entry_at t i) < 2 ^ 32

-- a sheet that writing took can be written
pub took : (t : Tracked) (m : ℕ) → TypedTracks t → tracked_number t m ≡ 0 → WritableTracked t
unfolding tracked_number size_number
took t m y e =
    let a = gate (may_start t) 0 _ e in
    let b = gate (all_fit t) 19 _ a.1 in
    let c = gate (leb (length t.events) most_entries) 17 _ b.1 in
    let start = both (form_ok two_tracks t.form) (table_fits t.form t.table) a.0 in
    let fit = both (all_in_fields t.events) (tracks_fit t.form (length t.events) t.tracks) b.0 in
    record {
      form = start.0;
      table = start.1;
      fields = fit.0;
      tracks = fit.1;
      most = leb-true (length t.events) most_entries c.0;
      stamp = y.stamp;
      words = y.words;
      four = y.four;
      stamps = y.stamps;
    }

-- ---- written, then read
module _ (t : Tracked) (typed : TypedTracks t) where
  module _ (r : ℕ) (out out' : List ℕ) (w : WritesTracked t r out out') (z : r ≡ 0) where
    writable : WritableTracked t
    writable = took t (length out) typed (sym w.0 ∙ z)

    bytes : take (bytes_for (length t.events)) out' ≡ encode_tracked t
    unfolding leaves
    bytes =
        let e : out' ≡ encode_tracked t ++ drop (bytes_for (length t.events)) out = w.1 ∙ rw z in
        ap (take (bytes_for (length t.events))) e ∙ take_at (encode_tracked t) _ _ (written-good t writable two_tracks (form-few t writable).1).long

    -- if writing returned 0, reading the sheet's bytes from the output, with room enough, returns 0 and hands out what was written
    pub write_then_read : (f : FoundTracks) (ks ks' : List ℕ) (es es' : List (List ℕ)) (ts ts' : List ℕ)
        → length t.table ≤ length ks → length t.events ≤ length es → length t.events ≤ length ts
        → ReadsTracks (take (bytes_for (length t.events)) out') f ks ks' es es' ts ts'
        → (f ≡ found_tracks t) × Out t.table ks ks' × Out t.events es es' × Out t.tracks ts ts'
    unfolding room_for_tracks
    write_then_read f ks ks' es es' ts ts' a b d q =
        let s = encode_tracked t in
        let room : room_for_tracks (decode_tracked s) (length ks) (length es) (length ts) ≡ true =
        rw (tracked_read t writable, le-leb (length t.table) (length ks) a, le-leb (length t.events) (length es) b, le-leb (length t.tracks) (length ts) (omega (arith, tracks-long t writable))) in
        let o = read_found s ks es ts (tracked_accepted t writable two_tracks (form-few t writable).1) room in
        let one = read-tracks_one s f (found_tracks (decode_tracked s)) ks ks' _ es es' _ ts ts' _ (rw bytes at q) o in
        rw (← tracked_read t writable) one

-- ---- read, then written
-- reading that returned 0 accepted the sheet and found room
found_all : (s : List ℕ) (m n k : ℕ) → (read_tracks_of s m n k).number ≡ 0 → ((verdict_up_to two_tracks s).number ≡ 0) × (read_tracks_of s m n k ≡ found_tracks (decode_tracked s))
unfolding read_tracks_of
found_all s m n k =
    split (eqb (verdict_up_to two_tracks s).number 0)
    (λ a. split (room_for_tracks (decode_tracked s) m n k) (λ b. rw (a, b) (λ z. (eqb-true _ _ a, refl))) (λ b. rw (a, b) (λ z. absurd (omega arith))))
    (λ a. rw a (λ z. absurd (eqb-false _ _ a z)))

module _ (s : List ℕ) (small : Below 256 s) where
  -- what reading handed out, written into an output long enough, is 0 and the same bytes
  pub read_then_write : (f : FoundTracks) (ks ks' : List ℕ) (es es' : List (List ℕ)) (ts ts' : List ℕ) → ReadsTracks s f ks ks' es es' ts ts' → f.number ≡ 0
      → (r : ℕ) (out out' : List ℕ) → length s ≤ length out
      → WritesTracked (record { form = f.tracks; stamp = f.stamp; table = take (table_words f.tracks f.posts) ks'; events = take f.events es'; tracks = take f.events ts' }) r out out'
      → (r ≡ 0) × Out s out out'
  read_then_write f ks ks' es es' ts ts' q z r out out' h w =
      let a = found_all s (length ks) (length es) (length ts) (sym (ap (λ (x : FoundTracks). x.number) q.0) ∙ z) in
      let e : f ≡ found_tracks (decode_tracked s) = q.0 ∙ a.1 in
      let d = decode_tracked s in
      let v = decoded_tracked two_tracks (blocks_in (length s)) s (accepted-good two_tracks s a.0) (omega arith) small in
      let words : table_words d.form (posts_of d.form (length d.table)) ≡ length d.table = words-posts d.form d.table v.table in
      let k : take (table_words f.tracks f.posts) ks' ≡ d.table = rw (q.1, e, words) (take_at d.table _ _ refl) in
      let m : take f.events es' ≡ d.events = rw (q.2, e) (take_at d.events _ _ refl) in
      let o : take f.events ts' ≡ d.tracks = rw (q.3, e) (take_at d.tracks _ _ (tracks-long d v)) in
      let size : bytes_for (length d.events) ≡ length s = ap bytes_for (events-long s) ∙ bytes_are two_tracks s a.0 in
      let start : may_start d ≡ true = rw (v.form, v.table) refl in
      let fit : all_fit d ≡ true = rw (v.fields, v.tracks) refl in
      let y = passes d out start fit 0 _ (wrote d out v.most (omega arith)) in
      let w' : WritesTracked d r out out' = rw (k, m, o, e) at w in
      let one = write_tracks_one d r 0 out out' _ w' y in
      (one.0, one.1 ∙ rw (size, tracked_written two_tracks (omega arith) s small a.0))
