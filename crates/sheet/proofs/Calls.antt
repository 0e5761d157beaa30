-- What a refused call leaves, and both round trips, as the calls say them. 00, demand 1: 'A refused sheet or write leaves the lent output unaltered.' Demand 2: 'A sheet that was written reads back as its table and events. An accepted sheet, read and written again, has the same bytes.'
-- What writing stores is the sheet's bytes, which are accepted and say the sheet; what reading hands out is what the sheet says, which is written as its bytes.
-- `Typed t` is what the arguments' types say of a sheet to write, and `Below 256 s` of a slice of bytes.
-- Assumes nothing.
use Prim.Native.Nat.{ℕ, ◌≤◌}
use mathlib.Core.Path.{◌≡◌, refl, sym, ap, ◌∙◌}
use mathlib.Core.Bool.{true}
use mathlib.Core.List.{List, ◌++◌}
use native.Mathlib.Omega.{arith}
use borrow.Author.Tests.{ne_eqb, eqb-true, eqb-false, le-leb}
use lib.ListN.{length, take, drop}
use lib.Seq.{take_at}
use Rattle.relay.proofs.Truth.{split}
use Rattle.sheet.specs.Layout.{one_track}
use Rattle.sheet.specs.Reading.{blocks_in, accepted, verdict_of, decode, found, room_for, read_of, Reads}
use Rattle.sheet.specs.Sheet.{Sheet, encode}
use Rattle.sheet.specs.Writing.{bytes_for, write_number, written, Writes}
use Rattle.sheet.specs.declared.Found.{Found}
use Rattle.sheet.proofs.Accepts.{accepted-good}
use Rattle.sheet.proofs.Bytes.{Below}
use Rattle.sheet.proofs.Laid.{wrote_one}
use Rattle.sheet.proofs.One.{read_one, write_one}
use Rattle.sheet.proofs.Rooms.{bytes_are, events-long, read_found}
use Rattle.sheet.proofs.TripRead.{decoded_writable}
use Rattle.sheet.proofs.TripWritten.{good_one}
use Rattle.sheet.proofs.Trips.{written-accepted, written_read, read-written}
use Rattle.sheet.proofs.Writable.{Writable, Typed, took}

-- what is handed out stands at the front of the room, and room past it stays as it was
abbrev pub Out : {X : Type 0} → List X → List X → List X → Type 0
Out xs room room' = room' ≡ xs ++ drop (length xs) room

-- ---- refused
-- a refused write leaves the output as it was
pub refused_write : (t : Sheet) (r : ℕ) (out out' : List ℕ) → Writes t r out out' → (r ≡ 0 → ⊥) → out' ≡ out
unfolding written
refused_write t r out out' w n = w.1 ∙ rw (ne_eqb (write_number t (length out)) 0 (λ e. n (w.0 ∙ e)))

-- a refused reading leaves both rooms as they were
pub refused-read : (s : List ℕ) (f : Found) (ks ks' : List ℕ) (es es' : List (List ℕ)) → Reads s f ks ks' es es' → (f.number ≡ 0 → ⊥)
    → (ks' ≡ ks) × (es' ≡ es)
refused-read s f ks ks' es es' q n = let z = ne_eqb f.number 0 n in (q.1 ∙ rw z, q.2 ∙ rw z)

-- ---- written, then read
module _ (t : Sheet) (typed : Typed t) where
  -- the bytes of a sheet that writing took, in the output afterwards
  module _ (r : ℕ) (out out' : List ℕ) (w : Writes t r out out') (z : r ≡ 0) where
    number : write_number t (length out) ≡ 0
    number = sym w.0 ∙ z

    writable : Writable t
    writable = took t (length out) typed number

    bytes : take (bytes_for (length t.events)) out' ≡ encode t
    unfolding written
    bytes =
        let e : out' ≡ encode t ++ drop (bytes_for (length t.events)) out = w.1 ∙ rw number in
        ap (take (bytes_for (length t.events))) e ∙ take_at (encode t) _ _ (good_one t writable).long

    -- if writing returned 0, reading the sheet's bytes from the output, with room enough, returns 0 and hands out what was written
    pub write_then_read : (f : Found) (ks ks' : List ℕ) (es es' : List (List ℕ)) → length t.kinds ≤ length ks → length t.events ≤ length es
        → Reads (take (bytes_for (length t.events)) out') f ks ks' es es'
        → (f ≡ found t) × Out t.kinds ks ks' × Out t.events es es'
    unfolding room_for
    write_then_read f ks ks' es es' a b q =
        let s = encode t in
        let room : room_for (decode s) (length ks) (length es) ≡ true =
        rw (written_read t writable, le-leb (length t.kinds) (length ks) a, le-leb (length t.events) (length es) b) in
        let o = read_found s ks es (written-accepted t writable) room in
        let one = read_one s f (found (decode s)) ks ks' _ es es' _ (rw bytes at q) o in
        rw (← written_read t writable) one

-- ---- read, then written
-- reading that returned 0 accepted the sheet and found room
found_all : (s : List ℕ) (m n : ℕ) → (read_of s m n).number ≡ 0 → ((verdict_of s).number ≡ 0) × (read_of s m n ≡ found (decode s))
unfolding read_of
found_all s m n =
    split (accepted s)
    (λ a. split (room_for (decode s) m n) (λ b. rw (a, b) (λ z. (eqb-true _ _ a, refl))) (λ b. rw (a, b) (λ z. absurd (omega arith))))
    (λ a. rw a (λ z. absurd (eqb-false _ _ a z)))

module _ (s : List ℕ) (small : Below 256 s) where
  -- what reading handed out, written into an output long enough, is 0 and the same bytes
  pub read_then_write : (f : Found) (ks ks' : List ℕ) (es es' : List (List ℕ)) → Reads s f ks ks' es es' → f.number ≡ 0
      → (r : ℕ) (out out' : List ℕ) → length s ≤ length out
      → Writes (record { stamp = f.stamp; kinds = take f.posts ks'; events = take f.events es' }) r out out'
      → (r ≡ 0) × Out s out out'
  read_then_write f ks ks' es es' q z r out out' h w =
      let a = found_all s (length ks) (length es) (sym (ap (λ (x : Found). x.number) q.0) ∙ z) in
      let e : f ≡ found (decode s) = q.0 ∙ a.1 in
      let k : take f.posts ks' ≡ (decode s).kinds = rw (q.1, e) (take_at (decode s).kinds _ _ refl) in
      let m : take f.events es' ≡ (decode s).events = rw (q.2, e) (take_at (decode s).events _ _ refl) in
      let v = decoded_writable (blocks_in (length s)) s (accepted-good one_track s a.0) small in
      let size : bytes_for (length (decode s).events) ≡ length s = ap bytes_for (events-long s) ∙ bytes_are one_track s a.0 in
      let o = wrote_one (decode s) out v.table v.fields v.most (omega arith) in
      let w' : Writes (decode s) r out out' = rw (k, m, e) at w in
      let one = write_one (decode s) r 0 out out' _ w' o in
      (one.0, one.1 ∙ rw (size, read-written s small a.0))
