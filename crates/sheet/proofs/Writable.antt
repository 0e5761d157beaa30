-- A sheet that can be written, as plain facts: what writing does not refuse, and what its numbers are by their types. Its words then all fit.
-- Assumes nothing.
use mathlib.Core.Path.{◌≡◌, refl}
use Prim.Native.Nat.{ℕ, suc, ◌+◌, ◌*◌, ◌^◌, ◌≤◌, ◌<◌}
use mathlib.Core.Bool.{Bool, true, false, not}
use borrow.Author.Tests.{leb-true, eqb-true}
use lib.Dec.{eqb, leb, ltb}
use lib.ListN.{length}
use native.Mathlib.Omega.{arith}
use Rattle.relay.specs.Kinds.{table_ok}
use Rattle.relay.specs.Choice.{pick}
use Rattle.relay.proofs.Truth.{facts, split}
use Rattle.sheet.specs.Layout.{most_entries, per_block, check_at, two_tracks}
use Rattle.sheet.specs.Check.{sum}
use Rattle.sheet.specs.Entry.{stamp_of}
use Rattle.sheet.specs.Sheet.{Sheet, event_at, Tracked, of_one, entry_at, track_at, posts_of, held, events_word, body_word, sheet_word}
use Rattle.sheet.specs.Reading.{form_ok, table_fits}
use Rattle.sheet.specs.Writing.{all_in_fields, all_below, tracks_fit, write_number}
use Rattle.sheet.proofs.Sums.{seal-small}
use Rattle.sheet.proofs.Bytes.{Below}
use Rattle.sheet.proofs.BlockWords.{head_small, events-count, events-word, events-stamp, events-zero, body_events}
use Rattle.sheet.proofs.Along.{both}
use Rattle.sheet.proofs.Fields.{In, fields, each, below_at}
use Rattle.sheet.proofs.Packing.{packed-small}
use Rattle.sheet.proofs.Laid.{fits-long, tracks_one}
use Rattle.sheet.proofs.Places.{by_block, by_place}

-- writing refuses none of it, but for the room; an event is four numbers, and each number is one of 32 bits
pub record Writable (t : Sheet) : Type 0 where
  pub table : table_ok t.kinds ≡ true
  pub fields : all_in_fields t.events ≡ true
  pub most : length t.events ≤ most_entries
  pub stamp : t.stamp < 2 ^ 32
  pub kinds : Below (2 ^ 32) t.kinds
  pub four : (i : ℕ) → i < length t.events → length (event_at t i) ≡ 4
  pub stamps : (i : ℕ) → i < length t.events → stamp_of (event_at t i) < 2 ^ 32

-- a refusal that was not given has its test passed
pub gate : (x : Bool) (k y : ℕ) → pick (not x) (suc k) y ≡ 0 → (x ≡ true) × (y ≡ 0)
gate true k y e = (refl, e)
gate false k y e = absurd (omega arith)

-- the first three facts are what writing tests before the room
pub not_refused : (t : Sheet) (m : ℕ) → write_number t m ≡ 0 → (table_ok t.kinds ≡ true) × (all_in_fields t.events ≡ true) × (length t.events ≤ most_entries)
unfolding write_number
not_refused t m e =
    let a = gate (table_ok t.kinds) 0 _ e in
    let b = gate (all_in_fields t.events) 19 _ a.1 in
    let c = gate (leb (length t.events) most_entries) 17 _ b.1 in
    (a.0, b.0, leb-true (length t.events) most_entries c.0)

-- what the numbers of a sheet are by the types of what is lent to be written: four to an event, and each of 32 bits
pub record Typed (t : Sheet) : Type 0 where
  pub stamp : t.stamp < 2 ^ 32
  pub kinds : Below (2 ^ 32) t.kinds
  pub four : (i : ℕ) → i < length t.events → length (event_at t i) ≡ 4
  pub stamps : (i : ℕ) → i < length t.events → stamp_of (event_at t i) < 2 ^ 32

-- a sheet that writing took can be written
pub took : (t : Sheet) (m : ℕ) → Typed t → write_number t m ≡ 0 → Writable t
took t m y e =
    let n = not_refused t m e in
    record {
      table = n.0;
      fields = n.1;
      most = n.2;
      stamp = y.stamp;
      kinds = y.kinds;
      four = y.four;
      stamps = y.stamps;
    }

-- the same of a sheet of either form
pub record WritableTracked (t : Tracked) : Type 0 where
  pub form : form_ok two_tracks t.form ≡ true
  pub table : table_fits t.form t.table ≡ true
  pub fields : all_in_fields t.events ≡ true
  pub tracks : tracks_fit t.form (length t.events) t.tracks ≡ true
  pub most : length t.events ≤ most_entries
  pub stamp : t.stamp < 2 ^ 32
  pub words : Below (2 ^ 32) t.table
  pub four : (i : ℕ) → i < length t.events → length (entry_at t i) ≡ 4
  pub stamps : (i : ℕ) → i < length t.events → stamp_of (entry_at t i) < 2 ^ 32

-- a sheet of one track is one of them
pub writable_one : (t : Sheet) → Writable t → WritableTracked (of_one t)
unfolding form_ok table_fits
writable_one t w = record {
  form = refl;
  table = w.table;
  fields = w.fields;
  tracks = tracks_one t;
  most = w.most;
  stamp = w.stamp;
  words = w.kinds;
  four = w.four;
  stamps = w.stamps;
}

below-pick : (m : ℕ) (t : Bool) (x y : ℕ) → x < m → y < m → pick t x y < m
below-pick m true x y a b = a
below-pick m false x y a b = b

pub posts-most : (form m : ℕ) → posts_of form m ≤ m
unfolding posts_of
posts-most form m = split (eqb form 2) (λ e. rw e (omega arith)) (λ e. rw e (omega arith))

pub in_fields : (t : Sheet) → Writable t → (i : ℕ) → i < length t.events → In (event_at t i)
in_fields t w i h = fields (event_at t i) (each t.events w.fields i h)

module _ (t : Tracked) (w : WritableTracked t) where
  pub form-few : (1 ≤ t.form) × (t.form ≤ 2)
  unfolding form_ok
  form-few = simp facts at w.form

  pub entry_in_lem : (i : ℕ) → i < length t.events → In (entry_at t i)
  entry_in_lem i h = fields (entry_at t i) (each t.events w.fields i h)

  pub tracks-long : length t.tracks ≡ length t.events
  unfolding tracks_fit
  tracks-long = eqb-true (length t.tracks) (length t.events) (both (eqb (length t.tracks) (length t.events)) (all_below t.form t.tracks) w.tracks).0

  pub track_in : (i : ℕ) → i < length t.events → track_at t i < t.form
  unfolding tracks_fit
  track_in i h = below_at t.form t.tracks (both (eqb (length t.tracks) (length t.events)) (all_below t.form t.tracks) w.tracks).1 (omega (arith, form-few.0)) i

  events-small : (c k : ℕ) → events_word t c k < 2 ^ 32
  events-small c =
      by_place (λ k. events_word t c k < 2 ^ 32) (held (length t.events) c)
      (rw (events-count t c) (omega arith))
      (λ j h.
      let i = c * per_block + j in
      rw (events-word t c j h) (omega (arith, form-few.1, packed-small (entry_at t i) (track_at t i) t.form (entry_in_lem i (omega arith)) (track_in i (omega arith)))))
      (λ j h. rw (events-stamp t c j h) (w.stamps (c * per_block + j) (omega arith)))
      (λ k h. rw (events-zero t c k h) (omega arith))

  body_small : (b k : ℕ) → body_word t b k < 2 ^ 32
  body_small b k =
      by_block (λ b. body_word t b k < 2 ^ 32)
      (head_small t (omega (arith, form-few.1)) (omega (arith, posts-most t.form (length t.table), fits-long t.form t.table w.table)) w.stamp w.words k)
      (λ c. rw (body_events t c k) (events-small c k))
      b

  -- every word of the sheet is one of 32 bits
  pub sheet-small : (b k : ℕ) → sheet_word t b k < 2 ^ 32
  unfolding sheet_word
  sheet-small b k = below-pick (2 ^ 32) (ltb k check_at) _ _ (body_small b k) (seal-small (sum (body_word t b) check_at) b)
