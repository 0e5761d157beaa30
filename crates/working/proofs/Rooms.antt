-- Reading into rooms that take any sheet: where a sheet is taken, what it says stands at the front of each room, so the sheet said by those fronts is the one that was read.
-- Assumes nothing.
use Prim.Native.Nat.{ℕ, ◌≤◌}
use mathlib.Core.Path.{◌≡◌, refl, sym, ap, ◌∙◌}
use mathlib.Core.Bool.{false}
use mathlib.Core.List.{List}
use lib.Dec.{eqb}
use Rattle.std.proofs.Common.{Ok, Err}
use lib.ListN.{length, take}
use Rattle.relay.proofs.Truth.{and_facts}
use Rattle.sheet.proofs.AnyRoom.{front_by, good, bad, good-tracks, bad-tracks}
use Rattle.sheet.proofs.Refusals.{refuses}
use Rattle.sheet.proofs.TripRead.{events-long, tracks-long}
use Rattle.sheet.proofs.TripWritten.{words-posts}
use Rattle.sheet.specs.Layout.{two_tracks}
use Rattle.sheet.specs.Reading.{form_ok, table_fits, accepted, verdict_up_to, verdict_of, decode, decode_tracked, read_of, read_tracks_of, handed_by}
use Rattle.sheet.specs.Refusals.{verdict_of_refusal, found_of, found_tracks_of}
use Rattle.sheet.specs.Sheet.{Tracked, table_words}
use Rattle.sheet.specs.declared.Found.{Found}
use Rattle.sheet.specs.declared.FoundTracks.{FoundTracks}
use Rattle.sheet.specs.declared.Header.{Header}
use Rattle.sheet.specs.declared.refusal.Refusal.{Refusal}
use Rattle.working.proofs.WorksTracks.{said_start, said_few}

abbrev pub said : ℕ → ℕ → List ℕ → List (List ℕ) → List ℕ → Tracked
said form stamp table events tracks = record { form = form; stamp = stamp; table = table; events = events; tracks = tracks }

-- ---- a sheet of either form
pub record Read (s : List ℕ) (h : Header) (table : List ℕ) (events : List (List ℕ)) (on : List ℕ) : Type 0 where
  pub accepted : (verdict_up_to two_tracks s).number ≡ 0
  -- as many events as it says, and at most 3,780
  pub count : h.events ≡ length (decode_tracked s).events
  pub few : h.events ≤ 3780
  pub form : h.tracks ≡ (decode_tracked s).form
  -- each front fits its room
  pub table_within : {k : ℕ} → k ≡ table_words h.tracks h.posts → k ≤ length table
  pub events_within : h.events ≤ length events
  pub on_within : h.events ≤ length on
  -- and they say the sheet
  pub same : {k : ℕ} → k ≡ table_words h.tracks h.posts
      → said h.tracks h.stamp (take k table) (take h.events events) (take h.events on) ≡ decode_tracked s

module _ (s : List ℕ) where
  pub read : (h : Header) (table : List ℕ) (events : List (List ℕ)) (on : List ℕ) {table' : List ℕ} {events' : List (List ℕ)} {on' : List ℕ}
      → (found_tracks_of (Ok h) ≡ read_tracks_of s 65 3780 3780)
      × (table' ≡ handed_by 0 (decode_tracked s).table table)
      × (events' ≡ handed_by 0 (decode_tracked s).events events)
      × (on' ≡ handed_by 0 (decode_tracked s).tracks on)
      → Read s h table' events' on'
  read h table events on e =
      let d = decode_tracked s in
      let g = good-tracks s (found_tracks_of (Ok h)) e.0 refl in
      let form : h.tracks ≡ d.form = ap (λ (f : FoundTracks). f.tracks) g.1 in
      let stamp : h.stamp ≡ d.stamp = ap (λ (f : FoundTracks). f.stamp) g.1 in
      let count : h.events ≡ length d.events = ap (λ (f : FoundTracks). f.events) g.1 in
      let fits = ((and_facts (form_ok two_tracks d.form) (table_fits d.form d.table)).0 (said_start s g.0)).1 in
      let words : table_words h.tracks h.posts ≡ length d.table =
      ap (λ (f : FoundTracks). table_words f.tracks f.posts) g.1 ∙ words-posts d.form d.table fits in
      let first = front_by 0 refl _ _ _ _ words e.1 in
      let second = front_by 0 refl _ _ _ _ count e.2 in
      let third = front_by 0 refl _ _ _ _ (count ∙ events-long s ∙ sym (tracks-long s)) e.3 in
      record {
        accepted = g.0;
        count = count;
        few = rw count (said_few s g.0);
        form = form;
        table_within = λ k. rw k first.1;
        events_within = second.1;
        on_within = third.1;
        same = λ k. rw (k, first.0, second.0, third.0, form, stamp) refl;
      }

  -- a refusal is that of the sheet
  pub unread : (r : Refusal) → found_tracks_of (Err r) ≡ read_tracks_of s 65 3780 3780
      → (eqb (verdict_up_to two_tracks s).number 0 ≡ false) × (verdict_of_refusal r ≡ verdict_up_to two_tracks s)
  unread r e =
      let b = bad-tracks s (found_tracks_of (Err r)) e (refuses r) in
      (b.0, ap (λ (f : FoundTracks). record { number = f.number; block = f.block; position = f.position }) b.1)

-- ---- a sheet of one track
pub record ReadOne (s : List ℕ) (h : Header) (kinds : List ℕ) (events : List (List ℕ)) : Type 0 where
  pub taken : (verdict_of s).number ≡ 0
  pub stamp : h.stamp ≡ (decode s).stamp
  -- each front fits its room, and says what the sheet says
  pub kinds_within : h.posts ≤ length kinds
  pub kinds_are : take h.posts kinds ≡ (decode s).kinds
  pub events_within : h.events ≤ length events
  pub events_are : take h.events events ≡ (decode s).events

module _ (s : List ℕ) where
  pub read_one : (h : Header) (kinds : List ℕ) (events : List (List ℕ)) {kinds' : List ℕ} {events' : List (List ℕ)}
      → (found_of (Ok h) ≡ read_of s 32 3780)
      × (kinds' ≡ handed_by 0 (decode s).kinds kinds)
      × (events' ≡ handed_by 0 (decode s).events events)
      → ReadOne s h kinds' events'
  read_one h kinds events e =
      let g = good s (found_of (Ok h)) e.0 refl in
      let first = front_by 0 refl _ _ _ _ (ap (λ (f : Found). f.posts) g.1) e.1 in
      let second = front_by 0 refl _ _ _ _ (ap (λ (f : Found). f.events) g.1) e.2 in
      record {
        taken = g.0;
        stamp = ap (λ (f : Found). f.stamp) g.1;
        kinds_within = first.1;
        kinds_are = first.0;
        events_within = second.1;
        events_are = second.0;
      }

  pub unread_one : (r : Refusal) → found_of (Err r) ≡ read_of s 32 3780 → (accepted s ≡ false) × (verdict_of_refusal r ≡ verdict_of s)
  unread_one r e =
      let b = bad s (found_of (Err r)) e (refuses r) in
      (b.0, ap (λ (f : Found). record { number = f.number; block = f.block; position = f.position }) b.1)
