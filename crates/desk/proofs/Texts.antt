-- The text of a question by its outcomes, and that the event it names is one of the sheet's.
-- Assumes nothing.
use Prim.Native.Nat.{ℕ, ◌-◌, ◌≤◌, ◌<◌}
use mathlib.Core.Path.{◌≡◌, refl, sym, ap, ◌∙◌}
use mathlib.Core.List.{List, [], ◌∷◌}
use native.Mathlib.Omega.{arith}
use borrow.Author.Tests.{eq-eqb, ne_eqb, eqb-false}
use lib.ListN.{length, get_or, get_or-append}
use Rattle.relay.proofs.Truth.{equal_or_not}
use Rattle.sheet.specs.Layout.{two_tracks}
use Rattle.sheet.proofs.Rooms.{entries-few}
use Rattle.sheet.proofs.TripRead.{events-long, tracks-long}
use Rattle.sheet.specs.Reading.{verdict_up_to, decode_tracked, found_tracks, handed_by, read_tracks_of}
use Rattle.sheet.specs.declared.FoundTracks.{FoundTracks}
use Rattle.sheet.proofs.AnyRoom.{front_by, bad-tracks, good-tracks}
use Rattle.listing.proofs.Spaces.{spaced_none}
use Rattle.digits.proofs.Value.{digits_one, no_leading_zero}
use Rattle.digits.specs.Digits.{digits}
use Rattle.listing.specs.Lines.{ended, event_line, refused_line}
use Rattle.why.proofs.Asked.{event-read}
use Rattle.why.proofs.Named.{answerable, since-within}
use Rattle.std.proofs.Common.{Result, Ok, Err}
use Rattle.sheet.proofs.Refusals.{refuses}
use Rattle.sheet.specs.Refusals.{found_tracks_of}
use Rattle.sheet.specs.declared.Header.{Header}
use Rattle.sheet.specs.declared.refusal.Refusal.{Refusal as sheetRefusal}
use Rattle.why.specs.declared.Refusal.{Refusal}
use Rattle.why.specs.declared.Refusal.TheVariants.{NoSuchRefusal, Sheet}
use Rattle.why.specs.Why.{event_at, track_at, since_told, since_tracks_of}
use Rattle.why.specs.declared.Since.{Since}
use Rattle.desk.specs.Text.{start_line, event_text, answer_text, since_text}

-- ---- no event: the bytes of the line
pub start_bytes : start_line ≡ 48 ∷ 10 ∷ []
unfolding start_line
start_bytes = rw (digits_one 0 (omega arith), spaced_none)

-- a refusal's line is another, and so is that of an event
refused-other : (n b p : ℕ) → refused_line n b p ≡ start_line → ⊥
unfolding refused_line
refused-other n b p e = omega (arith, ap (λ (t : List ℕ). get_or t 0 0) (e ∙ start_bytes))

event-other : (k e p r : ℕ) (t : List ℕ) → 1 ≤ k → event_line k e p r t ≡ start_line → ⊥
unfolding event_line
event-other k e p r t h q =
    let first = no_leading_zero k h in
    let some = get_or-append (digits k) (ended (e ∷ p ∷ r ∷ t)) 0 0 (not_empty (digits k) first) in
    omega (arith, first, some, ap (λ (t : List ℕ). get_or t 0 0) (q ∙ start_bytes))
  where
    not_empty : (t : List ℕ) → 48 < get_or t 0 0 → 0 < length t
    not_empty [] h = absurd (omega arith)
    not_empty (x ∷ t) h = omega arith

-- ---- the event that is named
-- an accepted sheet read into room for any
read_again : (s : List ℕ) (f : FoundTracks) → f ≡ read_tracks_of s 65 3780 3780 → (verdict_up_to two_tracks s).number ≡ 0 → f ≡ found_tracks (decode_tracked s)
read_again s f e z =
    equal_or_not f.number 0 (λ q. (good-tracks s f e q).1)
    (λ q. absurd (eqb-false (verdict_up_to two_tracks s).number 0 (bad-tracks s f e q).0 z))

-- so it is not refused
pub reads_again : (s : List ℕ) (r : Result Header sheetRefusal) → found_tracks_of r ≡ read_tracks_of s 65 3780 3780 → (verdict_up_to two_tracks s).number ≡ 0
    → ((h : Header) → r ≡ Ok h → ⊥) → ⊥
reads_again s (Ok h) e z n = n h refl
reads_again s (Err w) e z n = refuses w (ap (λ (x : FoundTracks). x.number) (read_again s (found_tracks_of (Err w)) e z))

-- a refusal has a number
pub told-refuses : (r : Result ℕ Refusal) → ((x : ℕ) → r ≡ Ok x → ⊥) → (since_told r).number ≡ 0 → ⊥
told-refuses (Ok x) n e = n x refl
told-refuses (Err NoSuchRefusal) n e = absurd (omega (arith, e))
told-refuses (Err (Sheet w)) n e = refuses w e

module _ (s : List ℕ) (k : ℕ) where
  module _ (r : Since) (e : r ≡ since_tracks_of s k) where
    -- no refusal: the sheet is accepted, and the event is one of it
    pub named_in : r.number ≡ 0 → ((verdict_up_to two_tracks s).number ≡ 0) × (r.position ≤ length (decode_tracked s).events)
    named_in z =
        let y = sym (ap (λ (x : Since). x.number) e) ∙ z in
        let w = since-within two_tracks (omega arith) s k y in
        ((answerable two_tracks (omega arith) s k y).read, rw e (omega (arith, w.0, w.1)))

    -- ---- the outcomes
    pub text-refused : (r.number ≡ 0 → ⊥) → since_text s k ≡ refused_line r.number r.block r.position
    unfolding since_text answer_text
    text-refused n = rw (← e, ne_eqb r.number 0 n)

    pub text_start : r.number ≡ 0 → r.position ≡ 0 → since_text s k ≡ start_line
    unfolding since_text answer_text
    text_start z p = rw (← e, eq-eqb r.number 0 z, eq-eqb r.position 0 p)

    -- ---- the event is named
    module _ (z : r.number ≡ 0) (p : r.position ≡ 0 → ⊥) where
      pub text-event : since_text s k ≡ event_text (decode_tracked s) r.position
      unfolding since_text answer_text
      text-event = rw (← e, eq-eqb r.number 0 z, ne_eqb r.position 0 p)

      pub named-few : r.position - 1 < 3780
      named-few = omega (arith, (named_in z).1, events-long s, entries-few two_tracks s (named_in z).0)

      -- reading the sheet again, into room for any, hands it out with its track
      module _ (f : FoundTracks) (g : f ≡ read_tracks_of s 65 3780 3780) where
        found_it : f ≡ found_tracks (decode_tracked s)
        found_it = read_again s f g (named_in z).0

        count : f.events ≡ length (decode_tracked s).events
        count = ap (λ (x : FoundTracks). x.events) found_it

        pub form-read : f.tracks ≡ (decode_tracked s).form
        form-read = ap (λ (x : FoundTracks). x.tracks) found_it

        -- number i of the front of a room
        at_front : {X : Type 0} (d : X) (xs room room' : List X) → length xs ≡ length (decode_tracked s).events → room' ≡ handed_by f.number xs room
            → get_or room' (r.position - 1) d ≡ get_or xs (r.position - 1) d
        at_front d xs room room' l h =
            event-read d room' xs f.events r.position (front_by f.number (ap (λ (x : FoundTracks). x.number) found_it) f.events xs room room' (count ∙ sym l) h).0 (omega (arith, (named_in z).1, count))

        pub named-read : (room room' : List (List ℕ)) → room' ≡ handed_by f.number (decode_tracked s).events room
            → get_or room' (r.position - 1) [] ≡ event_at (decode_tracked s) r.position
        named-read room room' h = at_front [] (decode_tracked s).events room room' refl h

        pub track-read : (room room' : List ℕ) → room' ≡ handed_by f.number (decode_tracked s).tracks room
            → get_or room' (r.position - 1) 0 ≡ track_at (decode_tracked s) r.position
        track-read room room' h = at_front 0 (decode_tracked s).tracks room room' (tracks-long s ∙ sym (events-long s)) h

pub only_start : (s : List ℕ) (k : ℕ) (r : Since) → r ≡ since_tracks_of s k → since_text s k ≡ start_line → (r.number ≡ 0) × (r.position ≡ 0)
only_start s k r e t =
    equal_or_not r.number 0
    (λ z. equal_or_not r.position 0 (λ p. (z, p))
    (λ p. absurd (event-other r.position _ _ _ _ (omega arith) (sym (text-event s k r e z p) ∙ t))))
    (λ n. absurd (refused-other r.number r.block r.position (sym (text-refused s k r e n) ∙ t)))
