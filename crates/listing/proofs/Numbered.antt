-- The listing line by line: line i of the events is event i's, at position i + 1, and line i of the sections is section i's.
-- One event or section more is one line more. The fields of an event's line are in the order of the rule, and the last is the track's, where there are two.
-- Assumes nothing.
use Prim.Native.Nat.{ℕ, zero, suc, ◌+◌, ◌≤◌, ◌<◌}
use mathlib.Core.Path.{◌≡◌, refl, ap, ◌∙◌}
use mathlib.Core.List.{List, [], ◌∷◌, ◌++◌}
use native.Mathlib.Numerals.{add-one}
use native.Mathlib.Omega.{arith}
use borrow.Author.Tests.{eq-eqb}
use lib.ListN.{length, get_or, take}
use Rattle.relay.specs.Posts.{at}
use Rattle.relay.specs.declared.Post.{Post}
use Rattle.sheet.specs.Layout.{one_track, two_tracks}
use Rattle.sheet.specs.Reading.{decode_tracked}
use Rattle.listing.specs.Lines.{space, line_feed, spaced, track_named, event_line}
use Rattle.listing.specs.Listing.{event_lines, section_lines, lines_of, answer_to, listing_of}
use Rattle.digits.specs.Digits.{digits}
use Rattle.digits.specs.Texts.{joined}
use Rattle.listing.proofs.Listed.{line_of_event, line_of_section, events_none, events_more, sections_first, sections_more}

-- texts that are the same one by one are the same one after the other
pub joined_same : (f g : ℕ → List ℕ) (n : ℕ) → ((i : ℕ) → i < n → f i ≡ g i) → joined f n ≡ joined g n
unfolding joined
joined_same f g zero e = refl
joined_same f g (suc n) e = rw (joined_same f g n (λ i h. e i (omega arith)), e n (omega arith))

-- ---- the fields of a line
-- 01: 'position from 1, event, post, answer. .. Single spaces, each line ended by a line feed.'
pub event-says : (position event post answer : ℕ) (track : List ℕ)
    → event_line position event post answer track
    ≡ digits position ++ (space ∷ (digits event ++ (space ∷ (digits post ++ (space ∷ (digits answer ++ spaced track))))) ++ (line_feed ∷ []))
unfolding event_line spaced
event-says position event post answer track = refl

-- 02, item 7, of a two-track sheet: 'Its listing lines get that bit as a last field'
pub two_named : (track : ℕ) → track_named two_tracks track ≡ track ∷ []
unfolding track_named
two_named track = refl

-- and the lines of a sheet of one track are as they were
pub one_named : (track : ℕ) → track_named one_track track ≡ []
unfolding track_named
one_named track = refl

-- ---- events
abbrev pub event_text : ℕ → List (List ℕ) → ℕ → List ℕ
event_text form es i = line_of_event form (i + 1) (get_or es i [])

pub first_events : (form : ℕ) (es : List (List ℕ)) (n : ℕ) → n ≤ length es → event_lines form 1 (take n es) ≡ joined (event_text form es) n
unfolding joined
first_events form es zero h = events_none form 1
first_events form es (suc n) h =
    rw (← add-one n) (events_more form 1 es n (n + 1) (omega arith) (omega arith))
    ∙ ap (λ (t : List ℕ). t ++ event_text form es n) (first_events form es n (omega arith))

-- ---- sections
abbrev pub section_text : List ℕ → List Post → ℕ → List ℕ
section_text track ps i = line_of_section track i (at ps i) (at ps (i + 1))

pub first_sections : (track : List ℕ) (ps : List Post) (n : ℕ) → n + 1 ≤ length ps → section_lines track 0 (take (n + 1) ps) ≡ joined (section_text track ps) n
unfolding joined
first_sections track ps zero h = sections_first track ps
first_sections track ps (suc n) h =
    rw (← add-one n) (sections_more track ps n (n + 1) refl (omega arith))
    ∙ ap (λ (t : List ℕ). t ++ section_text track ps n) (first_sections track ps n (omega arith))

-- ---- the whole listing of a sheet that is worked
pub listing-lines : (s : List ℕ) → (answer_to s).number ≡ 0 → listing_of s ≡ lines_of (decode_tracked s)
unfolding listing_of
listing-lines s z = rw (eq-eqb (answer_to s).number 0 z) refl
