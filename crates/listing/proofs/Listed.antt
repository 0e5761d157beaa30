-- The lines of events and of sections, one line more at a time.
-- Assumes nothing.
use Prim.Native.Nat.{ℕ, suc, ◌+◌, ◌<◌}
use mathlib.Core.Path.{◌≡◌, refl, sym, ap, ◌∙◌}
use mathlib.Core.List.{List, [], ◌∷◌, ◌++◌, append_assoc, append-nil}
use native.Mathlib.Numerals.{add-one}
use native.Mathlib.Omega.{arith}
use lib.ListN.{length, get_or, take}
use lib.Seq.{take-suc, length-take-le}
use Rattle.relay.specs.Posts.{at, blank}
use Rattle.relay.specs.declared.Post.{Post}
use Rattle.sheet.specs.Entry.{number_of, post_of, answer_of}
use Rattle.working.specs.Run.{track_of}
use Rattle.working.specs.Working.{section_numbers}
use Rattle.listing.specs.Lines.{track_named, event_line, section_line}
use Rattle.listing.specs.Listing.{event_lines, section_lines}

-- ---- events
pub events_none : (form k : ℕ) → event_lines form k [] ≡ []
unfolding event_lines
events_none form k = refl

-- the line of event e at position k, in a sheet of so many tracks
abbrev pub line_of_event : ℕ → ℕ → List ℕ → List ℕ
line_of_event form k e = event_line k (number_of e) (post_of e) (answer_of e) (track_named form (track_of e))

events-snoc : (form k : ℕ) (es : List (List ℕ)) (e : List ℕ) → event_lines form k (es ++ (e ∷ [])) ≡ event_lines form k es ++ line_of_event form (k + length es) e
unfolding event_lines
events-snoc form k [] e = let z : k + 0 ≡ k = omega arith in rw z (append-nil (line_of_event form k e))
events-snoc form k (x ∷ es) e =
    let z : suc k + length es ≡ k + suc (length es) = omega arith in
    ap (λ (l : List ℕ). line_of_event form k x ++ l) (events-snoc form (suc k) es e ∙ ap (λ (j : ℕ). event_lines form (suc k) es ++ line_of_event form j e) z)
    ∙ sym (append_assoc (line_of_event form k x) (event_lines form (suc k) es) (line_of_event form (k + suc (length es)) e))

-- event i more, at its position
pub events_more : (form k : ℕ) (es : List (List ℕ)) (i j : ℕ) → i < length es → j ≡ k + i → event_lines form k (take (i + 1) es) ≡ event_lines form k (take i es) ++ line_of_event form j (get_or es i [])
events_more form k es i j h e =
    rw (add-one, take-suc es i [] h, e)
    (events-snoc form k (take i es) (get_or es i []) ∙ ap (λ (n : ℕ). event_lines form k (take i es) ++ line_of_event form (k + n) (get_or es i [])) (length-take-le i es (omega arith)))

-- ---- sections
abbrev pub line_of_section : List ℕ → ℕ → Post → Post → List ℕ
line_of_section track k p d = section_line (section_numbers k p d) track

sections-snoc : (track : List ℕ) (k : ℕ) (ps : List Post) (p d : Post) → section_lines track k (ps ++ (p ∷ d ∷ [])) ≡ section_lines track k (ps ++ (p ∷ [])) ++ line_of_section track (k + length ps) p d
unfolding section_lines
sections-snoc track k [] p d = let z : k + 0 ≡ k = omega arith in rw z (append-nil (line_of_section track k p d))
sections-snoc track k (x ∷ []) p d =
    let z : suc k + 0 ≡ k + 1 = omega arith in
    ap (λ (l : List ℕ). line_of_section track k x p ++ l) (sections-snoc track (suc k) [] p d ∙ ap (λ (j : ℕ). line_of_section track j p d) z)
    ∙ ap (λ (l : List ℕ). l ++ line_of_section track (k + 1) p d) (sym (append-nil (line_of_section track k x p)))
sections-snoc track k (x ∷ y ∷ ps) p d =
    let z : suc k + suc (length ps) ≡ k + suc (suc (length ps)) = omega arith in
    ap (λ (l : List ℕ). line_of_section track k x y ++ l) (sections-snoc track (suc k) (y ∷ ps) p d ∙ ap (λ (j : ℕ). section_lines track (suc k) (y ∷ (ps ++ (p ∷ []))) ++ line_of_section track j p d) z)
    ∙ sym (append_assoc (line_of_section track k x y) (section_lines track (suc k) (y ∷ (ps ++ (p ∷ [])))) (line_of_section track (k + suc (suc (length ps))) p d))

-- the first j = i + 1 posts have i sections; one post more is section i more
pub sections_more : (track : List ℕ) (ps : List Post) (i j : ℕ) → j ≡ i + 1 → j < length ps → section_lines track 0 (take (j + 1) ps) ≡ section_lines track 0 (take j ps) ++ line_of_section track i (at ps i) (at ps j)
sections_more track ps i j e h =
    let z : 0 + length (take i ps) ≡ i = omega (arith, length-take-le i ps (omega arith)) in
    let k : j ≡ suc i = omega arith in
    rw (add-one j, take-suc ps j blank h, k, take-suc ps i blank (omega arith), append_assoc)
    (sections-snoc track 0 (take i ps) (at ps i) (at ps (suc i)) ∙ ap (λ (n : ℕ). section_lines track 0 (take i ps ++ (at ps i ∷ [])) ++ line_of_section track n (at ps i) (at ps (suc i))) z)

pub sections_first : (track : List ℕ) (ps : List Post) → section_lines track 0 (take 1 ps) ≡ []
unfolding section_lines
sections_first track [] = refl
sections_first track (p ∷ ps) = refl
