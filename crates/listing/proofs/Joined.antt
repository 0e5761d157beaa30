-- The whole listing, line after line.
-- Assumes nothing.
use Prim.Native.Nat.{ℕ, ◌+◌, ◌-◌}
use mathlib.Core.Path.{◌≡◌, refl, sym, ap, ◌∙◌}
use mathlib.Core.List.{List, [], ◌∷◌, ◌++◌}
use native.Mathlib.Omega.{arith}
use lib.ListN.{length}
use lib.Seq.{take_all, take-length}
use Rattle.relay.specs.declared.Post.{Post}
use Rattle.sheet.specs.Sheet.{Tracked}
use Rattle.tracks.specs.Circuit.{track_one, track_two}
use Rattle.working.specs.Run.{marked}
use Rattle.working.specs.Working.{end_of, worked_tracked}
use Rattle.listing.specs.Lines.{track_named}
use Rattle.listing.specs.Listing.{event_lines, section_lines, lines_of}
use Rattle.digits.specs.Texts.{joined}
use Rattle.listing.proofs.Numbered.{event_text, section_text, first_events, first_sections}

-- ---- events and sections
-- line i is event i's, at position i + 1
pub event-lines : (form : ℕ) (es : List (List ℕ)) → event_lines form 1 es ≡ joined (event_text form es) (length es)
event-lines form es = ap (event_lines form 1) (sym (take-length es)) ∙ first_events form es (length es) (omega arith)

-- line i is section i's, between the posts i and i + 1
pub section-lines : (track : List ℕ) (ps : List Post) → section_lines track 0 ps ≡ joined (section_text track ps) (length ps - 1)
unfolding section_lines joined
section-lines track [] = refl
section-lines track (p ∷ ps) =
    let n = length (p ∷ ps) - 1 in
    ap (section_lines track 0) (sym (take_all (n + 1) (p ∷ ps) (omega arith))) ∙ first_sections track (p ∷ ps) n (omega arith)

-- ---- the whole listing of a sheet that is worked
pub lines-joined : (t : Tracked)
    → lines_of t
    ≡ joined (event_text t.form (marked (worked_tracked t).events t.tracks)) (length (marked (worked_tracked t).events t.tracks))
    ++ (joined (section_text (track_named t.form track_one) (end_of t).first) (length (end_of t).first - 1)
    ++ joined (section_text (track_named t.form track_two) (end_of t).second) (length (end_of t).second - 1))
unfolding lines_of
lines-joined t = rw (event-lines t.form (marked (worked_tracked t).events t.tracks), section-lines (track_named t.form track_one) (end_of t).first, section-lines (track_named t.form track_two) (end_of t).second) refl
