-- The whole listing. 01, 'The program and one listing': 'The working program reads a sheet on standard input and prints one line per event: position from 1, event, post, answer. Then one line per section: S, section, a, r, x, q, e, y, v, g, h. Single spaces, each line ended by a line feed. A refused sheet prints only "refused", its number and the block (0 for 18).' 02, item 6: and the event's position, 'printed last'.
-- 02, item 7: of a two-track sheet 'its listing lines get that bit as a last field, S lines of track 1 first'.
-- Assumes nothing.
use Rattle.std.specs.Prelude.{ℕ, suc, List, [], ◌∷◌, ◌++◌, eqb, length}
use Rattle.relay.specs.Choice.{pick}
use Rattle.relay.specs.declared.Post.{Post}
use Rattle.sheet.specs.Entry.{number_of, post_of, answer_of}
use Rattle.sheet.specs.Layout.{two_tracks}
use Rattle.sheet.specs.Reading.{decode_tracked}
use Rattle.sheet.specs.Sheet.{Tracked}
use Rattle.sheet.specs.declared.Verdict.{Verdict}
use Rattle.tracks.specs.Circuit.{track_one, track_two}
use Rattle.working.specs.Run.{track_of, marked}
use Rattle.working.specs.Working.{end_of, worked_tracked, work_verdict_up_to, section_numbers}
use Rattle.listing.specs.Lines.{track_named, event_line, section_line, refused_line}

-- 'one line per event: position from 1, event, post, answer', from position i on, of events with their tracks in a sheet of so many
unfoldable pub event_lines : ℕ → ℕ → List (List ℕ) → List ℕ
event_lines form i [] = []
event_lines form i (e ∷ es) =
    event_line i (number_of e) (post_of e) (answer_of e) (track_named form (track_of e)) ++ event_lines form (suc i) es

-- 'Then one line per section', from section s on, of a line of posts: each lies between a post and the next; with the field of its track
unfoldable pub section_lines : List ℕ → ℕ → List Post → List ℕ
section_lines track s [] = []
section_lines track s (p ∷ []) = []
section_lines track s (p ∷ d ∷ ps) = section_line (section_numbers s p d) track ++ section_lines track (suc s) (d ∷ ps)

-- the lines of a sheet that is worked: events, then 'S lines of track 1 first'; a sheet of one track has no second line of posts
unfoldable pub lines_of : Tracked → List ℕ
lines_of t =
    event_lines t.form 1 (marked (worked_tracked t).events t.tracks)
    ++ (section_lines (track_named t.form track_one) 0 (end_of t).first
    ++ section_lines (track_named t.form track_two) 0 (end_of t).second)

-- the answer to a sheet of either form: an output as long as the sheet is lent, so 21 never comes
abbrev pub answer_to : List ℕ → Verdict
answer_to s = work_verdict_up_to two_tracks s (length s)

-- what is printed of the bytes on standard input
unfoldable pub listing_of : List ℕ → List ℕ
listing_of s =
    pick (eqb (answer_to s).number 0) (lines_of (decode_tracked s))
    (refused_line (answer_to s).number (answer_to s).block (answer_to s).position)
