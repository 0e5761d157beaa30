-- What `desk why POSITION` prints of the sheet on standard input, of one track or of two. 02, items 1 and 7.
-- Assumes nothing.
use Rattle.std.specs.Prelude.{ℕ, List, [], eqb}
use Rattle.relay.specs.Choice.{pick}
use Rattle.sheet.specs.Entry.{number_of, post_of, answer_of}
use Rattle.sheet.specs.Reading.{decode_tracked}
use Rattle.sheet.specs.Sheet.{Tracked}
use Rattle.digits.specs.Digits.{digits}
use Rattle.listing.specs.Lines.{line, track_named, event_line, refused_line}
use Rattle.why.specs.Why.{event_at, track_at, since_tracks_of}
use Rattle.why.specs.declared.Since.{Since}

-- 'RL up from the start gives position 0': no event, the position alone
unfoldable pub start_line : List ℕ
start_line = line (digits 0) []

-- the line that the listing has of the event at position k
abbrev pub event_text : Tracked → ℕ → List ℕ
event_text t k =
    event_line k (number_of (event_at t k)) (post_of (event_at t k)) (answer_of (event_at t k)) (track_named t.form (track_at t k))

-- 'the position of the event that put the relay in that state', with what that event is; a refusal as the listing has it
unfoldable pub answer_text : Tracked → Since → List ℕ
answer_text t r =
    pick (eqb r.number 0)
    (pick (eqb r.position 0) start_line (event_text t r.position))
    (refused_line r.number r.block r.position)

unfoldable pub since_text : List ℕ → ℕ → List ℕ
since_text s k = answer_text (decode_tracked s) (since_tracks_of s k)
