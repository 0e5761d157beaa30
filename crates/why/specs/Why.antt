-- Tell the pupil why: the event since which a refusal of 8, 9 or 13 holds. 02, item 1; of a sheet of two tracks, item 7, it is asked of the chosen event's track.
-- Assumes nothing.
use Rattle.std.specs.Prelude.{Result, Ok, Err, ℕ, zero, suc, ◌-◌, Bool, true, not, ◌&&◌, ◌||◌, List, [], ◌∷◌, eqb, leb, length, get_or, take}
use Rattle.relay.specs.Answers.{lDown, rlDown, rlUp}
use Rattle.relay.specs.Choice.{pick}
use Rattle.relay.specs.Posts.{at}
use Rattle.relay.specs.Relays.{L, RL, up, down}
use Rattle.relay.specs.declared.Post.{Post}
use Rattle.sheet.specs.Entry.{post_of, answer_of}
use Rattle.sheet.specs.Layout.{one_track, two_tracks}
use Rattle.sheet.specs.Reading.{verdict_up_to, decode_tracked}
use Rattle.sheet.specs.Sheet.{Tracked, circuit_of}
use Rattle.tracks.specs.Circuit.{AfterTwo, track_two}
use Rattle.working.specs.Run.{marked, begun_by, next_by, run_by}
use Rattle.sheet.specs.Refusals.{verdict_of_refusal}
use Rattle.why.specs.declared.Refusal.{Refusal}
use Rattle.why.specs.declared.Refusal.TheVariants.{NoSuchRefusal, Sheet}
use Rattle.why.specs.declared.Since.{Since}

-- 29, 'when the sheet's answers aren't the ones that working its events gives, or the chosen event has another answer or doesn't exist'
abbrev pub no_such_refusal : ℕ
no_such_refusal = 29

-- ---- the run of a sheet's events, of one track or of two
-- the event at position k, from 1
abbrev pub event_at : Tracked → ℕ → List ℕ
event_at t k = get_or t.events (k - 1) []

-- its track: 'bit 16 of an event word is the track (0 for track 1)'
abbrev pub track_at : Tracked → ℕ → ℕ
track_at t k = get_or t.tracks (k - 1) 0

-- the lines and head that the sheet's session begins with
abbrev pub begun_of : Tracked → AfterTwo
begun_of t = begun_by t.form t.table t.stamp

-- both lines and the head after the first i events, each taken on its track
abbrev pub state_after : Tracked → ℕ → AfterTwo
state_after t i = run_by t.form (circuit_of t.table) (begun_of t) (take i (marked t.events t.tracks))

-- the line of a track
abbrev pub line_at : ℕ → AfterTwo → List Post
line_at track a = pick (eqb track track_two) a.second a.first

-- ---- what a refusal says of a relay of its post
-- 'After a refusal of 8, 9 or 13'
unfoldable pub speaks : ℕ → Bool
speaks n = eqb n lDown || (eqb n rlDown || eqb n rlUp)

-- 'L for 8 or RL for 9', dropped; 'RL for 13', raised: the relay is in the state that refusal n speaks of, in the word w
unfoldable pub so : ℕ → ℕ → Bool
so n w = pick (eqb n lDown) (down L w) (pick (eqb n rlDown) (down RL w) (up RL w))

-- it is so at post p of a track after the first i events
abbrev pub so_after : Tracked → ℕ → ℕ → ℕ → ℕ → Bool
so_after t track n p i = so n (at (line_at track (state_after t i)) p).word

-- 'the position of the event that put the relay in that state': the last of the first i events before which it was not so and after which it was, 0 where there is none
unfoldable pub last_made : Tracked → ℕ → ℕ → ℕ → ℕ → ℕ
last_made t track n p zero = 0
last_made t track n p (suc i) =
    pick (not (so_after t track n p i) && so_after t track n p (suc i)) (suc i) (last_made t track n p i)

-- ---- what is refused with 29
-- 'the sheet's answers' are 'the ones that working its events gives': the events with their tracks, c being the circuit
unfoldable pub right_answers : ℕ → ℕ → AfterTwo → List (List ℕ) → Bool
right_answers form c a [] = true
right_answers form c a (e ∷ es) =
    eqb (answer_of e) (next_by form c a e).told.answer && right_answers form c (next_by form c a e) es

abbrev pub as_worked : Tracked → Bool
as_worked t = right_answers t.form (circuit_of t.table) (begun_of t) (marked t.events t.tracks)

-- the event at position k exists and has one of the three answers
unfoldable pub asked : Tracked → ℕ → Bool
asked t k = leb 1 k && (leb k (length t.events) && speaks (answer_of (event_at t k)))

-- ---- the answer
abbrev pub since : ℕ → ℕ → ℕ → Since
since number block position = record { number = number; block = block; position = position }

-- an outcome in numbers
abbrev pub since_told : Result ℕ Refusal → Since
since_told (Ok position) = since 0 0 position
since_told (Err NoSuchRefusal) = since no_such_refusal 0 0
since_told (Err (Sheet refusal)) =
    since (verdict_of_refusal refusal).number (verdict_of_refusal refusal).block (verdict_of_refusal refusal).position

-- of the events before position k, the one that last made what refusal n says so at post p of a track
unfoldable pub since_when : Tracked → ℕ → ℕ → ℕ → ℕ → Since
since_when t track n p k = pick (as_worked t) (since 0 0 (last_made t track n p (k - 1))) (since no_such_refusal 0 0)

-- of a good sheet: the post and the track are those that the chosen event names
unfoldable pub since_in : Tracked → ℕ → Since
since_in t k =
    pick (asked t k) (since_when t (track_at t k) (answer_of (event_at t k)) (post_of (event_at t k)) k) (since no_such_refusal 0 0)

-- 'Refusals: 29, after those of reading', where a sheet may be of so many tracks at the most
unfoldable pub since_up_to : ℕ → List ℕ → ℕ → Since
since_up_to most s k =
    pick (not (eqb (verdict_up_to most s).number 0))
    (since (verdict_up_to most s).number (verdict_up_to most s).block (verdict_up_to most s).position)
    (since_in (decode_tracked s) k)

-- of a sheet of one track
abbrev pub since_of : List ℕ → ℕ → Since
since_of s k = since_up_to one_track s k

-- of a sheet of one track or of two
abbrev pub since_tracks_of : List ℕ → ℕ → Since
since_tracks_of s k = since_up_to two_tracks s k
