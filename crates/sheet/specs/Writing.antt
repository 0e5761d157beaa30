-- Writing a sheet. 01, 'The event sheet': 'Writing tests 1, 20, 18, 21 in that order, and a refused write returns the number alone; bytes past the sheet stay as they were.'
-- Assumes nothing.
use Rattle.std.specs.Prelude.{ℕ, ◌*◌, Bool, true, not, ◌&&◌, ◌≡◌, List, [], ◌∷◌, ◌++◌, eqb, leb, ltb, length, drop}
use Rattle.relay.specs.Answers.{notValid}
use Rattle.relay.specs.Choice.{pick}
use Rattle.relay.specs.Kinds.{table_ok}
use Rattle.sheet.specs.Layout.{block_bytes, most_entries, two_tracks, length_wrong, contents_wrong, room_short}
use Rattle.sheet.specs.Entry.{in_fields}
use Rattle.sheet.specs.Reading.{form_ok, table_fits}
use Rattle.sheet.specs.Sheet.{Sheet, Tracked, blocks_for, encode, encode_tracked}

-- every event is in its fields
unfoldable pub all_in_fields : List (List ℕ) → Bool
all_in_fields [] = true
all_in_fields (e ∷ es) = in_fields e && all_in_fields es

-- how many bytes a sheet of n events takes
abbrev pub bytes_for : ℕ → ℕ
bytes_for n = blocks_for n * block_bytes

-- 0, or the number of the refusal, with an output of m bytes
unfoldable pub write_number : Sheet → ℕ → ℕ
write_number t m =
    pick (not (table_ok t.kinds)) notValid
    (pick (not (all_in_fields t.events)) contents_wrong
    (pick (not (leb (length t.events) most_entries)) length_wrong
    (pick (not (leb (bytes_for (length t.events)) m)) room_short 0)))

-- the output after writing: the sheet and then what was there; on a refusal as it was
unfoldable pub written : Sheet → List ℕ → List ℕ
written t out =
    pick (eqb (write_number t (length out)) 0) (encode t ++ drop (bytes_for (length t.events)) out) out

-- the number returned and the output afterwards
abbrev pub Writes : Sheet → ℕ → List ℕ → List ℕ → Type 0
Writes t r out out' = (r ≡ write_number t (length out)) × (out' ≡ written t out)

-- ---- a sheet of either form. 02, item 7
-- each of these is below m
unfoldable pub all_below : ℕ → List ℕ → Bool
all_below m [] = true
all_below m (x ∷ xs) = ltb x m && all_below m xs

-- each of n events has its track, which is one of the sheet's: below how many it is of
unfoldable pub tracks_fit : ℕ → ℕ → List ℕ → Bool
tracks_fit form n ts = eqb (length ts) n && all_below form ts

-- starting would refuse neither table nor circuit
abbrev pub may_start : Tracked → Bool
may_start t = form_ok two_tracks t.form && table_fits t.form t.table

-- every event and every track is in its field
abbrev pub all_fit : Tracked → Bool
all_fit t = all_in_fields t.events && tracks_fit t.form (length t.events) t.tracks

-- of n events into m bytes: 'more than 3,780 events to write', then 'output too short'
unfoldable pub size_number : ℕ → ℕ → ℕ
size_number n m = pick (not (leb n most_entries)) length_wrong (pick (not (leb (bytes_for n) m)) room_short 0)

-- 0, or the number of the refusal, with an output of m bytes
unfoldable pub tracked_number : Tracked → ℕ → ℕ
tracked_number t m =
    pick (not (may_start t)) notValid (pick (not (all_fit t)) contents_wrong (size_number (length t.events) m))

-- the output after writing returned r: the sheet and then what was there; on a refusal as it was
unfoldable pub leaves : Tracked → ℕ → List ℕ → List ℕ
leaves t r out = pick (eqb r 0) (encode_tracked t ++ drop (bytes_for (length t.events)) out) out

-- the number returned and the output afterwards
abbrev pub WritesTracked : Tracked → ℕ → List ℕ → List ℕ → Type 0
WritesTracked t r out out' = (r ≡ tracked_number t (length out)) × (out' ≡ leaves t r out)

-- the same once the table and the fields are past
abbrev pub Lays : Tracked → ℕ → List ℕ → List ℕ → Type 0
Lays t r out out' = (r ≡ size_number (length t.events) (length out)) × (out' ≡ leaves t r out)
