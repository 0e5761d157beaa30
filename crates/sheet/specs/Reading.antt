-- Reading a sheet. 01, 'The event sheet': 'Reading tests the length (18), then each block in turn, check before contents, and stops at once at the first bad block, naming it.'
-- Which forms are taken is said by the most tracks that a sheet may be of: 1, and since 02, item 7, also 2.
-- Assumes nothing.
use Rattle.std.specs.Prelude.{ℕ, zero, suc, ◌+◌, ◌-◌, ◌*◌, ◌/◌, ◌%◌, Bool, true, not, ◌&&◌, ◌||◌, ◌≡◌, List, ◌++◌, eqb, leb, length, drop}
use Rattle.relay.specs.Choice.{pick}
use Rattle.relay.specs.Kinds.{table_ok}
use Rattle.sheet.specs.Layout.{block_bytes, most_blocks, check_at, per_block, one_track, two_tracks, last_circuit, length_wrong, check_wrong, contents_wrong, room_short, upper_bits}
use Rattle.sheet.specs.Words.{tab}
use Rattle.sheet.specs.Check.{word, checks}
use Rattle.sheet.specs.Entry.{entry_of, track_in, upper_zero}
use Rattle.sheet.specs.Sheet.{Sheet, Tracked, table_words, posts_of, first_kinds, second_kinds, circuit_of}
use Rattle.sheet.specs.declared.Verdict.{Verdict}
use Rattle.sheet.specs.declared.Found.{Found}
use Rattle.sheet.specs.declared.FoundTracks.{FoundTracks}

-- ---- contents: 'wrong (20) exactly when they depart from this layout'; since 02, item 6: 20 or 24
-- the words from k up to, not including, word 127 of block b are zero: n of them
unfoldable pub zeros : List ℕ → ℕ → ℕ → ℕ → Bool
zeros s b k zero = true
zeros s b k (suc n) = eqb (word s b k) 0 && zeros s b (k + 1) n

-- how many tracks the sheet says it is of
abbrev pub form_in : List ℕ → ℕ
form_in s = word s 0 0

-- the N kinds that stand from word k of block 0 on, and the table of one track
abbrev pub kinds_at : List ℕ → ℕ → List ℕ
kinds_at s k = tab (λ i. word s 0 (k + i)) (word s 0 1)

abbrev pub kinds_in : List ℕ → List ℕ
kinds_in s = kinds_at s 3

-- the table of block 0, of either form
abbrev pub table_in : List ℕ → List ℕ
table_in s = tab (λ i. word s 0 (3 + i)) (table_words (form_in s) (word s 0 1))

-- starting would not refuse two tables of one length and their circuit
unfoldable pub tables_ok : List ℕ → Bool
tables_ok ks =
    eqb (length ks % 2) 1
    && (table_ok (first_kinds ks) && (table_ok (second_kinds ks) && leb (circuit_of ks) last_circuit))

-- starting would not refuse the table of a sheet of so many tracks
unfoldable pub table_fits : ℕ → List ℕ → Bool
table_fits form ks = pick (eqb form two_tracks) (tables_ok ks) (table_ok ks)

-- word 0 of block 0, where a sheet may be of so many tracks at the most
unfoldable pub form_ok : ℕ → ℕ → Bool
form_ok most form = leb one_track form && leb form most

-- block 0: word 0 is 1, or 2; starting would not refuse N or the kinds; the rest are zero
unfoldable pub head_ok : ℕ → List ℕ → Bool
head_ok most s =
    (form_ok most (form_in s) && table_fits (form_in s) (table_in s))
    && zeros s 0 (3 + table_words (form_in s) (word s 0 1)) (check_at - (3 + table_words (form_in s) (word s 0 1)))

-- 'the event's position in the block, from 0': of n events of block b from event j on, the first whose word has upper bits; j + n where none has
unfoldable pub first_upper : List ℕ → ℕ → ℕ → ℕ → ℕ
first_upper s b j zero = j
first_upper s b j (suc n) = pick (upper_zero (form_in s) (word s b (1 + j * 2))) (first_upper s b (j + 1) n) j

-- 'bits 16 to 31 are zero', of the n events of block b: there is no first one whose word has upper bits
abbrev pub entries_ok : List ℕ → ℕ → ℕ → Bool
entries_ok s b n = eqb (first_upper s b 0 n) n

-- 'the number m of events, 1 to 60'; 'All but the last of these hold 60.'
unfoldable pub events_fit : ℕ → Bool → Bool
events_fit m last = (leb 1 m && leb m per_block) && (last || eqb m per_block)

-- a later block, the last of the sheet or not
unfoldable pub events_ok : List ℕ → ℕ → Bool → Bool
events_ok s b last =
    events_fit (word s b 0) last
    && (entries_ok s b (word s b 0) && zeros s b (1 + word s b 0 * 2) (check_at - (1 + word s b 0 * 2)))

-- block b of a sheet of n blocks
abbrev pub contents_ok : ℕ → List ℕ → ℕ → ℕ → Bool
contents_ok most s n b = pick (eqb b 0) (head_ok most s) (events_ok s b (eqb (b + 1) n))

-- ---- the first bad block
-- a refusal, its block and the event's position in it
abbrev pub verdict_at : ℕ → ℕ → ℕ → Verdict
verdict_at number block position = record { number = number; block = block; position = position }

-- one that names no event: its position is 0
abbrev pub verdict : ℕ → ℕ → Verdict
verdict number block = verdict_at number block 0

-- what the contents of block b of n are refused with, where they depart from the layout: the first of these that holds
-- 02, item 6: 'Refusals: 24 for those bits, after 20 for the count m and before 20 for words that should be zero.'
unfoldable pub contents_fault : List ℕ → ℕ → ℕ → Verdict
contents_fault s n b =
    -- anything in block 0; the number m of a later one
    pick (eqb b 0 || not (events_fit (word s b 0) (eqb (b + 1) n))) (verdict contents_wrong b)
    -- the first event word with upper bits
    (pick (not (entries_ok s b (word s b 0))) (verdict_at upper_bits b (first_upper s b 0 (word s b 0)))
    -- words that should be zero
    (verdict contents_wrong b))

-- m blocks from block b on: 19, 20 or 24 with the first bad one, or 0 and 0. Check before contents
unfoldable pub first_bad : ℕ → List ℕ → ℕ → ℕ → ℕ → Verdict
first_bad most s n b zero = verdict 0 0
first_bad most s n b (suc m) =
    pick (not (checks s b)) (verdict check_wrong b)
    (pick (not (contents_ok most s n b)) (contents_fault s n b)
    (first_bad most s n (b + 1) m))

-- 'A sheet is 1 to 64 blocks of 512 bytes'
unfoldable pub length_ok : ℕ → Bool
length_ok n = eqb (n % block_bytes) 0 && (leb block_bytes n && leb n (most_blocks * block_bytes))

-- how many blocks a sheet of n bytes has
abbrev pub blocks_in : ℕ → ℕ
blocks_in n = n / block_bytes

-- 'Reading tests the length (18), then each block in turn'
unfoldable pub verdict_up_to : ℕ → List ℕ → Verdict
verdict_up_to most s =
    pick (not (length_ok (length s))) (verdict length_wrong 0) (first_bad most s (blocks_in (length s)) 0 (blocks_in (length s)))

-- of a sheet of one track
abbrev pub verdict_of : List ℕ → Verdict
verdict_of s = verdict_up_to one_track s

-- the sheet is accepted
abbrev pub accepted : List ℕ → Bool
accepted s = eqb (verdict_of s).number 0

-- ---- what a good sheet says
-- how many words its table has
abbrev pub words_in : List ℕ → ℕ
words_in s = table_words (form_in s) (word s 0 1)

-- how many events: 60 in each event block but the last, and there as many as it says
unfoldable pub entries_in : List ℕ → ℕ
entries_in s =
    pick (leb (blocks_in (length s)) 1) 0
    ((blocks_in (length s) - 2) * per_block + word s (blocks_in (length s) - 1) 0)

-- event i
abbrev pub entry_in : List ℕ → ℕ → List ℕ
entry_in s i =
    entry_of (word s (1 + i / per_block) (1 + i % per_block * 2)) (word s (1 + i / per_block) (2 + i % per_block * 2))

unfoldable pub decode : List ℕ → Sheet
decode s = record { stamp = word s 0 2; kinds = kinds_in s; events = tab (entry_in s) (entries_in s) }

-- the track of event i
abbrev pub track_on : List ℕ → ℕ → ℕ
track_on s i = track_in (word s (1 + i / per_block) (1 + i % per_block * 2))

-- and what a good sheet of either form says
unfoldable pub decode_tracked : List ℕ → Tracked
decode_tracked s =
    record {
      form = form_in s;
      stamp = word s 0 2;
      table = table_in s;
      events = tab (entry_in s) (entries_in s);
      tracks = tab (track_on s) (entries_in s);
    }

-- ---- reading into lent room, for kinds and for events
-- what a refusal returns: 'its number and block (0 for 18 and 21), nothing else', and the event's position
abbrev pub refused : Verdict → Found
refused v = record { number = v.number; block = v.block; position = v.position; posts = 0; stamp = 0; events = 0 }

abbrev pub found : Sheet → Found
found t =
    record { number = 0; block = 0; position = 0; posts = length t.kinds; stamp = t.stamp; events = length t.events }

-- both rooms are long enough
unfoldable pub room_for : Sheet → ℕ → ℕ → Bool
room_for t m n = leb (length t.kinds) m && leb (length t.events) n

-- what is returned: 'room too short for them gives 21, last'
unfoldable pub read_of : List ℕ → ℕ → ℕ → Found
read_of s m n =
    pick (not (accepted s)) (refused (verdict_of s))
    (pick (not (room_for (decode s) m n)) (refused (verdict room_short 0)) (found (decode s)))

-- a room after reading that returned the number n: what is handed out and then 'room past them stays as it was'; on a refusal as it was
abbrev pub handed_by : {X : Type 0} → ℕ → List X → List X → List X
handed_by n xs room = pick (eqb n 0) (xs ++ drop (length xs) room) room

abbrev pub handed : {X : Type 0} → Found → List X → List X → List X
handed r xs room = handed_by r.number xs room

-- what is returned and both rooms afterwards
abbrev pub Reads : List ℕ → Found → List ℕ → List ℕ → List (List ℕ) → List (List ℕ) → Type 0
Reads s r ks ks' es es' =
    (r ≡ read_of s (length ks) (length es))
    × (ks' ≡ handed r (decode s).kinds ks)
    × (es' ≡ handed r (decode s).events es)

-- ---- reading a sheet of either form into lent room, for its table, its events and their tracks. 02, item 7
abbrev pub refused_tracks : Verdict → FoundTracks
refused_tracks v =
    record { number = v.number; block = v.block; position = v.position; tracks = 0; posts = 0; stamp = 0; events = 0 }

abbrev pub found_tracks : Tracked → FoundTracks
found_tracks t =
    record {
      number = 0;
      block = 0;
      position = 0;
      tracks = t.form;
      posts = posts_of t.form (length t.table);
      stamp = t.stamp;
      events = length t.events;
    }

-- all three rooms are long enough
unfoldable pub room_for_tracks : Tracked → ℕ → ℕ → ℕ → Bool
room_for_tracks t m n k = leb (length t.table) m && (leb (length t.events) n && leb (length t.tracks) k)

unfoldable pub read_tracks_of : List ℕ → ℕ → ℕ → ℕ → FoundTracks
read_tracks_of s m n k =
    pick (not (eqb (verdict_up_to two_tracks s).number 0)) (refused_tracks (verdict_up_to two_tracks s))
    (pick (not (room_for_tracks (decode_tracked s) m n k)) (refused_tracks (verdict room_short 0)) (found_tracks (decode_tracked s)))

-- what is returned and the three rooms afterwards
abbrev pub ReadsTracks : List ℕ → FoundTracks → List ℕ → List ℕ → List (List ℕ) → List (List ℕ) → List ℕ → List ℕ → Type 0
ReadsTracks s r ks ks' es es' ts ts' =
    (r ≡ read_tracks_of s (length ks) (length es) (length ts))
    × (ks' ≡ handed_by r.number (decode_tracked s).table ks)
    × (es' ≡ handed_by r.number (decode_tracked s).events es)
    × (ts' ≡ handed_by r.number (decode_tracked s).tracks ts)
