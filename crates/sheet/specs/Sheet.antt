-- The event sheet: which word stands where. 01, 'The event sheet'; 02, item 7, for a sheet of two tracks. Reading and writing, of either form, are all stated by this one description.
-- Assumes nothing.
use Rattle.std.specs.Prelude.{ℕ, ◌+◌, ◌-◌, ◌*◌, ◌/◌, ◌%◌, min, List, [], ◌∷◌, eqb, ltb, length, get_or, take, drop, replicate}
use Rattle.relay.specs.Choice.{pick}
use Rattle.sheet.specs.Layout.{block_words, check_at, per_block, one_track, two_tracks}
use Rattle.sheet.specs.Words.{bytes, tab}
use Rattle.sheet.specs.Check.{sum, seal}
use Rattle.sheet.specs.Entry.{entry_word, on_track, stamp_of}

-- what a sheet of one track says: its start stamp, its table of kinds, its events
pub record Sheet : Type 0 where
  pub stamp : ℕ
  pub kinds : List ℕ
  pub events : List (List ℕ)

-- event i
abbrev pub event_at : Sheet → ℕ → List ℕ
event_at t i = get_or t.events i []

-- what a sheet of either form says: how many tracks it is of, its start stamp, its table, its events, and the track of each
-- 'track 2's kinds after track 1's, then the circuit kind': so stands the table of two tracks; of one it is the kinds
pub record Tracked : Type 0 where
  pub form : ℕ
  pub stamp : ℕ
  pub table : List ℕ
  pub events : List (List ℕ)
  pub tracks : List ℕ

-- a sheet of one track, whose events are all on track 0
abbrev pub of_one : Sheet → Tracked
of_one t =
    record { form = one_track; stamp = t.stamp; table = t.kinds; events = t.events; tracks = replicate (length t.events) 0 }

-- how many words the table of n posts has, and how many posts a table of m words
unfoldable pub table_words : ℕ → ℕ → ℕ
table_words form n = pick (eqb form two_tracks) (n * 2 + 1) n

unfoldable pub posts_of : ℕ → ℕ → ℕ
posts_of form m = pick (eqb form two_tracks) (m / 2) m

-- 'track 2's kinds after track 1's, then the circuit kind': the parts of a table of two tracks
abbrev pub first_kinds : List ℕ → List ℕ
first_kinds ks = take (length ks / 2) ks

abbrev pub second_kinds : List ℕ → List ℕ
second_kinds ks = take (length ks / 2) (drop (length ks / 2) ks)

abbrev pub circuit_of : List ℕ → ℕ
circuit_of ks = get_or ks (length ks / 2 * 2) 0

-- event i and its track
abbrev pub entry_at : Tracked → ℕ → List ℕ
entry_at t i = get_or t.events i []

abbrev pub track_at : Tracked → ℕ → ℕ
track_at t i = get_or t.tracks i 0

-- how many events stand in event block c, counted from 0, of n: 'All but the last of these hold 60.'
abbrev pub held : ℕ → ℕ → ℕ
held n c = min per_block (n - c * per_block)

-- how many blocks a sheet of n events has
abbrev pub blocks_for : ℕ → ℕ
blocks_for n = 1 + (n + (per_block - 1)) / per_block

-- 'Block 0: word 0 is 1, word 1 is N, word 2 the start stamp, words 3 onward the N kinds; the rest up to word 126 are zero.'; of two tracks word 0 is 2
unfoldable pub head_word : Tracked → ℕ → ℕ
head_word t k = get_or (t.form ∷ posts_of t.form (length t.table) ∷ t.stamp ∷ t.table) k 0

-- 'Later blocks: word 0 is the number m of events, 1 to 60; event j (from 0) has its word at 1+2j and its stamp at 2+2j; the rest up to word 126 are zero.'
-- Word k of event block c
unfoldable pub events_word : Tracked → ℕ → ℕ → ℕ
events_word t c k =
    pick (eqb k 0) (held (length t.events) c)
    (pick (ltb (held (length t.events) c * 2) k) 0
    (pick (eqb (k % 2) 1)
    (on_track (entry_word (entry_at t (c * per_block + (k - 1) / 2))) (track_at t (c * per_block + (k - 1) / 2)))
    (stamp_of (entry_at t (c * per_block + (k - 1) / 2)))))

-- word k of block b, its check aside
abbrev pub body_word : Tracked → ℕ → ℕ → ℕ
body_word t b k = pick (eqb b 0) (head_word t k) (events_word t (b - 1) k)

-- word k of block b: 'word 127 is set so'
unfoldable pub sheet_word : Tracked → ℕ → ℕ → ℕ
sheet_word t b k = pick (ltb k check_at) (body_word t b k) (seal (sum (body_word t b) check_at) b)

-- the bytes of a sheet of either form
unfoldable pub encode_tracked : Tracked → List ℕ
encode_tracked t = bytes (tab (λ i. sheet_word t (i / block_words) (i % block_words)) (blocks_for (length t.events) * block_words))

-- and of one track
unfoldable pub encode : Sheet → List ℕ
encode t = encode_tracked (of_one t)
