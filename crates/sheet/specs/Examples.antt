-- The paper's two blocks. 01, 'Proved and run examples': 'kinds 0, 1 with start stamp 0 give a block 0 check word of 317940; a following block of event 1 at post 0, answer 31, stamp 1000 has check word 253455'.
-- And a block of three events, spoiled: 02, item 6.
-- That the definitions give these words and name these faults, and the bytes of a word lowest first, stands in proofs/Paper.antt.
-- Assumes nothing.
use Rattle.std.specs.Prelude.{ℕ, ◌+◌, ◌-◌, ◌*◌, ◌%◌, ◌^◌, List, [], ◌∷◌}
use Rattle.sheet.specs.Entry.{entry, packed}
use Rattle.sheet.specs.Sheet.{Sheet, Tracked, encode, encode_tracked}
use Rattle.sheet.specs.Words.{word_at, put_word}

abbrev pub two_blocks : Sheet
two_blocks = record { stamp = 0; kinds = 0 ∷ 1 ∷ []; events = entry 1 0 31 1000 ∷ [] }

-- ---- a block of three events, spoiled
abbrev pub three_events : Sheet
three_events = record { stamp = 0; kinds = 0 ∷ 1 ∷ []; events = entry 1 0 31 0 ∷ entry 2 0 31 0 ∷ entry 5 0 31 0 ∷ [] }

-- word k of block 1 is v, and the block's check is made to fit
unfoldable pub spoiled : List ℕ → ℕ → ℕ → List ℕ
spoiled s k v =
    put_word (put_word s (512 + k * 4) v) 1020 ((word_at s 1020 + (2 ^ 32 + word_at s (512 + k * 4) - v)) % 2 ^ 32)

-- bit 16 of event 1 up and bit 31 of event 2, and one fault more at each step: a word that should be zero, a count of 0, a check that does not fit
abbrev pub two_bits : List ℕ
two_bits = spoiled (spoiled (encode three_events) 3 (packed 2 0 31 + 2 ^ 16)) 5 (packed 5 0 31 + 2 ^ 31)

abbrev pub not_zero : List ℕ
not_zero = spoiled two_bits 126 1

abbrev pub no_count : List ℕ
no_count = spoiled not_zero 0 0

abbrev pub no_check : List ℕ
no_check = put_word no_count 1020 0

-- ---- a sheet of two tracks. 02, item 7: two posts, the circuit c, and one announcement on track 2 or none
abbrev pub both_tracks : ℕ → Tracked
both_tracks c = record { form = 2; stamp = 7; table = 0 ∷ 1 ∷ 0 ∷ 17 ∷ c ∷ []; events = []; tracks = [] }

abbrev pub on_track_two : Tracked
on_track_two = record { form = 2; stamp = 0; table = 0 ∷ 1 ∷ 0 ∷ 1 ∷ 0 ∷ []; events = entry 5 0 31 0 ∷ []; tracks = 1 ∷ [] }

-- its event word with bit 17 up too
abbrev pub bit_seventeen : List ℕ
bit_seventeen = spoiled (encode_tracked on_track_two) 1 (packed 5 0 31 + 2 ^ 16 + 2 ^ 17)
