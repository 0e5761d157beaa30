-- The paper's check words, the order of a word's bytes, and what reading names in a spoiled block: computed whole.
-- Assumes nothing.
use Prim.Native.Nat.{◌+◌, ◌*◌}
use mathlib.Core.Path.{◌≡◌, refl}
use mathlib.Core.Bool.{true, false}
use mathlib.Core.List.{[], ◌∷◌}
use Rattle.sheet.specs.Check.{sum, checks_as, checks_alone, block_of, seal}
use Rattle.sheet.specs.Entry.{packed, on_track, upper_zero}
use Rattle.sheet.specs.Examples.{both_tracks, on_track_two, bit_seventeen, two_blocks, spoiled, not_zero, no_count, no_check}
use Rattle.sheet.specs.Layout.{check_at}
use Rattle.sheet.specs.Sheet.{of_one, table_words, posts_of, head_word, events_word, sheet_word, encode, encode_tracked}
use Rattle.sheet.specs.Words.{word_at, put_word, bytes, tab}
use Rattle.sheet.specs.Reading.{zeros, tables_ok, table_fits, form_ok, head_ok, first_upper, events_fit, events_ok, verdict_at, verdict, contents_fault, first_bad, length_ok, verdict_up_to, verdict_of}
use Rattle.relay.specs.Kinds.{is_short, ordinary, between, count_fits, kind_fits, kinds_fit, table_ok}

-- the check words of block 0 and of the block after it
pub check_words : (sheet_word (of_one two_blocks) 0 check_at ≡ 317940) × (sheet_word (of_one two_blocks) 1 check_at ≡ 253455)
unfolding sheet_word head_word events_word posts_of on_track packed sum seal
check_words = (refl, refl)

-- 'little-endian 32-bit words': 1 and 1000, and one with four different bytes
pub lowest_first : bytes (1 ∷ 1000 ∷ 67305985 ∷ []) ≡ 1 ∷ 0 ∷ 0 ∷ 0 ∷ 232 ∷ 3 ∷ 0 ∷ 0 ∷ 1 ∷ 2 ∷ 3 ∷ 4 ∷ []
unfolding bytes
lowest_first = refl

-- the paper's two blocks by themselves, each as its own number and not as the other's
pub blocks-alone :
    (checks_alone (block_of (encode two_blocks) 0) 0 ≡ true)
    × (checks_alone (block_of (encode two_blocks) 0) 1 ≡ false)
    × (checks_alone (block_of (encode two_blocks) 1) 1 ≡ true)
    × (checks_alone (block_of (encode two_blocks) 1) 0 ≡ false)
unfolding checks_alone checks_as encode encode_tracked sheet_word head_word events_word posts_of on_track packed sum seal bytes tab word_at
blocks-alone = (refl, refl, refl, refl)

-- 02, item 6: what reading names, with upper bits in two events and a word that is not zero, and then at each step
pub spoiled-named : (verdict_of not_zero ≡ verdict_at 24 1 1) × (verdict_of no_count ≡ verdict 20 1) × (verdict_of no_check ≡ verdict 19 1)
unfolding verdict_up_to length_ok first_bad contents_fault head_ok form_ok table_fits table_words events_ok events_fit first_upper zeros upper_zero table_ok count_fits kinds_fit kind_fits between ordinary is_short checks_as encode encode_tracked sheet_word head_word events_word posts_of on_track packed sum seal bytes tab word_at put_word spoiled
spoiled-named = (refl, refl, refl)

-- 02, item 7: block 0 of two tracks, word by word, with the circuit after track 2's kinds; and the event word with its track
pub track-words :
    (tab (sheet_word (both_tracks 1) 0) 9 ≡ 2 ∷ 2 ∷ 7 ∷ 0 ∷ 1 ∷ 0 ∷ 17 ∷ 1 ∷ 0 ∷ [])
    × (sheet_word on_track_two 1 1 ≡ 5 + 31 * 2048 + 65536)
unfolding tab sheet_word head_word events_word posts_of on_track packed
track-words = (refl, refl)

-- taken where two tracks are, refused 20 with block 0 where one is, and with a circuit that is no kind; bit 16 is the track, bit 17 is refused
pub tracks-named :
    (verdict_up_to 2 (encode_tracked (both_tracks 1)) ≡ verdict 0 0)
    × (verdict_of (encode_tracked (both_tracks 1)) ≡ verdict 20 0)
    × (verdict_up_to 2 (encode_tracked (both_tracks 2)) ≡ verdict 20 0)
    × (verdict_up_to 2 (encode_tracked on_track_two) ≡ verdict 0 0)
    × (verdict_up_to 2 bit_seventeen ≡ verdict_at 24 1 0)
unfolding verdict_up_to length_ok first_bad contents_fault head_ok form_ok table_fits tables_ok table_words events_ok events_fit first_upper zeros upper_zero table_ok count_fits kinds_fit kind_fits between ordinary is_short checks_as encode_tracked sheet_word head_word events_word posts_of on_track packed sum seal bytes tab word_at put_word spoiled
tracks-named = (refl, refl, refl, refl, refl)
