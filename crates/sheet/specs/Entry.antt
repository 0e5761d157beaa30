-- An event as a sheet has it: its number, post, answer and stamp; and its event word.
-- 01, 'The event sheet': 'An event word packs the event number in bits 0 to 4, post in bits 5 to 10, answer in bits 11 to 15; bits 16 to 31 are zero.'
-- 02, item 7, of a two-track sheet: 'bit 16 of an event word is the track (0 for track 1) and 24 there speaks of bits 17 to 31'.
-- Assumes nothing.
use Rattle.std.specs.Prelude.{ℕ, ◌+◌, ◌*◌, ◌/◌, ◌%◌, Bool, ◌&&◌, List, [], ◌∷◌, Option, Some, None, ltb, get_or}
use Rattle.relay.specs.Choice.{pick}
use Rattle.sheet.specs.Layout.{upper_bits}
use Rattle.sheet.specs.declared.Unpacked.{Unpacked}

-- the four numbers of an event, in this order
abbrev pub entry : ℕ → ℕ → ℕ → ℕ → List ℕ
entry number post answer stamp = number ∷ post ∷ answer ∷ stamp ∷ []

abbrev pub number_of : List ℕ → ℕ
number_of e = get_or e 0 0

abbrev pub post_of : List ℕ → ℕ
post_of e = get_or e 1 0

abbrev pub answer_of : List ℕ → ℕ
answer_of e = get_or e 2 0

abbrev pub stamp_of : List ℕ → ℕ
stamp_of e = get_or e 3 0

-- 'the event number in bits 0 to 4, post in bits 5 to 10, answer in bits 11 to 15'
unfoldable pub packed : ℕ → ℕ → ℕ → ℕ
packed number post answer = number + post * 32 + answer * 2048

-- the fields of an event word
unfoldable pub number_in : ℕ → ℕ
number_in w = w % 32

unfoldable pub post_in : ℕ → ℕ
post_in w = w / 32 % 64

unfoldable pub answer_in : ℕ → ℕ
answer_in w = w / 2048 % 32

unfoldable pub track_in : ℕ → ℕ
track_in w = w / 65536 % 2

-- 'bits 16 to 31 are zero'; of a sheet of two tracks, where bit 16 is the track, bits 17 to 31: the event word stays below 2^16 for each track
unfoldable pub upper_zero : ℕ → ℕ → Bool
upper_zero tracks w = ltb w (tracks * 65536)

-- ---- unpacking. 02, item 6: 'Unpacking an event word should say when its upper sixteen bits are not zero'
-- what each case of its answer stands for: 0 with the event's number, post, answer and track, or 24 and no field
-- 01: 'If an answer is an enum, a definition sets out this paper's number and values for each of the enum's cases.'
abbrev pub values_of : Option Unpacked → List ℕ
values_of (Some u) = 0 ∷ u.number ∷ u.post ∷ u.answer ∷ u.track ∷ []
values_of None = upper_bits ∷ []

-- what unpacking the event word w of a sheet of so many tracks answers
unfoldable pub unpacked : ℕ → ℕ → List ℕ
unpacked tracks w =
    pick (upper_zero tracks w) (0 ∷ number_in w ∷ post_in w ∷ answer_in w ∷ track_in w ∷ []) (upper_bits ∷ [])

-- ---- writing
-- every field of an event to write is in its field; a stamp of any value is
unfoldable pub in_fields : List ℕ → Bool
in_fields e = ltb (number_of e) 32 && (ltb (post_of e) 64 && ltb (answer_of e) 32)

-- the event word of an event
abbrev pub entry_word : List ℕ → ℕ
entry_word e = packed (number_of e) (post_of e) (answer_of e)

-- 'bit 16 of an event word is the track'
unfoldable pub on_track : ℕ → ℕ → ℕ
on_track w track = w + track * 65536

-- the event of an event word and a stamp
abbrev pub entry_of : ℕ → ℕ → List ℕ
entry_of w t = entry (number_in w) (post_in w) (answer_in w) t
