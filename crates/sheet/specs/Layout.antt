-- The numbers of the event sheet, each named once. 01, 'The event sheet' and 'Numbers returned'.
-- Assumes nothing.
use Rattle.std.specs.Prelude.{ℕ}

-- 'A block is 128 little-endian 32-bit words', of 512 bytes
abbrev pub block_words : ℕ
block_words = 128

abbrev pub block_bytes : ℕ
block_bytes = 512

-- the last word of a block is its check
abbrev pub check_at : ℕ
check_at = 127

-- 'the sum of its 128 words .. is 317944 plus the block's number'
abbrev pub check_base : ℕ
check_base = 317944

-- 'A sheet is 1 to 64 blocks'
abbrev pub most_blocks : ℕ
most_blocks = 64

-- 'the number m of events, 1 to 60'
abbrev pub per_block : ℕ
per_block = 60

-- 'more than 3,780 events to write': 60 in each of 63 blocks
abbrev pub most_entries : ℕ
most_entries = 3780

-- 02, item 7: word 0 of block 0 is how many tracks the sheet is of: 'A two-track sheet has 2 in word 0'
abbrev pub one_track : ℕ
one_track = 1

abbrev pub two_tracks : ℕ
two_tracks = 2

-- 'the circuit kind (0 polarised, 1 vibrated)'
abbrev pub last_circuit : ℕ
last_circuit = 1

-- 'Answer 31 means not yet answered.'
abbrev pub unanswered : ℕ
unanswered = 31

-- the numbers returned
abbrev pub length_wrong : ℕ
length_wrong = 18

abbrev pub check_wrong : ℕ
check_wrong = 19

abbrev pub contents_wrong : ℕ
contents_wrong = 20

abbrev pub room_short : ℕ
room_short = 21

-- 02, item 6: '24 for those bits', the upper sixteen of an event word
abbrev pub upper_bits : ℕ
upper_bits = 24
