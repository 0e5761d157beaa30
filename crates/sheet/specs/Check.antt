-- The check of a block. 01, 'The event sheet': 'The sum of its 128 words, carried round at 2^32, is 317944 plus the block's number; word 127 is set so.'
-- The laws stand in proofs/Sums.antt.
-- Assumes nothing.
use Rattle.std.specs.Prelude.{ℕ, zero, suc, ◌+◌, ◌-◌, ◌*◌, ◌%◌, ◌^◌, Bool, ◌&&◌, List, eqb, length, take, drop}
use Rattle.sheet.specs.Layout.{block_bytes, block_words, check_base}
use Rattle.sheet.specs.Words.{word_at}

-- the sum of f's first n values
unfoldable pub sum : (ℕ → ℕ) → ℕ → ℕ
sum f zero = 0
sum f (suc n) = sum f n + f n

-- word k of block b of the sheet s
abbrev pub word : List ℕ → ℕ → ℕ → ℕ
word s b k = word_at s (b * block_bytes + k * 4)

-- what the words of block b add up to
abbrev pub target : ℕ → ℕ
target b = check_base + b

-- the words that stand in place p of s check as those of block b: 'The sum of its 128 words, carried round at 2^32, is 317944 plus the block's number'
unfoldable pub checks_as : List ℕ → ℕ → ℕ → Bool
checks_as s p b = eqb (sum (word s p) block_words % 2 ^ 32) (target b)

-- block b of a sheet checks
abbrev pub checks : List ℕ → ℕ → Bool
checks s b = checks_as s b b

-- 02, item 4: 'the check of a block', by itself. The bytes of one block check as those of block b; bytes of any other length do not
unfoldable pub checks_alone : List ℕ → ℕ → Bool
checks_alone t b = eqb (length t) block_bytes && checks_as t 0 b

-- the bytes of block b of a sheet
abbrev pub block_of : List ℕ → ℕ → List ℕ
block_of s b = take block_bytes (drop (b * block_bytes) s)

-- the word 127 that brings a block whose other words add up to n to the target
unfoldable pub seal : ℕ → ℕ → ℕ
seal n b = (target b + (2 ^ 32 - n % 2 ^ 32)) % 2 ^ 32
