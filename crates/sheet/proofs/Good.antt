-- An accepted sheet as plain facts, word by word.
-- Assumes nothing.
use Prim.Native.Nat.{ℕ, ◌+◌, ◌*◌, ◌%◌, ◌^◌, ◌≤◌, ◌<◌}
use mathlib.Core.Path.{◌≡◌}
use mathlib.Core.Bool.{true}
use mathlib.Core.List.{List}
use lib.ListN.{length}
use Rattle.sheet.specs.Layout.{block_bytes, block_words, check_at, most_blocks, per_block}
use Rattle.sheet.specs.Check.{sum, word, target}
use Rattle.sheet.specs.Sheet.{table_words}
use Rattle.sheet.specs.Reading.{form_in, table_in, table_fits, form_ok}

-- s is a good sheet of n blocks, of so many tracks at the most
pub record Good (tracks : ℕ) (n : ℕ) (s : List ℕ) : Type 0 where
  -- 'A sheet is 1 to 64 blocks of 512 bytes'
  pub some : 1 ≤ n
  pub most : n ≤ most_blocks
  pub long : length s ≡ n * block_bytes
  -- 'The sum of its 128 words, carried round at 2^32, is 317944 plus the block's number'
  pub sums : (b : ℕ) → b < n → sum (word s b) block_words % 2 ^ 32 ≡ target b
  -- 'Block 0: word 0 is 1', or 2, starting would not refuse N or the kinds, 'the rest up to word 126 are zero'
  pub first : form_ok tracks (form_in s) ≡ true
  pub table : table_fits (form_in s) (table_in s) ≡ true
  pub rest : (k : ℕ) → 3 + table_words (form_in s) (word s 0 1) ≤ k → k < check_at → word s 0 k ≡ 0
  -- 'Later blocks: word 0 is the number m of events, 1 to 60'
  pub few : (b : ℕ) → 1 ≤ b → b < n → 1 ≤ word s b 0
  pub many : (b : ℕ) → 1 ≤ b → b < n → word s b 0 ≤ per_block
  -- 'All but the last of these hold 60.'
  pub full : (b : ℕ) → 1 ≤ b → b + 1 < n → word s b 0 ≡ per_block
  -- 'bits 16 to 31 are zero', of two tracks 17 to 31
  pub fields : (b : ℕ) → 1 ≤ b → b < n → (j : ℕ) → j < word s b 0 → word s b (1 + j * 2) < form_in s * 65536
  -- 'the rest up to word 126 are zero'
  pub zero : (b : ℕ) → 1 ≤ b → b < n → (k : ℕ) → 1 + word s b 0 * 2 ≤ k → k < check_at → word s b k ≡ 0
