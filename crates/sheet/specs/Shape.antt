-- The layout as the reader takes it: of one block whose counts are right how many events it holds, and where its zeros begin; of a sheet that no event word has upper bits.
-- That contents are right exactly when the shape is, its event words are and the rest is zero stands in proofs/Contents.antt.
-- Assumes nothing.
use Rattle.std.specs.Prelude.{ℕ, ◌+◌, ◌*◌, ◌/◌, ◌%◌, ◌-◌, ◌≤◌, ◌<◌, true, ◌&&◌, List, Option, Some, None, ◌≡◌, eqb, length}
use Rattle.relay.specs.Choice.{pick}
use Rattle.sheet.specs.Layout.{block_bytes, most_blocks, per_block, most_entries}
use Rattle.sheet.specs.Sheet.{table_words}
use Rattle.sheet.specs.Check.{word}
use Rattle.sheet.specs.Entry.{upper_zero}
use Rattle.sheet.specs.Reading.{form_in, table_in, table_fits, form_ok, events_fit, words_in, entries_in}
use Rattle.sheet.specs.declared.Shape.{Shape}

abbrev pub shape : ℕ → ℕ → Option Shape
shape events used = Some (record { events = events; used = used })

-- block 0 of a sheet that may be of so many tracks; none where it departs from the layout
unfoldable pub head_shape : ℕ → List ℕ → Option Shape
head_shape most s =
    pick (form_ok most (form_in s) && table_fits (form_in s) (table_in s))
    (shape 0 (3 + table_words (form_in s) (word s 0 1))) None

-- block b of n
unfoldable pub shape_of : ℕ → List ℕ → ℕ → ℕ → Option Shape
shape_of most s n b =
    pick (eqb b 0) (head_shape most s)
    (pick (events_fit (word s b 0) (eqb (b + 1) n)) (shape (word s b 0) (1 + word s b 0 * 2)) None)

-- the words of the first m events have no upper bits
abbrev pub NoUpper : List ℕ → ℕ → Type 0
NoUpper s m = (i : ℕ) → i < m → upper_zero (form_in s) (word s (1 + i / per_block) (1 + i % per_block * 2)) ≡ true

-- what a reader of a good sheet needs: its first block, a table of two tracks at the most, and its events in its blocks with no upper bits
pub record Kept (s : List ℕ) : Type 0 where
  pub one_block : block_bytes ≤ length s
  pub not_long : length s ≤ most_blocks * block_bytes
  pub few_words : words_in s ≤ 65
  pub few_entries : entries_in s ≤ most_entries
  pub within : (entries_in s + (per_block - 1)) / per_block * block_bytes + block_bytes ≤ length s
  pub no_upper : NoUpper s (entries_in s)
