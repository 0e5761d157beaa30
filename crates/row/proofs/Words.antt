-- The word of a post of a row's line, by where the post stands: past the line it is that of a blank record.
-- Assumes nothing.
use Prim.Native.Nat.{ℕ, ◌≤◌}
use mathlib.Core.Path.{◌≡◌, ◌∙◌}
use mathlib.Core.List.{List}
use lib.ListN.{length}
use Rattle.relay.specs.Posts.{at}
use Rattle.relay.specs.declared.Post.{Post}
use Rattle.row.proofs.Held.{held-line}
use Rattle.row.specs.Row.{most, line_of, row_of}
use Rattle.row.specs.declared.Row.{Row}

-- the word of a post of a row that holds the line l is its word there
pub held_word : (p : ℕ) (row : Row) (l : List Post) → length l ≤ most → row ≡ row_of l → (w : ℕ) → w ≡ (at (line_of row) p).word → w ≡ (at l p).word
held_word p row l few e w f = f ∙ rw (e, held-line l few)
