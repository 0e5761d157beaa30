-- A row that holds a line and blank records past it: an event leaves it so, with the line that the event leaves.
-- Assumes nothing.
use Prim.Native.Nat.{ℕ, ◌-◌, ◌≤◌}
use mathlib.Core.Path.{◌≡◌, refl}
use mathlib.Core.List.{List}
use borrow.Author.Tests.{le-leb}
use lib.ListN.{length, replicate}
use lib.Seq.{take_at, drop_at}
use Rattle.relay.proofs.Frame.{length-stays}
use Rattle.relay.specs.Line.{event_of}
use Rattle.relay.specs.Posts.{blank}
use Rattle.relay.specs.declared.Head.{Head}
use Rattle.relay.specs.declared.Post.{Post}
use Rattle.row.specs.Row.{most, line_of, line_to, stood, row_of, event_row}

module _ (l : List Post) (few : length l ≤ most) where
  -- the line that it holds
  pub held-line : line_of (row_of l) ≡ l
  unfolding line_of row_of
  held-line = rw (le-leb (length l) most few) (take_at l (replicate (most - length l) blank) (length l) refl)

  -- another line of the same length in its place
  pub held_to : (l' : List Post) → length l' ≡ length l → line_to (row_of l) l' ≡ row_of l'
  unfolding line_to row_of
  held_to l' e = rw (le-leb (length l) most few, drop_at l (replicate (most - length l) blank) (length l) refl, e)

  pub held-event : (s : Head) (n i t : ℕ) → event_row (row_of l) s n i t ≡ stood (event_of l s n i t).told (row_of (event_of l s n i t).line)
  unfolding event_row
  held-event s n i t = rw (held-line, held_to (event_of l s n i t).line (length-stays l s n i t))
