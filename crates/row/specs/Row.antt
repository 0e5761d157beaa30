-- A row of at most 32 records by value: the line that it holds, and what starting and an event make of it, by the definitions of relay's specs/Line.antt.
-- Assumes nothing.
use Rattle.std.specs.Prelude.{ℕ, ◌-◌, List, [], ◌++◌, leb, length, take, drop, replicate}
use Rattle.relay.specs.Answers.{taken, notValid}
use Rattle.relay.specs.Choice.{pick}
use Rattle.relay.specs.Kinds.{table_ok}
use Rattle.relay.specs.Line.{head, told, fresh_line, event_of}
use Rattle.relay.specs.Posts.{blank}
use Rattle.relay.specs.declared.Head.{Head}
use Rattle.relay.specs.declared.Post.{Post}
use Rattle.relay.specs.declared.Told.{Told}
use Rattle.row.specs.declared.Row.{Row}
use Rattle.row.specs.declared.Stood.{Stood}

-- the most records of a row
abbrev pub most : ℕ
most = 32

-- the line of a row: its first n records. A row that says more than it has holds none
unfoldable pub line_of : Row → List Post
line_of row = pick (leb row.n most) (take row.n row.posts) []

-- the row with another line in the place of its own; the records past it stay
unfoldable pub line_to : Row → List Post → Row
line_to row l = record { posts = pick (leb row.n most) (l ++ drop row.n row.posts) row.posts; n = row.n }

abbrev pub stood : Told → Row → Stood
stood t row = record { told = t; row = row }

-- an event on the row is the event on its line
unfoldable pub event_row : Row → Head → ℕ → ℕ → ℕ → Stood
event_row row s n i t =
    stood (event_of (line_of row) s n i t).told (line_to row (event_of (line_of row) s n i t).line)

-- a row that holds the line l, and blank records past it
unfoldable pub row_of : List Post → Row
row_of l = record { posts = l ++ replicate (most - length l) blank; n = length l }

-- a row started from a table: the fresh line, or none
unfoldable pub start_row : List ℕ → ℕ → Stood
start_row ks t = pick (table_ok ks) (stood (told taken (head 0 t)) (row_of (fresh_line ks))) (stood (told notValid (head 0 0)) (row_of []))
