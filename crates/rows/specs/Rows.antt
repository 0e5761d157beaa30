-- Two rows by value over one circuit: what starting and an event make of them, by the definitions of tracks' specs/Circuit.antt on the lines that they hold.
-- Assumes nothing.
use Rattle.std.specs.Prelude.{ℕ, ◌-◌, Bool, ◌&&◌, List, [], eqb, length}
use Rattle.relay.specs.Answers.{taken, notValid}
use Rattle.relay.specs.Choice.{pick, requires}
use Rattle.relay.specs.Kinds.{table_ok}
use Rattle.relay.specs.Line.{head, told, fresh_line}
use Rattle.relay.specs.Valid.{valid}
use Rattle.relay.specs.declared.Head.{Head}
use Rattle.relay.specs.declared.Post.{Post}
use Rattle.relay.specs.declared.Told.{Told}
use Rattle.row.specs.Row.{line_of, line_to, row_of, stood}
use Rattle.row.specs.declared.Row.{Row}
use Rattle.row.specs.declared.Stood.{Stood}
use Rattle.tracks.specs.Circuit.{polarised, circuit_ok, apart, event_on, event_two}
use Rattle.rows.specs.declared.StoodTwo.{StoodTwo}

abbrev pub stood_two : Told → Row → Row → StoodTwo
stood_two t a b = record { told = t; first = a; second = b }

-- an event on the two rows is the event on their lines
unfoldable pub event_rows : ℕ → Row → Row → Head → ℕ → ℕ → ℕ → ℕ → StoodTwo
event_rows c a b s track n i t =
    stood_two (event_two c (line_of a) (line_of b) s track n i t).told
    (line_to a (event_two c (line_of a) (line_of b) s track n i t).first)
    (line_to b (event_two c (line_of a) (line_of b) s track n i t).second)

-- what a refused start returns: no row and a head of zeros
abbrev pub none_stood : StoodTwo
none_stood = stood_two (told notValid (head 0 0)) (row_of []) (row_of [])

-- two rows started from two tables: both fresh lines, or none
unfoldable pub start_rows : ℕ → List ℕ → List ℕ → ℕ → StoodTwo
start_rows c ks js t =
    pick (circuit_ok c && (table_ok ks && (table_ok js && eqb (length ks) (length js))))
    (stood_two (told taken (head 0 t)) (row_of (fresh_line ks)) (row_of (fresh_line js))) none_stood
