-- The numbers returned to an event on two tracks and on starting them, by the number. 02, item 7.
-- A second reading of the paper, with the paper's own numbers: the table of one line (crates/relay, specs/Given.antt) for the line of the track, with what two tracks add. It cites
-- none of the refusals of specs/Circuit.antt. That the two agree stands in proofs/Given.antt.
-- The order is 1, 3, 2, 5, 4, 6, 22, 23, 7, 8, 9, 11, 12, 13, 10, 14, 15, 16, 17, 25.
-- Assumes nothing.
use Rattle.std.specs.Prelude.{ℕ, ◌+◌, ◌-◌, Bool, not, ◌&&◌, ◌||◌, List, [], ◌∷◌, ◌++◌, eqb, length}
use Rattle.relay.specs.Choice.{pick}
use Rattle.relay.specs.Given.{Row, row, reasons, given_by, start_reasons}
use Rattle.relay.specs.Posts.{at}
use Rattle.relay.specs.Relays.{W314, W241, up}
use Rattle.relay.specs.declared.Head.{Head}
use Rattle.relay.specs.declared.Post.{Post}
use Rattle.tracks.specs.Circuit.{valid_two}

-- a table in which number k is given for one reason more
unfoldable pub also : ℕ → Bool → List Row → List Row
also k b [] = []
also k b (r ∷ rs) = pick (eqb k r.number) (row r.number (r.reason || b) ∷ rs) (r ∷ also k b rs)

-- 'the second numbered the other way': of m posts, the other track's number of post i
unfoldable pub other_way : ℕ → ℕ → ℕ
other_way m i = m - 1 - i

-- a signal is under way on the line downstream of its post i
unfoldable pub wire : List Post → ℕ → Bool
wire k i = up W314 (at k i).word || up W241 (at k i).word

-- 'the shared circuit is busy, for events 5, 6 and 7': beside the other line k, 5 sends from post i to the next and 6 and 7 send from post i to the one before. What the other track sends between
-- two posts is held at the one of them that comes first in its own numbers, which is the later in ours
unfoldable pub circuit_reason : ℕ → List Post → ℕ → ℕ → Bool
circuit_reason c k n i =
    eqb c 0
    && (eqb n 5 && wire k (other_way (length k) (i + 1)) || (eqb n 6 || eqb n 7) && wire k (other_way (length k) i))

-- event n, which names a track and the post or section i of it, with stamp t
unfoldable pub reasons_two : ℕ → List Post → List Post → Head → ℕ → ℕ → ℕ → ℕ → List Row
reasons_two c l k s track n i t =
    -- the two may not be used together
    also 1 (not (valid_two c l k s))
    -- 'the track (0 for track 1)': another number than 0 and 1 names no post
    (also 2 (not (eqb track 0 || eqb track 1))
    -- all else as on the line of the track
    (reasons (pick (eqb track 1) k l) s n i t))
    -- '25 when the shared circuit is busy, for events 5, 6 and 7, after their own lists'
    ++ (row 25 (circuit_reason c (pick (eqb track 1) l k) n i) ∷ [])

-- number m is given to that event
abbrev pub given_two : ℕ → ℕ → List Post → List Post → Head → ℕ → ℕ → ℕ → ℕ → Bool
given_two m c l k s track n i t = given_by (reasons_two c l k s track n i t) m

-- ---- on starting
-- 1 for either row and table as for one line, for tables of two lengths, and for a circuit that is not 0 or 1
unfoldable pub start_reasons_two : ℕ → List Post → List Post → List ℕ → List ℕ → List Row
start_reasons_two c l k ks js =
    also 1 (not (eqb c 0 || eqb c 1))
    (also 1 (not (eqb (length ks) (length js))) (also 1 (given_by (start_reasons k js) 1) (start_reasons l ks)))
