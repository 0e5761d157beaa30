-- The numbers returned on writing, by the number. 01, 'Numbers returned' and 'The event sheet': 'Writing tests 1, 20, 18, 21 in that order'.
-- A second reading of the paper beside specs/Writing.antt, with the paper's own numbers; that the two agree stands in proofs/Given.antt.
-- Those of reading, with the block that they name, are proofs/First.antt's.
-- Assumes nothing.
use Rattle.std.specs.Prelude.{ℕ, ◌+◌, ◌*◌, ◌/◌, ◌%◌, Bool, true, false, not, ◌||◌, List, [], ◌∷◌, eqb, leb, ltb, length, get_or, take, drop}
use Rattle.relay.specs.Choice.{pick}
use Rattle.relay.specs.Given.{Row, row, table_wrong}
use Rattle.sheet.specs.Entry.{number_of, post_of, answer_of}
use Rattle.sheet.specs.Sheet.{Sheet, Tracked}

-- 'an event to write is out of its field': one of them has a number past bits 0 to 4, a post past six bits or an answer past five
unfoldable pub out_of_field : List (List ℕ) → Bool
out_of_field [] = false
out_of_field (e ∷ es) = (leb 32 (number_of e) || (leb 64 (post_of e) || leb 32 (answer_of e))) || out_of_field es

-- the sheet t into an output of m bytes
unfoldable pub write_reasons : Sheet → ℕ → List Row
write_reasons t m =
    -- 'on starting or writing, the table of kinds wrong or N outside 2 to 32'
    row 1 (table_wrong t.kinds)
    ∷ row 20 (out_of_field t.events)
    -- 'more than 3,780 events to write'
    ∷ row 18 (ltb 3780 (length t.events))
    -- 'output too short': block 0, and one for each 60 events begun
    ∷ row 21 (ltb m (512 + (length t.events + 59) / 60 * 512))
    ∷ []

-- ---- a sheet of either form. 02, item 7: 'two-track sheet has 2 in word 0, track 2's kinds after track 1's, then the circuit kind (0 polarised, 1 vibrated)'
-- a table of two tracks that starting would refuse: not two tables and one word more, one of them wrong, or no circuit kind
unfoldable pub two_wrong : List ℕ → Bool
two_wrong ks =
    not (eqb (length ks % 2) 1)
    || (table_wrong (take (length ks / 2) ks)
    || (table_wrong (take (length ks / 2) (drop (length ks / 2) ks)) || ltb 1 (get_or ks (length ks / 2 * 2) 0)))

-- no sheet is of any other number of tracks than 1 or 2
unfoldable pub start_wrong : ℕ → List ℕ → Bool
start_wrong form ks = pick (eqb form 1) (table_wrong ks) (pick (eqb form 2) (two_wrong ks) true)

-- one of these is not below m
unfoldable pub one_from : ℕ → List ℕ → Bool
one_from m [] = false
one_from m (x ∷ xs) = leb m x || one_from m xs

-- 'a track that is not 0 or 1, or not 0 in a one-track sheet'; or an event with no track, or a track with no event
unfoldable pub out_of_track : ℕ → ℕ → List ℕ → Bool
out_of_track form n ts = not (eqb (length ts) n) || one_from form ts

unfoldable pub tracked_reasons : Tracked → ℕ → List Row
tracked_reasons t m =
    row 1 (start_wrong t.form t.table)
    ∷ row 20 (out_of_field t.events || out_of_track t.form (length t.events) t.tracks)
    ∷ row 18 (ltb 3780 (length t.events))
    ∷ row 21 (ltb m (512 + (length t.events + 59) / 60 * 512))
    ∷ []
