-- The paper's listing as the events of a sheet. 01, 'The program and one listing': 'Table 0, 1; start stamp 0; event k stamped 1000k'.
-- That working gives these answers and leaves this section stands in proofs/Paper.antt.
-- Assumes nothing.
use Rattle.std.specs.Prelude.{ℕ, ◌*◌, List, [], ◌∷◌}
use Rattle.relay.specs.Examples.{Listed}
use Rattle.sheet.specs.Entry.{entry}
use Rattle.sheet.specs.Layout.{unanswered}

-- the events of a listing, not yet answered
unfoldable pub to_work : List Listed → List (List ℕ)
to_work [] = []
to_work (x ∷ xs) = entry x.number x.post unanswered (1000 * x.position) ∷ to_work xs

-- the same with the answers that the listing has
unfoldable pub as_listed : List Listed → List (List ℕ)
as_listed [] = []
as_listed (x ∷ xs) = entry x.number x.post x.answer (1000 * x.position) ∷ as_listed xs
