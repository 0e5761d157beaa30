-- The paper's listing worked as the events of a sheet, computed whole: each event gets its answer from where the one before left the line.
-- Assumes nothing.
use mathlib.Core.Path.{◌≡◌, refl}
use mathlib.Core.List.{[], ◌∷◌}
use Rattle.relay.proofs.Rules.{rules}
use Rattle.relay.specs.Examples.{listing_kinds, listing}
use Rattle.relay.specs.Posts.{at}
use Rattle.working.specs.Examples.{to_work, as_listed}
use Rattle.working.specs.Run.{begun, run, answered}
use Rattle.working.specs.Working.{section_numbers}

-- the answers that the paper gives, and 'S 0 1 1 0 1 1 1 0 1 0'
pub paper_listing : (answered (begun listing_kinds 0) (to_work listing) ≡ as_listed listing)
    × (section_numbers 0 (at (run (begun listing_kinds 0) (to_work listing)).line 0) (at (run (begun listing_kinds 0) (to_work listing)).line 1) ≡ 0 ∷ 1 ∷ 1 ∷ 0 ∷ 1 ∷ 1 ∷ 1 ∷ 0 ∷ 1 ∷ 0 ∷ [])
unfolding rules to_work as_listed answered run section_numbers
paper_listing = (refl, refl)
