-- The examples, computed whole: the paper's listing, its case 11, one section, a post between, a sheet with an altered answer, and one of two tracks.
-- Assumes nothing.
use mathlib.Core.Path.{◌≡◌, refl}
use mathlib.Core.List.{[], ◌∷◌}
use Rattle.relay.proofs.Rules.{rules}
use Rattle.tracks.proofs.Examples.{shared}
use Rattle.working.specs.Examples.{as_listed}
use Rattle.working.specs.Run.{marked, begun_by, next_by, run_by}
use Rattle.why.specs.Examples.{answers, paper_sheet, paper_asked, paper_since, case_sheet, case_since, short_sheet, short_asked, short_since, long_sheet, long_asked, long_since, altered_sheet, altered_since, two_sheet, two_asked, two_since}
use Rattle.why.specs.Why.{speaks, so, last_made, right_answers, asked, since_when, since_in}

pub examples : (answers paper_sheet paper_asked ≡ paper_since)
    × (answers case_sheet (4 ∷ []) ≡ case_since)
    × (answers short_sheet short_asked ≡ short_since)
    × (answers long_sheet long_asked ≡ long_since)
    × (answers altered_sheet (4 ∷ []) ≡ altered_since)
unfolding rules as_listed marked begun_by next_by run_by speaks so last_made right_answers asked since_when since_in
examples = (refl, refl, refl, refl, refl)

-- of two tracks: each is told of its own, and a 25 is none of the three answers
pub two_tracks : answers two_sheet two_asked ≡ two_since
unfolding shared marked begun_by next_by run_by speaks so last_made right_answers asked since_when since_in
two_tracks = refl
