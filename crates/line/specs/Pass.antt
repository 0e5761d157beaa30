-- One pass over the records, each tested once: step i tests post i and the section downstream, and the last step the last post too.
-- That the pass is `valid` of relay's specs/Valid.antt stands in proofs/Pass.antt.
-- Assumes nothing.
use Rattle.std.specs.Prelude.{ℕ, ◌+◌, Bool, true, ◌&&◌, List, [], ◌∷◌, eqb}
use Rattle.relay.specs.Choice.{requires}
use Rattle.relay.specs.Valid.{post_ok, section_ok}
use Rattle.relay.specs.declared.Post.{Post}

-- step i, on a line of n posts with t events taken
unfoldable pub pair_ok : ℕ → ℕ → ℕ → Post → Post → Bool
pair_ok n i t p d =
    post_ok n i t p && (section_ok p d && requires (eqb (i + 1 + 1) n) (post_ok n (i + 1) t d))

-- the steps from i on, of the line p and what follows it
unfoldable pub pairs_from : ℕ → ℕ → ℕ → Post → List Post → Bool
pairs_from n i t p [] = true
pairs_from n i t p (d ∷ ds) = pair_ok n i t p d && pairs_from n (i + 1) t d ds

unfoldable pub pairs : ℕ → ℕ → ℕ → List Post → Bool
pairs n i t [] = true
pairs n i t (p ∷ ps) = pairs_from n i t p ps
