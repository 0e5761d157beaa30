-- A text in lent bytes.
-- Assumes nothing.
use Rattle.std.specs.Prelude.{ℕ, zero, suc, ◌+◌, ◌≡◌, List, [], ◌++◌, length, take, drop}

-- the bytes d with the text t at the place k: what stands before and after it stays
unfoldable pub stored : List ℕ → ℕ → List ℕ → List ℕ
stored d k t = take k d ++ (t ++ drop (k + length t) d)

-- f's first n texts, one after the other
unfoldable pub joined : (ℕ → List ℕ) → ℕ → List ℕ
joined f zero = []
joined f (suc n) = joined f n ++ f n

-- what a call that puts the text t at the place k states: r is the place past it, and the bytes are those before with the text there
abbrev pub Put : List ℕ → ℕ → ℕ → List ℕ → List ℕ → Type 0
Put t k r out out' = (r ≡ k + length t) × (out' ≡ stored out k t)
