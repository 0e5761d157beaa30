-- Two tracks that may be used together, as facts, each with its name; and that a circuit is of one of two kinds.
-- Assumes nothing.
use Prim.Native.Nat.{ℕ, ◌+◌, ◌<◌}
use mathlib.Core.Path.{◌≡◌}
use mathlib.Core.Bool.{true, false}
use mathlib.Core.List.{List}
use mathlib.Core.Logic.{◌↔◌, ◌⊎◌, inl, inr, ⊎_elim}
use borrow.Author.Tests.{eqb-true}
use lib.Dec.{eqb}
use lib.ListN.{length}
use Rattle.relay.specs.Valid.{valid}
use Rattle.relay.specs.declared.Head.{Head}
use Rattle.relay.specs.declared.Post.{Post}
use Rattle.relay.proofs.Truth.{or_facts}
use Rattle.tracks.specs.Circuit.{polarised, vibrated, circuit_ok, busy, facing}

-- ---- the facts
pub record ValidTwo (c : ℕ) (l k : List Post) (s : Head) : Type 0 where
  pub circuit : (c ≡ polarised) ⊎ (c ≡ vibrated)
  pub own : valid l s ≡ true
  pub other : valid k s ≡ true
  pub long : length l ≡ length k
  pub alone : c ≡ polarised → (i : ℕ) → i + 1 < length l → busy l i ≡ true → busy k (facing (length l) i) ≡ false

-- a circuit kind is 0 or 1
pub circuit_iff : (c : ℕ) → (circuit_ok c ≡ true) ↔ ((c ≡ polarised) ⊎ (c ≡ vibrated))
unfolding circuit_ok
circuit_iff c = (
  or_facts (eqb c polarised) (eqb c vibrated) (λ e. inl (eqb-true c polarised e)) (λ e. inr (eqb-true c vibrated e)),
  ⊎_elim (λ e. rw e) (λ e. rw e),
)
