-- The row as the first n records of an array, all of them where n is more than there are.
-- Assumes nothing.
use Rattle.std.proofs.Common.{◌≡◌, ℕ, ◌≤◌, ◌<◌, List, length, take, drop, min, refl, sym, ap, ◌∙◌, arith}
use mathlib.Core.Bool.{Bool, true, false}
use lib.Dec.{leb}
use lib.ListN.{drop_of_length-le}
use lib.Seq.{take_all}
use borrow.Author.Tests.{leb-true, leb-false}
use Rattle.relay.specs.Line.{After}
use Rattle.relay.specs.declared.Post.{Post}
use Rattle.lent.specs.Array.{room, kept}

module _ (ps : List Post) (lp : length ps ≡ room) (n : ℕ) where
  same_by : (b : Bool) → leb n room ≡ b → (take (min n room) ps ≡ take n ps) × (drop (min n room) ps ≡ drop n ps)
  same_by true e =
      let h : n ≤ room = leb-true n room e in
      let q : min n room ≡ n = omega arith in
      (ap (λ (k : ℕ). take k ps) q, ap (λ (k : ℕ). drop k ps) q)
  same_by false e =
      let h : room < n = leb-false n room e in
      let few : length ps ≤ n = omega (arith, lp) in
      let fits : length ps ≤ min n room = omega (arith, lp) in
      (take_all (min n room) ps fits ∙ sym (take_all n ps few), drop_of_length-le ps fits ∙ sym (drop_of_length-le ps few))

  -- the first n are the first of those that there are
  pub same : (take (min n room) ps ≡ take n ps) × (drop (min n room) ps ≡ drop n ps)
  same = same_by (leb n room) refl

  -- what a call makes of them
  pub kept_at : (does : List Post → After) → kept ps (min n room) (does (take (min n room) ps)) ≡ kept ps n (does (take n ps))
  kept_at does = rw same.0 (rw same.1 refl)
