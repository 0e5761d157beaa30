-- `listing::put_spaced` meets its contract: the numbers so far stand, each after a space.
use Prim.Native.Nat.{ℕ, ◌+◌, ◌*◌, ◌≤◌}
use mathlib.Core.Path.{◌≡◌, refl, sym, ap, ◌∙◌}
use mathlib.Core.List.{List}
use native.Mathlib.Omega.{arith}
use lib.ListN.{length, get_or, take, length-set}
use Rattle.digits.specs.Digits.{digits}
use Rattle.digits.specs.Texts.{stored}
use Rattle.digits.proofs.Value.{digits_long}
use Rattle.digits.proofs.Stores.{stored_none, length-stored}
use Rattle.listing.specs.Lines.{spaced}
use Rattle.listing.proofs.Spaces.{spaced_none, turn, turn-long, turn-short}
use Rattle.listing.proofs.put_spaced.Goals as goal
use Rattle.listing.proofs.put_spaced.Goals.{After-shared_slice_known-in-loop-i-1}

-- a number of 32 bits has at most ten digits
few : (c : After-shared_slice_known-in-loop-i-1) → length (digits (get_or c.args.ns.now c.loop-i.i 0)) ≤ 10
few c = digits_long _ (omega (arith, c.shared_slice_known-in-loop-i-1.given c.loop-i.i))

pub loop-i-init : goal.loop-i-init
loop-i-init c = rw spaced_none (omega arith, omega arith, refl, sym (stored_none _ _))

pub put_number-p-requires : goal.put_number-p-requires
put_number-p-requires c = simp length-set (omega (arith, few (goal.at.put_number-p-requires c).After-shared_slice_known-in-loop-i-1))

pub loop-i-preserved : goal.loop-i-preserved
loop-i-preserved c = let a = c.args in
    let t = few (goal.at.loop-i-preserved c).After-shared_slice_known-in-loop-i-1 in
    let e = c.put_number-p.ensures in
    let r : a.at + length a.ns.now * 11 ≤ length a.out.now = omega arith in
    let long = turn-long a.out.now a.ns.now a.at c.loop-i.i (omega arith) r c.loop-i.invariant.1 t in
    let short = turn-short a.out.now a.ns.now a.at c.loop-i.i (omega arith) r c.loop-i.invariant.1 t in
    let same : c.put_number-p.new.out ≡ stored a.out.now a.at (spaced (take (c.loop-i.i + 1) a.ns.now)) =
    e.1 ∙ rw (c.loop-i.invariant.3, c.loop-i.invariant.0) (turn a.out.now a.ns.now a.at c.loop-i.i (omega arith) r c.loop-i.invariant.1 t) in
    (omega (arith, e.0), short, ap (λ (xs : List ℕ). length xs) same ∙ length-stored a.out.now a.at _ (omega (arith, short)), same)
