-- `listing::put_section` meets its contract: the letter, the numbers, and the rest of the line after them.
-- there are ten numbers
use Prim.Native.Nat.{ℕ, ◌≤◌}
use mathlib.Core.Path.{◌≡◌, refl, subst}
use mathlib.Core.Bool.{Bool}
use mathlib.Core.List.{List, [], ◌∷◌, ◌++◌}
use native.Mathlib.Omega.{arith}
use borrow.Author.Rules.{rules}
use lib.Dec.{eqb}
use lib.ListN.{length, take, length-set}
use lib.Seq.{length-take-le}
use Rattle.relay.specs.Choice.{pick}
use Rattle.sheet.specs.Layout.{two_tracks}
use Rattle.digits.specs.Texts.{Put}
use Rattle.digits.proofs.Stores.{put_one, put_then}
use Rattle.listing.specs.Lines.{spaced, ended, track_named}
use Rattle.listing.proofs.Spaces.{part-few, part_only, section-pieces}
use Rattle.listing.proofs.put_section.Goals as goal
use Rattle.listing.proofs.put_section.Goals.{Start}

ten : (c : Start) → length c.args.numbers ≡ 10
ten c = search rules

-- the field of the track, or none
field-few : (b : Bool) (k n : ℕ) → k ≡ pick b 1 0 → length (take k (n ∷ [])) ≤ 1
field-few b k n e = let m : k ≤ 1 = rw e (part-few b) in rw (length-take-le k (n ∷ []) m) m

pub put_rest-requires : goal.put_rest-requires
put_rest-requires c =
    let t = ten (goal.at.put_rest-requires c).Start in
    let k = field-few _ _ c.args.track c.tracks_named-k.ensures in
    let long = simp length-set at c.put_spaced-p.auto.out in
    (omega (arith, k), omega (arith, k, t, c.put_spaced-p.ensures.short, long))

pub returns : goal.returns
unfolding track_named
returns c =
    let a = c.args in
    let t = ten (goal.at.returns c).Start in
    let n = c.put_spaced-p.ensures in
    let b = eqb a.tracks two_tracks in
    let r = rw (c.tracks_named-k.ensures, part_only b a.track) at c.put_rest.ensures.put in
    let short = c.put_rest.ensures.short in
    let k = field-few _ _ a.track c.tracks_named-k.ensures in
    let letter = put_then a.out.now _ (83 ∷ []) a.at _ (refl, put_one a.out.now a.at 83 (omega arith)) (spaced a.numbers) _ _ (omega (arith, n.put.0, n.short, t)) n.put in
    let whole = put_then a.out.now _ ((83 ∷ []) ++ spaced a.numbers) a.at _ letter (ended (pick b (a.track ∷ []) [])) _ _ (omega (arith, letter.0, r.0, short, k, n.short, t)) r in
    record {
      put = subst (λ (x : List ℕ). Put x a.at c.put_rest.result a.out.now c.put_rest.new.out) (section-pieces a.numbers (pick b (a.track ∷ []) [])) whole;
      short = omega (arith, short, k, n.short, t);
    }
