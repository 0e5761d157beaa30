-- `listing::put_event` meets its contract: the position, and the rest of the line after it.
-- a position of 32 bits has at most ten digits
use Prim.Native.Nat.{ℕ, ◌+◌, ◌≤◌}
use mathlib.Core.Path.{◌≡◌}
use mathlib.Core.Bool.{Bool}
use mathlib.Core.List.{[], ◌∷◌}
use native.Mathlib.Omega.{arith}
use lib.Dec.{eqb}
use lib.ListN.{length, take}
use lib.Seq.{length-take-le}
use Rattle.relay.specs.Choice.{pick}
use Rattle.sheet.specs.Layout.{two_tracks}
use Rattle.digits.specs.Digits.{digits}
use Rattle.digits.proofs.Value.{digits_long}
use Rattle.digits.proofs.Stores.{put_then}
use Rattle.listing.specs.Lines.{ended, track_named, event_line}
use Rattle.listing.proofs.Spaces.{part-few, part_fourth}
use Rattle.listing.proofs.put_event.Goals as goal

-- the field of the track, or none
named : (b : Bool) (k : ℕ) → k ≡ pick b 1 0 → k ≤ 1
named b k e = rw e (part-few b)

-- so the numbers that follow are at most four
fields-few : (b : Bool) (k x y z n : ℕ) → k ≡ pick b 1 0 → length (take (3 + k) (x ∷ y ∷ z ∷ n ∷ [])) ≤ 4
fields-few b k x y z n e = rw (length-take-le (3 + k) (x ∷ y ∷ z ∷ n ∷ []) (omega (arith, named b k e))) (omega (arith, named b k e))

pub put_number-p-requires : goal.put_number-p-requires
put_number-p-requires c = omega (arith, digits_long c.args.position (omega arith))

pub put_rest-requires : goal.put_rest-requires
put_rest-requires c =
    let a = c.args in
    let m = fields-few _ _ a.event a.post a.answer a.track c.tracks_named-k.ensures in
    let f = digits_long a.position (omega arith) in
    (omega (arith, m), omega (arith, m, c.put_number-p.ensures.0, f))

pub returns : goal.returns
unfolding event_line track_named
returns c =
    let a = c.args in
    let n = c.put_number-p.ensures in
    let f = digits_long a.position (omega arith) in
    let b = eqb a.tracks two_tracks in
    let part = part_fourth b a.event a.post a.answer a.track in
    let r = rw (c.tracks_named-k.ensures, part) at c.put_rest.ensures.put in
    let short = c.put_rest.ensures.short in
    let k = fields-few _ _ a.event a.post a.answer a.track c.tracks_named-k.ensures in
    record {
      put = put_then a.out.now _ (digits a.position) a.at _ n (ended (a.event ∷ a.post ∷ a.answer ∷ pick b (a.track ∷ []) [])) _ _ (omega (arith, r.0, n.0, short, k, f)) r;
      short = omega (arith, short, k, n.0, f);
    }
