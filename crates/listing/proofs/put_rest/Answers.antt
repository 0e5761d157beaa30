-- `listing::put_rest` meets its contract: the numbers, and the line feed after them.
use native.Mathlib.Omega.{arith}
use Rattle.digits.proofs.Stores.{put_byte}
use Rattle.listing.specs.Lines.{spaced, line_feed}
use Rattle.listing.proofs.put_rest.Goals as goal

pub returns : goal.returns
returns c = let a = c.args in
    let r = c.put_spaced-p.ensures in
    record {
      put = put_byte a.out.now _ (spaced a.ns.now) a.at _ r.put line_feed (omega (arith, r.put.0, r.short));
      short = omega (arith, r.short);
    }
