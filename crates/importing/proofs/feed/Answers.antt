-- `importing::feed` meets its contract: what is left of the text decides.
use Prim.Native.Nat.{◌+◌}
use mathlib.Core.Path.{sym, ap, ◌∙◌}
use native.Mathlib.Omega.{arith}
use lib.ListN.{drop}
use Rattle.importing.specs.Rooms.{Fed, fed_at, fed}
use Rattle.importing.proofs.Fold.{fold_more, fold_end}
use Rattle.importing.proofs.feed.Goals as goal

pub loop-b-preserved : goal.loop-b-preserved
loop-b-preserved c = let t = c.args.text.now in
    let l = c.loop-b in
    let i = l.b-index in
    ap (λ (f : Fed). fed f (drop (i + 1) t)) c.take-last.ensures ∙ fold_more (fed_at l.last l.kinds l.events) t i (omega arith) ∙ l.invariant

pub returns : goal.returns
returns c = let l = c.loop-b in
    sym (fold_end (fed_at l.last l.kinds l.events) c.args.text.now l.b-index (omega arith)) ∙ l.invariant
