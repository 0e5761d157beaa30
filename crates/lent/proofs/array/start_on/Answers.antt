-- `lent::array::start_on` meets its contract: the call on the first records decides, and they are the first of those that there are. The table of kinds goes to it as it came.
use Rattle.std.proofs.Common.{◌≡◌, length, List, arith}
use Rattle.relay.specs.Line.{start_of}
use Rattle.relay.specs.declared.Post.{Post}
use Rattle.lent.specs.Array.{start_on}
use Rattle.lent.proofs.Front.{kept_at}
use Rattle.lent.proofs.array.start_on.Goals as goal

pub returns : goal.returns
unfolding start_on
returns c = let a = c.args in
    let lp : length a.posts ≡ 33 = omega arith in
    rw (c.desk_start-told.ensures.0, c.desk_start-told.ensures.1, c.at_most.ensures)
    (kept_at a.posts lp a.n (λ (l : List Post). start_of l a.kinds.now a.stamp))
