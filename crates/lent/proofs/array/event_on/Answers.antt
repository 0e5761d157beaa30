-- `lent::array::event_on` meets its contract: the call on the first records decides, and they are the first of those that there are.
use Rattle.std.proofs.Common.{◌≡◌, length, List, arith}
use Rattle.relay.specs.Line.{event_of}
use Rattle.relay.specs.declared.Post.{Post}
use Rattle.lent.specs.Array.{event_on}
use Rattle.lent.proofs.Front.{kept_at}
use Rattle.lent.proofs.array.event_on.Goals as goal

pub returns : goal.returns
unfolding event_on
returns c = let a = c.args in
    let lp : length a.posts ≡ 33 = omega arith in
    rw (c.desk_event-told.ensures.0, c.desk_event-told.ensures.1, c.at_most.ensures)
    (kept_at a.posts lp a.n (λ (l : List Post). event_of l a.s a.number a.place a.stamp))
