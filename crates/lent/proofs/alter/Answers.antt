-- Past both tests the post named and its neighbour are two posts of the row.
use Rattle.std.proofs.Common.{length, sym, ◌∙◌, arith}
use Rattle.std.proofs.Math.ListN.{length-set}
use Rattle.relay.proofs.Steps.{InRow, in_row}
use Rattle.lent.proofs.alter.Goals as goal
use Rattle.lent.proofs.alter.Goals.{After-neighbour_of-j}

inside : (c : After-neighbour_of-j) → InRow (length c.args.row.now) c.args.number c.args.place
inside c = let a = c.args in
    in_row a.row.now a.s a.number a.place a.stamp (sym c.desk_valid.ensures ∙ c.if-not-desk_valid.false) (sym c.in_ok-gate_refusal.ensures)

pub slice_copy_out-attempt : goal.slice_copy_out-attempt
slice_copy_out-attempt c = (inside (goal.at.slice_copy_out-attempt c).After-neighbour_of-j).here

pub offset_bounds-row-j : goal.offset_bounds-row-j
offset_bounds-row-j c = let b = inside (goal.at.offset_bounds-row-j c).After-neighbour_of-j in record { fits = omega (arith, b.other) }

pub slice_copy_out-attempt-2 : goal.slice_copy_out-attempt-2
slice_copy_out-attempt-2 c = rw c.neighbour_of-j.ensures (inside (goal.at.slice_copy_out-attempt-2 c).After-neighbour_of-j).other

pub bounds-row-i : goal.bounds-row-i
bounds-row-i c = (inside (goal.at.bounds-row-i c).After-neighbour_of-j).here

pub offset_bounds-row-j-2 : goal.offset_bounds-row-j-2
offset_bounds-row-j-2 c = let b = inside (goal.at.offset_bounds-row-j-2 c).After-neighbour_of-j in record { fits = omega (arith, b.other) }

pub bounds-row-j : goal.bounds-row-j
bounds-row-j c = rw (length-set, c.neighbour_of-j.ensures) (inside (goal.at.bounds-row-j c).After-neighbour_of-j).other
