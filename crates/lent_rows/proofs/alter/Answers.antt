-- Past both tests the post named and its neighbour are two posts of the row, and the facing post is one of the other; the answer is what the two rows' lines give.
use Rattle.std.proofs.Common.{◌≡◌, ◌<◌, length, rules, sym, ◌∙◌, arith}
use Rattle.std.proofs.Math.ListN.{length-set}
use Rattle.relay.proofs.Numbers.{some}
use Rattle.tracks.proofs.Numbers.{some as refuses}
use Rattle.relay.specs.Posts.{at}
use Rattle.relay.proofs.Steps.{InRow, in_row}
use Rattle.tracks.specs.Circuit.{answer_on, refusal_beside, facing_of}
use Rattle.tracks.proofs.Steps.{answer_gated, answer_own, stays, changes, facing_in_row}
use Rattle.tracks.proofs.Together.{two_iff}
use Rattle.tracks.proofs.CircuitKinds.{ValidTwo}
use Rattle.lent_rows.proofs.alter.Goals as goal
use Rattle.lent_rows.proofs.alter.Goals.{After-neighbour_of-j, After-facing_of}

two : (c : After-neighbour_of-j) → ValidTwo c.args.circuit c.args.own.now c.args.other.now c.args.s
two c = (two_iff c.args.circuit c.args.own.now c.args.other.now c.args.s).0 (sym c.desk_valid_tracks.ensures ∙ c.if-not-desk_valid_tracks.false)

inside : (c : After-neighbour_of-j) → InRow (length c.args.own.now) c.args.number c.args.place
inside c = let a = c.args in
    in_row a.own.now a.s a.number a.place a.stamp (two c).own (sym c.in_ok-gate_refusal.ensures)

faces : (c : After-neighbour_of-j) → facing_of (length c.args.own.now) c.args.number c.args.place < length c.args.other.now
faces c = let a = c.args in
    let b = inside c in
    let e = (two c).long in
    rw e (facing_in_row (length a.other.now) a.number a.place (omega (arith, b.here, e)))

-- the answer is that of the two posts and the word of the facing post
answer : (c : After-facing_of)
    → let a = c.args in
    let l = a.own.now in
    refusal_beside a.circuit a.number (at l a.place).kind (at l a.place).word (at l c.neighbour_of-j.result).word (at a.other.now c.facing_of.result).word
    ≡ answer_on a.circuit l a.other.now a.s a.number a.place a.stamp
answer c = let a = c.args in
    answer_own a.circuit a.own.now a.other.now a.s a.number a.place a.stamp (sym c.desk_valid_tracks.ensures ∙ c.if-not-desk_valid_tracks.false) (sym c.in_ok-gate_refusal.ensures)
    c.neighbour_of-j.result c.facing_of.result c.neighbour_of-j.ensures c.facing_of.ensures

pub returns-in_err-gate_refusal-clause-code : goal.returns-in_err-gate_refusal-clause-code
returns-in_err-gate_refusal-clause-code c = let a = c.args in
    let e = answer_gated a.circuit a.own.now a.other.now a.s a.number a.place a.stamp _
    (sym c.desk_valid_tracks.ensures ∙ c.if-not-desk_valid_tracks.false) c.in_err-gate_refusal.ensures (some _) in
    search (rules, e)

pub offset_bounds-other-facing_of : goal.offset_bounds-other-facing_of
offset_bounds-other-facing_of c = let b = faces (goal.at.offset_bounds-other-facing_of c).After-neighbour_of-j in record { fits = omega arith }

pub bounds-other-facing_of : goal.bounds-other-facing_of
bounds-other-facing_of c = rw c.facing_of.ensures (faces (goal.at.bounds-other-facing_of c).After-neighbour_of-j)

pub slice_copy_out-attempt_beside : goal.slice_copy_out-attempt_beside
slice_copy_out-attempt_beside c = (inside (goal.at.slice_copy_out-attempt_beside c).After-neighbour_of-j).here

pub offset_bounds-own-j : goal.offset_bounds-own-j
offset_bounds-own-j c = let b = inside (goal.at.offset_bounds-own-j c).After-neighbour_of-j in record { fits = omega (arith, b.other) }

pub slice_copy_out-attempt_beside-2 : goal.slice_copy_out-attempt_beside-2
slice_copy_out-attempt_beside-2 c = rw c.neighbour_of-j.ensures (inside (goal.at.slice_copy_out-attempt_beside-2 c).After-neighbour_of-j).other

pub returns-in_err-here-clause-code : goal.returns-in_err-here-clause-code
returns-in_err-here-clause-code c = let e = c.in_err-here.ensures.refused ∙ answer (goal.at.returns-in_err-here-clause-code c).After-facing_of in search (rules, e)

pub returns-in_err-here-clause-line : goal.returns-in_err-here-clause-line
returns-in_err-here-clause-line c = let a = c.args in
    stays a.circuit a.own.now a.other.now a.s a.number a.place a.stamp _
    (c.in_err-here.ensures.refused ∙ answer (goal.at.returns-in_err-here-clause-line c).After-facing_of)
    (refuses _)

pub bounds-own-i : goal.bounds-own-i
bounds-own-i c = (inside (goal.at.bounds-own-i c).After-neighbour_of-j).here

pub offset_bounds-own-j-2 : goal.offset_bounds-own-j-2
offset_bounds-own-j-2 c = let b = inside (goal.at.offset_bounds-own-j-2 c).After-neighbour_of-j in record { fits = omega (arith, b.other) }

pub bounds-own-j : goal.bounds-own-j
bounds-own-j c = rw (length-set, c.neighbour_of-j.ensures) (inside (goal.at.bounds-own-j c).After-neighbour_of-j).other

pub returns-clause-code : goal.returns-clause-code
returns-clause-code c = c.in_ok-here.ensures.refused ∙ answer (goal.at.returns-clause-code c).After-facing_of

pub returns-clause-line : goal.returns-clause-line
returns-clause-line c = let a = c.args in
    changes a.circuit a.own.now a.other.now a.s a.number a.place a.stamp c.neighbour_of-j.result c.in_ok-here.field-0 c.neighbour_of-j.ensures c.in_ok-here.ensures.taken
    (c.in_ok-here.ensures.refused ∙ answer (goal.at.returns-clause-line c).After-facing_of)
