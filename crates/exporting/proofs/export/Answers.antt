-- `exporting::export` meets its contract: refused as reading refuses, or for the output; else the register of what was read is put, and it is the sheet's (proofs/Read.antt).
use Rattle.std.proofs.lemmas.Result.{err_from_is_err_and}
use Prim.Native.Nat.{ℕ, ◌+◌}
use mathlib.Core.Path.{◌≡◌, sym, ap, ◌∙◌}
use mathlib.Core.List.{List}
use native.Mathlib.Omega.{arith}
use lib.ListN.{length}
use lib.Seq.{length-take-le}
use Rattle.exporting.specs.Exporting.{text_for}
use Rattle.exporting.proofs.Outcomes.{exports_short, exports_done}
use Rattle.exporting.proofs.Read.{unread, well, kinds_read, events_read, text}
use Rattle.exporting.proofs.export.Goals as goal
use Rattle.exporting.proofs.export.Goals.{After-size-size}

size : (c : After-size-size) → c.size-size.result ≡ length (text_for c.args.s.now)
size c = let r = c.in_ok-header.ensures.reads in
    c.size-size.ensures ∙ ap (λ (t : List ℕ). length t) (text c.args.s.now c.in_ok-header.header r.0 _ _ r.1 _ _ r.2)

pub returns-in_err-header : goal.returns-in_err-header
returns-in_err-header c = let a = c.args in
    let p = err_from_is_err_and c.from_residual.result c.from_residual.ensures.1 in
    rw (p.1, p.2) (unread a.s.now a.out.now _ c.in_err-header.ensures.reads.0)

pub slice_bounds-kinds-end : goal.slice_bounds-kinds-end
slice_bounds-kinds-end c = let r = c.in_ok-header.ensures.reads in (kinds_read c.args.s.now c.in_ok-header.header r.0 _ _ r.1).1

pub slice_bounds-register-end : goal.slice_bounds-register-end
slice_bounds-register-end c = let r = c.in_ok-header.ensures.reads in
    sym (length-take-le _ _ (kinds_read c.args.s.now c.in_ok-header.header r.0 _ _ r.1).1)

pub slice_bounds-events-end : goal.slice_bounds-events-end
slice_bounds-events-end c = let r = c.in_ok-header.ensures.reads in
    (events_read c.args.s.now c.in_ok-header.header r.0 _ _ r.1 _ _ r.2).1

pub slice_bounds-register-end-2 : goal.slice_bounds-register-end-2
slice_bounds-register-end-2 c = let r = c.in_ok-header.ensures.reads in
    sym (length-take-le _ _ (events_read c.args.s.now c.in_ok-header.header r.0 _ _ r.1 _ _ r.2).1)

pub returns-then-out-size : goal.returns-then-out-size
returns-then-out-size c = let a = c.args in
    let z = (well a.s.now c.in_ok-header.header c.in_ok-header.ensures.reads.0).0 in
    exports_short a.s.now a.out.now z (omega (arith, c.if-out-size.true, size (goal.at.returns-then-out-size c).After-size-size))

pub returns : goal.returns
returns c = let a = c.args in
    let h = c.in_ok-header.header in
    let r = c.in_ok-header.ensures.reads in
    let t = text a.s.now h r.0 _ _ r.1 _ _ r.2 in
    let w = exports_done a.s.now a.out.now (well a.s.now h r.0).0 (omega (arith, c.if-out-size.false, size (goal.at.returns c).After-size-size)) in
    let n : 0 + length (text_for a.s.now) ≡ length (text_for a.s.now) = omega arith in
    rw (c.put.ensures.0, c.put.ensures.1, t, n) w
