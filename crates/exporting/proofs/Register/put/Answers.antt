-- `exporting::Register::put` meets its contract: the header, and after it the records so far.
use Prim.Native.Nat.{◌+◌, ◌≤◌}
use mathlib.Core.Path.{◌≡◌, refl, ap, sym}
use native.Mathlib.Omega.{arith}
use borrow.Author.Rules.{rules}
use lib.ListN.{length}
use Rattle.digits.specs.Texts.{joined, Put}
use Rattle.digits.proofs.Stores.{stored_none, put_then}
use Rattle.exporting.specs.declared.Fields.{Fields}
use Rattle.exporting.specs.Fields.{header_line, text_of, count, text_at, register_of}
use Rattle.exporting.proofs.Joins.{joined_none, joined_more, joined-long, joined_upto}
use Rattle.exporting.proofs.Marks.{register_long}
use Rattle.exporting.proofs.Register.put.Goals as goal
use Rattle.exporting.proofs.Register.put.Goals.{After-fields_at}

-- the record at hand has room after those that stand
fits : (c : After-fields_at) → c.loop-i.p + length (text_of c.fields_at.result) ≤ length c.loop-i.out
fits c =
    let r = c.args.self.now in
    let t = text_at r.stamp r.kinds.now r.events.now in
    let n = count r.kinds.now r.events.now in
    let e : length (text_of c.fields_at.result) ≡ length (t c.loop-i.i) = ap (λ (f : Fields). length (text_of f)) c.fields_at.ensures in
    let long = register_long r.stamp r.kinds.now r.events.now in
    let upto : length (joined t (c.loop-i.i + 1)) ≤ length (joined t n) = joined_upto t (c.loop-i.i + 1) n (omega arith) in
    omega (arith, c.loop-i.invariant.1.0, c.loop-i.invariant.0, joined-long t c.loop-i.i, c.requires, c.put_bytes-p.ensures.0, c.put_bytes-p.auto.out)

pub put_bytes-p-requires : goal.put_bytes-p-requires
put_bytes-p-requires c = let r = c.args.self.now in
    omega (arith, c.requires, register_long r.stamp r.kinds.now r.events.now)

pub loop-i-init : goal.loop-i-init
loop-i-init c = rw joined_none (refl, (omega arith, sym (stored_none _ _)))

pub put_record-p-requires : goal.put_record-p-requires
put_record-p-requires c = fits (goal.at.put_record-p-requires c).After-fields_at

pub loop-i-preserved : goal.loop-i-preserved
loop-i-preserved c = let r = c.args.self.now in
    let t = text_at r.stamp r.kinds.now r.events.now in
    let i = c.loop-i.i in
    let e = c.fields_at.ensures in
    let f = fits (goal.at.loop-i-preserved c).After-fields_at in
    let long : length (text_of c.fields_at.result) ≡ length (t i) = ap (λ (f : Fields). length (text_of f)) e in
    let next : Put (t i) c.loop-i.p c.put_record-p.result c.loop-i.out c.put_record-p.new.out = rw e at c.put_record-p.ensures in (
      search rules,
      rw (joined_more t i) (put_then _ _ (joined t i) _ _ c.loop-i.invariant.1 (t i) _ _ (omega (arith, c.loop-i.invariant.1.0, c.loop-i.invariant.0)) next),
    )

pub returns : goal.returns
unfolding register_of
returns c = let r = c.args.self.now in
    let t = text_at r.stamp r.kinds.now r.events.now in
    let e : c.loop-i.i ≡ count r.kinds.now r.events.now = omega arith in
    put_then _ _ header_line 0 _ c.put_bytes-p.ensures (joined t (count r.kinds.now r.events.now)) _ _ (omega (arith, c.requires, register_long r.stamp r.kinds.now r.events.now)) (rw e at c.loop-i.invariant.1)
