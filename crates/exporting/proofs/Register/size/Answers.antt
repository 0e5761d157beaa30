-- `exporting::Register::size` meets its contract: the header, and the records so far.
use mathlib.Core.Path.{◌≡◌, refl, ap}
use native.Mathlib.Omega.{arith}
use lib.ListN.{length, length-append}
use Rattle.exporting.specs.declared.Fields.{Fields}
use Rattle.exporting.specs.Fields.{text_of, count, text_at, register_of}
use Rattle.exporting.proofs.Joins.{joined_none, joined-long}
use Rattle.exporting.proofs.Register.size.Goals as goal

pub loop-i-init : goal.loop-i-init
loop-i-init c = rw joined_none (refl, omega arith)

pub loop-i-preserved : goal.loop-i-preserved
loop-i-preserved c = let t = c.args.self.now in
    let e : length (text_of c.fields_at.result) ≡ length (text_at t.stamp t.kinds.now t.events.now c.loop-i.i) = ap (λ (f : Fields). length (text_of f)) c.fields_at.ensures in
    let j = joined-long (text_at t.stamp t.kinds.now t.events.now) c.loop-i.i in
    (omega arith, omega arith)

pub returns : goal.returns
unfolding register_of
returns c = let t = c.args.self.now in
    let e : c.loop-i.i ≡ count t.kinds.now t.events.now = omega arith in
    rw (length-append, ← e) c.loop-i.invariant.0
