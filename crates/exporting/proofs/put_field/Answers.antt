-- `exporting::put_field` meets its contract: the field, and one byte more.
use native.Mathlib.Omega.{arith}
use Rattle.digits.proofs.Stores.{put_byte, put_length}
use Rattle.exporting.specs.Fields.{ended, field}
use Rattle.exporting.proofs.Marks.{ended_long}
use Rattle.exporting.proofs.put_field.Goals as goal

pub put_number-p-requires : goal.put_number-p-requires
put_number-p-requires c = let a = c.args in omega (arith, ended_long a.number a.end, c.requires)

pub bounds-out-p : goal.bounds-out-p
bounds-out-p c = let a = c.args in
    let l = ended_long a.number a.end in
    let e = c.put_number-p.ensures in
    omega (arith, c.requires, e.0, put_length _ _ _ _ _ e (omega (arith, c.requires)))

pub overflow_add-result : goal.overflow_add-result
overflow_add-result c = let a = c.args in
    let l = ended_long a.number a.end in
    record { fits = omega (arith, c.requires, c.put_number-p.ensures.0) }

pub returns : goal.returns
unfolding ended
returns c = let a = c.args in
    let l = ended_long a.number a.end in
    put_byte _ _ (field a.number) _ _ c.put_number-p.ensures a.end (omega (arith, c.requires))
