-- `exporting::put_record` meets its contract: each field with its byte right after what stands, and the last byte of the line end.
use Rattle.std.proofs.Common.{rules, ℕ, ◌+◌, ◌≤◌, List, ◌++◌, length, arith}
use lib.ListN.{length-append}
use Rattle.digits.specs.Texts.{Put}
use Rattle.digits.proofs.Stores.{put_then, put_byte, put_length}
use Rattle.register.specs.Texts.{comma, cr, lf}
use Rattle.exporting.specs.declared.Fields.{Fields}
use Rattle.exporting.specs.Fields.{ended, text_of}
use Rattle.exporting.proofs.Marks.{ended_long, text_long}
use Rattle.exporting.proofs.put_record.Goals as goal
use Rattle.exporting.proofs.put_record.Goals.{After-put_field-a, After-put_field-b, After-put_field-c, After-put_field-d, After-put_field-e}

-- the first fields of a record
abbrev one : Fields → List ℕ
one f = ended f.position comma

abbrev two : Fields → List ℕ
two f = one f ++ ended f.event comma

abbrev three : Fields → List ℕ
three f = two f ++ ended f.post comma

abbrev four : Fields → List ℕ
four f = three f ++ ended f.stamp comma

abbrev five : Fields → List ℕ
five f = four f ++ ended f.answer cr

-- what stands leaves room for the next field
room : (d out t u : List ℕ) (k r : ℕ) → Put t k r d out → k + length t + length u ≤ length d → r + length u ≤ length out
room d out t u k r p h = omega (arith, p.0, put_length d out t k r p (omega arith))

-- all of them fit
module _ (f : Fields) (at n : ℕ) (h : at + length (text_of f) ≤ n) where
  fits_one : at + length (one f) ≤ n
  fits_one = rw ended_long (omega (arith, h, text_long f))

  fits_two : at + length (one f) + length (ended f.event comma) ≤ n
  fits_two = simp (length-append, ended_long) (omega (arith, h, text_long f))

  fits_three : at + length (two f) + length (ended f.post comma) ≤ n
  fits_three = simp (length-append, ended_long) (omega (arith, h, text_long f))

  fits_four : at + length (three f) + length (ended f.stamp comma) ≤ n
  fits_four = simp (length-append, ended_long) (omega (arith, h, text_long f))

  fits_five : at + length (four f) + length (ended f.answer cr) ≤ n
  fits_five = simp (length-append, ended_long) (omega (arith, h, text_long f))

  fits_all : at + length (five f) + 1 ≤ n
  fits_all = simp (length-append, ended_long) (omega (arith, h, text_long f))

-- what stands after each call
first : (c : After-put_field-a) → Put (one c.args.f) c.args.at c.put_field-a.result c.args.out.now c.put_field-a.new.out
first c = c.put_field-a.ensures

second : (c : After-put_field-b) → Put (two c.args.f) c.args.at c.put_field-b.result c.args.out.now c.put_field-b.new.out
second c = put_then _ _ _ _ _ c.put_field-a.ensures _ _ _ (fits_two c.args.f c.args.at _ c.requires) c.put_field-b.ensures

third : (c : After-put_field-c) → Put (three c.args.f) c.args.at c.put_field-c.result c.args.out.now c.put_field-c.new.out
third c =
    let a = c.args in
    let p : Put (two a.f) a.at c.put_field-b.result a.out.now c.put_field-b.new.out = put_then _ _ _ _ _ c.put_field-a.ensures _ _ _ (fits_two a.f a.at _ c.requires) c.put_field-b.ensures in
    put_then _ _ _ _ _ p _ _ _ (fits_three a.f a.at _ c.requires) c.put_field-c.ensures

fourth : (c : After-put_field-d) → Put (four c.args.f) c.args.at c.put_field-d.result c.args.out.now c.put_field-d.new.out
fourth c =
    let a = c.args in
    let p : Put (two a.f) a.at c.put_field-b.result a.out.now c.put_field-b.new.out = put_then _ _ _ _ _ c.put_field-a.ensures _ _ _ (fits_two a.f a.at _ c.requires) c.put_field-b.ensures in
    let q : Put (three a.f) a.at c.put_field-c.result a.out.now c.put_field-c.new.out = put_then _ _ _ _ _ p _ _ _ (fits_three a.f a.at _ c.requires) c.put_field-c.ensures in
    put_then _ _ _ _ _ q _ _ _ (fits_four a.f a.at _ c.requires) c.put_field-d.ensures

fifth : (c : After-put_field-e) → Put (five c.args.f) c.args.at c.put_field-e.result c.args.out.now c.put_field-e.new.out
fifth c =
    let a = c.args in
    let p : Put (two a.f) a.at c.put_field-b.result a.out.now c.put_field-b.new.out = put_then _ _ _ _ _ c.put_field-a.ensures _ _ _ (fits_two a.f a.at _ c.requires) c.put_field-b.ensures in
    let q : Put (three a.f) a.at c.put_field-c.result a.out.now c.put_field-c.new.out = put_then _ _ _ _ _ p _ _ _ (fits_three a.f a.at _ c.requires) c.put_field-c.ensures in
    let r : Put (four a.f) a.at c.put_field-d.result a.out.now c.put_field-d.new.out = put_then _ _ _ _ _ q _ _ _ (fits_four a.f a.at _ c.requires) c.put_field-d.ensures in
    put_then _ _ _ _ _ r _ _ _ (fits_five a.f a.at _ c.requires) c.put_field-e.ensures

-- the last byte has room
last_fits : (c : After-put_field-e) → c.put_field-e.result + 1 ≤ length c.put_field-e.new.out
last_fits c =
    let h = fits_all c.args.f c.args.at (length c.args.out.now) c.requires in
    omega (arith, h, (fifth c).0, put_length _ _ _ _ _ (fifth c) (omega (arith, h)))

pub put_field-a-requires : goal.put_field-a-requires
put_field-a-requires c = fits_one c.args.f c.args.at _ c.requires

pub put_field-b-requires : goal.put_field-b-requires
put_field-b-requires c = room _ _ _ (ended c.args.f.event comma) _ _ (first (goal.at.put_field-b-requires c).After-put_field-a) (fits_two c.args.f c.args.at _ c.requires)

pub put_field-c-requires : goal.put_field-c-requires
put_field-c-requires c = room _ _ _ (ended c.args.f.post comma) _ _ (second (goal.at.put_field-c-requires c).After-put_field-b) (fits_three c.args.f c.args.at _ c.requires)

pub put_field-d-requires : goal.put_field-d-requires
put_field-d-requires c = room _ _ _ (ended c.args.f.stamp comma) _ _ (third (goal.at.put_field-d-requires c).After-put_field-c) (fits_four c.args.f c.args.at _ c.requires)

pub put_field-e-requires : goal.put_field-e-requires
put_field-e-requires c = room _ _ _ (ended c.args.f.answer cr) _ _ (fourth (goal.at.put_field-e-requires c).After-put_field-d) (fits_five c.args.f c.args.at _ c.requires)

pub bounds-out-e : goal.bounds-out-e
bounds-out-e c = omega (arith, last_fits (goal.at.bounds-out-e c).After-put_field-e)

pub overflow_add-result : goal.overflow_add-result
overflow_add-result c = let l = last_fits (goal.at.overflow_add-result c).After-put_field-e in search rules

pub returns : goal.returns
unfolding text_of
returns c = put_byte _ _ _ _ _ (fifth (goal.at.returns c).After-put_field-e) lf (omega (arith, fits_all c.args.f c.args.at (length c.args.out.now) c.requires))
