-- `write` meets its contract: a sheet of one track is laid as one of either form, with no tracks.
use Rattle.std.proofs.Common.{◌≡◌, ℕ, Bool, true, false, ◌&&◌, eqb, List, length, sym, refl, ◌∙◌, arith, eq-eqb}
use Rattle.relay.specs.Kinds.{table_ok}
use Rattle.sheet.specs.Sheet.{Sheet, of_one}
use Rattle.sheet.specs.Writing.{all_in_fields, all_below}
use Rattle.sheet.proofs.Laid.{table-few, no_table, no_fields, start_one, fit_one, writes_one, laid_one}
use Rattle.lent_sheet.proofs.write.Goals as goal
use Rattle.lent_sheet.proofs.write.Goals.{Else-not-all_in_fields, Else-not-may_start}

abbrev sheetOf : ℕ → List ℕ → List (List ℕ) → Sheet
sheetOf stamp kinds events = record { stamp = stamp; kinds = kinds; events = events }

-- what the test of the table says
passed : (ks : List ℕ) (r v : Bool) → r ≡ (eqb (length ks) (length ks) && table_ok ks) → r ≡ v → table_ok ks ≡ v
passed ks r v e f = sym (e ∙ rw (eq-eqb (length ks) (length ks) refl)) ∙ f

-- past the first test the table is right
right : (c : Else-not-may_start) → table_ok c.args.kinds.now ≡ true
right c = passed _ _ true c.may_start.ensures (c.if-not-may_start.false)

-- past the second every event is in its fields
in_fields : (c : Else-not-all_in_fields) → all_in_fields c.args.events.now ≡ true
in_fields c = sym c.all_in_fields.ensures ∙ c.if-not-all_in_fields.false

pub returns-then-not-may_start-clause-written : goal.returns-then-not-may_start-clause-written
returns-then-not-may_start-clause-written c = let t = sheetOf c.args.stamp c.args.kinds.now c.args.events.now in
    let d = c.args.out.now in
    (writes_one t 1 d d).0 (no_table (of_one t) d (start_one t ∙ passed _ _ false c.may_start.ensures (c.if-not-may_start.true)))

pub returns-then-not-all_in_fields-clause-written : goal.returns-then-not-all_in_fields-clause-written
returns-then-not-all_in_fields-clause-written c = let t = sheetOf c.args.stamp c.args.kinds.now c.args.events.now in
    let d = c.args.out.now in
    (writes_one t 20 d d).0 (no_fields (of_one t) d (start_one t ∙ right (goal.at.returns-then-not-all_in_fields-clause-written c).Else-not-may_start) (fit_one t ∙ sym c.all_in_fields.ensures ∙ c.if-not-all_in_fields.true))

pub invariant_of-draft : goal.invariant_of-draft
unfolding all_below
invariant_of-draft c = record {
  few_words = omega (arith, table-few _ (right (goal.at.invariant_of-draft c).Else-not-may_start));
  in_fields = in_fields (goal.at.invariant_of-draft c).Else-not-all_in_fields;
  on_tracks = refl;
}

pub returns-clause-written : goal.returns-clause-written
returns-clause-written c = laid_one (sheetOf c.args.stamp c.args.kinds.now c.args.events.now) (right (goal.at.returns-clause-written c).Else-not-may_start) (in_fields (goal.at.returns-clause-written c).Else-not-all_in_fields) _ c.args.out.now _ c.write.ensures.written
