-- `write_tracks` meets its contract: the table, the fields and the tracks are tested, and the sheet is laid.
use Rattle.std.proofs.Common.{◌≡◌, ℕ, true, false, ◌&&◌, List, length, sym, ◌∙◌}
use Rattle.sheet.specs.Reading.{form_ok, table_fits}
use Rattle.sheet.specs.Sheet.{Tracked}
use Rattle.sheet.specs.Writing.{all_in_fields, tracks_fit}
use Rattle.sheet.proofs.Along.{both}
use Rattle.sheet.proofs.Fields.{tracks_two}
use Rattle.sheet.proofs.Laid.{fits-long, no_table, no_fields, passes}
use Rattle.lent_sheet.proofs.write_tracks.Goals as goal
use Rattle.lent_sheet.proofs.write_tracks.Goals.{Else-not-all_in_fields, Else-not-may_start, Else-not-tracks_fit}

abbrev sheetOf : ℕ → ℕ → List ℕ → List (List ℕ) → List ℕ → Tracked
sheetOf form stamp table events tracks = record { form = form; stamp = stamp; table = table; events = events; tracks = tracks }

-- past the first test starting would accept the table
right : (c : Else-not-may_start) → (form_ok 2 c.args.tracks && table_fits c.args.tracks c.args.table.now) ≡ true
right c = sym c.may_start.ensures ∙ c.if-not-may_start.false

-- past the second every event is in its fields
in_fields : (c : Else-not-all_in_fields) → all_in_fields c.args.events.now ≡ true
in_fields c = sym c.all_in_fields.ensures ∙ c.if-not-all_in_fields.false

-- past the third every event has its track
on-tracks : (c : Else-not-tracks_fit) → tracks_fit c.args.tracks (length c.args.events.now) c.args.on.now ≡ true
on-tracks c = sym c.tracks_fit.ensures ∙ c.if-not-tracks_fit.false

pub returns-then-not-may_start-clause-written : goal.returns-then-not-may_start-clause-written
returns-then-not-may_start-clause-written c = no_table (sheetOf c.args.tracks c.args.stamp c.args.table.now c.args.events.now c.args.on.now) c.args.out.now (sym c.may_start.ensures ∙ c.if-not-may_start.true)

pub returns-then-not-all_in_fields-clause-written : goal.returns-then-not-all_in_fields-clause-written
returns-then-not-all_in_fields-clause-written c = let no : all_in_fields c.args.events.now ≡ false = sym c.all_in_fields.ensures ∙ c.if-not-all_in_fields.true in
    no_fields (sheetOf c.args.tracks c.args.stamp c.args.table.now c.args.events.now c.args.on.now) c.args.out.now (right (goal.at.returns-then-not-all_in_fields-clause-written c).Else-not-may_start) (rw no)

pub returns-then-not-tracks_fit-clause-written : goal.returns-then-not-tracks_fit-clause-written
returns-then-not-tracks_fit-clause-written c = let no : tracks_fit c.args.tracks (length c.args.events.now) c.args.on.now ≡ false = sym c.tracks_fit.ensures ∙ c.if-not-tracks_fit.true in
    no_fields (sheetOf c.args.tracks c.args.stamp c.args.table.now c.args.events.now c.args.on.now) c.args.out.now (right (goal.at.returns-then-not-tracks_fit-clause-written c).Else-not-may_start) (rw (in_fields (goal.at.returns-then-not-tracks_fit-clause-written c).Else-not-all_in_fields, no))

pub invariant_of-draft : goal.invariant_of-draft
invariant_of-draft c = let r = both (form_ok 2 c.args.tracks) (table_fits c.args.tracks c.args.table.now) (right (goal.at.invariant_of-draft c).Else-not-may_start) in record {
  few_words = fits-long c.args.tracks c.args.table.now r.1;
  in_fields = in_fields (goal.at.invariant_of-draft c).Else-not-all_in_fields;
  on_tracks = tracks_two c.args.tracks _ c.args.on.now r.0 (on-tracks (goal.at.invariant_of-draft c).Else-not-tracks_fit);
}

pub returns-clause-written : goal.returns-clause-written
returns-clause-written c = passes (sheetOf c.args.tracks c.args.stamp c.args.table.now c.args.events.now c.args.on.now) c.args.out.now
    (right (goal.at.returns-clause-written c).Else-not-may_start) (rw (in_fields (goal.at.returns-clause-written c).Else-not-all_in_fields, on-tracks (goal.at.returns-clause-written c).Else-not-tracks_fit)) _ _ c.write.ensures.written
