-- The run of a sheet of either form on two rows by value: both lines stay ones of at most 32 posts, and the word of a post of a track's row is its word on that track's line.
-- Assumes nothing.
use Prim.Native.Nat.{ℕ, ◌%◌, ◌≤◌}
use mathlib.Core.Path.{◌≡◌, refl, ap, ◌∙◌}
use mathlib.Core.Bool.{true, ◌&&◌}
use mathlib.Core.List.{List}
use native.Mathlib.Omega.{arith}
use lib.Dec.{eqb, leb}
use lib.ListN.{length, take}
use Rattle.relay.proofs.Fresh.{length-fresh}
use Rattle.relay.proofs.Truth.{and_facts, split}
use Rattle.relay.specs.Choice.{pick}
use Rattle.relay.specs.Kinds.{table_ok}
use Rattle.relay.specs.Posts.{at}
use Rattle.relay.specs.declared.Post.{Post}
use Rattle.row.proofs.Held.{held-line}
use Rattle.row.proofs.Starts.{table-few}
use Rattle.row.specs.Row.{most, line_of, row_of}
use Rattle.row.specs.declared.Row.{Row}
use Rattle.sheet.specs.Layout.{two_tracks}
use Rattle.sheet.specs.Reading.{tables_ok, table_fits}
use Rattle.sheet.specs.Sheet.{Tracked, first_kinds, second_kinds, circuit_of}
use Rattle.tracks.specs.Circuit.{AfterTwo, track_two}
use Rattle.working.specs.Run.{marked}
use Rattle.why.specs.Why.{begun_of, state_after, line_at}
use Rattle.why.proofs.Start.{kinds_on, starts-fresh}
use Rattle.why.proofs.Track.{run_long}

-- a right table has at most 32 posts on each track
kinds-few : (t : Tracked) → table_fits t.form t.table ≡ true → (track : ℕ) → length (kinds_on t track) ≤ most
unfolding table_fits tables_ok
kinds-few t e track =
    split (eqb t.form two_tracks)
    (λ y.
    let f = (and_facts (eqb (length t.table % 2) 1) (table_ok (first_kinds t.table) && (table_ok (second_kinds t.table) && leb (circuit_of t.table) 1))).0 (rw y at e) in
    let g = (and_facts (table_ok (first_kinds t.table)) (table_ok (second_kinds t.table) && leb (circuit_of t.table) 1)).0 f.1 in
    let h = (and_facts (table_ok (second_kinds t.table)) (leb (circuit_of t.table) 1)).0 g.1 in
    split (eqb track track_two)
    (λ z. rw (y, z) (table-few (second_kinds t.table) h.0))
    (λ z. rw (y, z) (table-few (first_kinds t.table) g.0)))
    (λ y. split (eqb track track_two) (λ z. rw (y, z) (omega arith)) (λ z. rw (y, z) (table-few t.table (rw y at e))))

-- so has each line, after any number of events
pub few : (t : Tracked) → table_fits t.form t.table ≡ true → (i track : ℕ) → length (line_at track (state_after t i)) ≤ most
few t e i track =
    let l = run_long t.form (circuit_of t.table) track (begun_of t) (take i (marked t.events t.tracks)) in
    let f = ap (λ (l : List Post). length l) (starts-fresh t track) in
    omega (arith, l, f, length-fresh (kinds_on t track), kinds-few t e track)

-- the word of a post of a track, of rows that hold the lines
pub held_on : (track p : ℕ) (first second : Row) (a : AfterTwo) → length (line_at 0 a) ≤ most → length (line_at 1 a) ≤ most
    → first ≡ row_of a.first → second ≡ row_of a.second
    → (w : ℕ) → w ≡ (at (pick (eqb track track_two) (line_of second) (line_of first)) p).word
    → w ≡ (at (line_at track a) p).word
held_on track p first second a m n e f w g = g ∙ rw (e, f, held-line a.first m, held-line a.second n) refl
