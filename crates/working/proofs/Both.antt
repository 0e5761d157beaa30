-- A session of a sheet of either form on two rows by value: where it begins, and an event on its rows is the session's next event.
-- Assumes nothing.
use Prim.Native.Nat.{ℕ, zero, suc, ◌+◌, ◌/◌, ◌%◌, ◌≤◌, ◌<◌}
use mathlib.Core.Path.{◌≡◌, refl, sym, ap, ◌∙◌}
use mathlib.Core.Bool.{Bool, true, false, ◌&&◌}
use mathlib.Core.List.{List, [], ◌∷◌, ◌++◌}
use native.Mathlib.Omega.{arith}
use borrow.Author.Tests.{eq-eqb, ne_eqb, lt-leb}
use lib.Dec.{eqb, leb}
use lib.ListN.{length, get_or, drop, length-drop}
use lib.Seq.{length-take-le, get_or-drop}
use Rattle.relay.proofs.Frame.{length-stays}
use Rattle.relay.proofs.Fresh.{length-fresh}
use Rattle.relay.proofs.Truth.{and_facts, split, equal_or_not, least_or_below}
use Rattle.relay.specs.Kinds.{table_ok}
use Rattle.relay.specs.Answers.{taken}
use Rattle.relay.specs.Choice.{pick}
use Rattle.relay.specs.declared.Head.{Head}
use Rattle.relay.specs.Line.{head, told, fresh_line}
use Rattle.row.specs.Row.{most, row_of, start_row}
use Rattle.row.proofs.Held.{held-event}
use Rattle.row.proofs.Starts.{table-few, begins, refuses}
use Rattle.row.specs.declared.Row.{Row}
use Rattle.row.specs.declared.Stood.{Stood}
use Rattle.std.proofs.Common.{Option, Some, None}
use Rattle.std.proofs.lemmas.Option.{same_Some, none-some}
use Rattle.rows.specs.Rows.{stood_two, none_stood, start_rows}
use Rattle.rows.specs.declared.StoodTwo.{StoodTwo}
use Rattle.rows.proofs.Held.{two_long, held_two}
use Rattle.sheet.specs.Entry.{entry, number_of, post_of, answer_of, stamp_of}
use Rattle.sheet.specs.Layout.{one_track, two_tracks}
use Rattle.sheet.specs.Reading.{form_ok, tables_ok, table_fits}
use Rattle.tracks.specs.Circuit.{AfterTwo, circuit_ok}
use Rattle.sheet.specs.Sheet.{first_kinds, second_kinds, circuit_of}
use Rattle.working.specs.Run.{marked, begun_by, next_by, run_by}
use Rattle.working.specs.Working.{session, begin_by, step_by}
use Rattle.working.specs.declared.Session.{Session}

-- ---- the events with their tracks
pub marked-long : (es : List (List ℕ)) (ts : List ℕ) → length (marked es ts) ≡ length es
unfolding marked
marked-long [] ts = refl
marked-long (e ∷ es) ts = ap suc (marked-long es (drop 1 ts))

-- event i with its track
pub marked_at : (es : List (List ℕ)) (ts : List ℕ) (i : ℕ) → i < length es
    → get_or (marked es ts) i [] ≡ entry (number_of (get_or es i [])) (post_of (get_or es i [])) (answer_of (get_or es i [])) (stamp_of (get_or es i [])) ++ (get_or ts i 0 ∷ [])
unfolding marked
marked_at [] ts i h = absurd (omega (arith, h))
marked_at (e ∷ es) ts zero h = refl
marked_at (e ∷ es) ts (suc i) h = let e : 1 + i ≡ suc i = omega arith in marked_at es (drop 1 ts) i (omega arith) ∙ rw (get_or-drop 1 ts i 0, e) refl

-- ---- where it begins
-- a circuit kind is 0 or 1
pub circuit_same : (c : ℕ) → circuit_ok c ≡ leb c 1
unfolding circuit_ok
circuit_same c =
    equal_or_not c 0
    (λ e. rw e refl)
    (λ n. equal_or_not c 1 (λ e. rw e refl) (λ m. rw (ne_eqb c 0 n, ne_eqb c 1 m, lt-leb c 1 (omega arith)) refl))

pub first_long : (ks : List ℕ) → length (first_kinds ks) ≡ length ks / 2
first_long ks = length-take-le (length ks / 2) ks (omega arith)

pub second-long : (ks : List ℕ) → length (second_kinds ks) ≡ length ks / 2
second-long ks = length-take-le (length ks / 2) (drop (length ks / 2) ks) (rw (length-drop (length ks / 2) ks) (omega arith))

-- the test of two tables is starting's
turn : (a b d : Bool) → (a && (b && d)) ≡ (b && (d && a))
turn true true true = refl
turn true true false = refl
turn true false d = refl
turn false true true = refl
turn false true false = refl
turn false false d = refl

-- both fresh lines, or none
unfoldable pub begun_two : List ℕ → ℕ → StoodTwo
begun_two ks t =
    pick (tables_ok ks)
    (stood_two (told taken (head 0 t)) (row_of (fresh_line (first_kinds ks))) (row_of (fresh_line (second_kinds ks)))) none_stood

pub two_odd : (ks : List ℕ) (t : ℕ) → length ks % 2 ≡ 1 → start_rows (circuit_of ks) (first_kinds ks) (second_kinds ks) t ≡ begun_two ks t
unfolding begun_two tables_ok start_rows
two_odd ks t e =
    let same : eqb (length (first_kinds ks)) (length (second_kinds ks)) ≡ true = eq-eqb _ _ (first_long ks ∙ sym (second-long ks)) in
    rw (eq-eqb (length ks % 2) 1 e, same, circuit_same (circuit_of ks), and-true (table_ok (second_kinds ks)), turn (leb (circuit_of ks) 1) (table_ok (first_kinds ks)) (table_ok (second_kinds ks))) refl
  where
    and-true : (b : Bool) → (b && true) ≡ b
    and-true true = refl
    and-true false = refl

-- by how many tracks the sheet is of
module _ (ks : List ℕ) (t : ℕ) where
  pub two_even : (length ks % 2 ≡ 1 → ⊥) → None ≡ begin_by two_tracks ks t
  unfolding begin_by form_ok table_fits tables_ok
  two_even n = rw (ne_eqb (length ks % 2) 1 n) refl

  module _ (r : StoodTwo) (e : r ≡ begun_two ks t) where
    pub two_begin : r.told.answer ≡ 0
        → Some (record { tracks = two_tracks; circuit = circuit_of ks; first = r.first; second = r.second; head = r.told.head }) ≡ begin_by two_tracks ks t
    unfolding begin_by form_ok table_fits begun_by begun_two
    two_begin z =
        split (tables_ok ks)
        (λ h. rw (rw h at e, h) refl)
        (λ h. absurd (let o = ap (λ (x : StoodTwo). x.told.answer) (rw h at e) in omega arith))

    pub two_refuse : (r.told.answer ≡ 0 → ⊥) → None ≡ begin_by two_tracks ks t
    unfolding begin_by form_ok table_fits begun_two
    two_refuse n =
        split (tables_ok ks)
        (λ h. absurd (n (ap (λ (x : StoodTwo). x.told.answer) (rw h at e))))
        (λ h. rw h refl)

  module _ (r : Stood) (e : r ≡ start_row ks t) where
    pub one_begin : r.told.answer ≡ 0
        → Some (record { tracks = one_track; circuit = circuit_of ks; first = r.row; second = row_of []; head = r.told.head }) ≡ begin_by one_track ks t
    unfolding begin_by form_ok table_fits begun_by
    one_begin z = let b = begins ks t r e z in rw (b.row, b.head, b.table) refl

    pub one_refuse : (r.told.answer ≡ 0 → ⊥) → None ≡ begin_by one_track ks t
    unfolding begin_by form_ok table_fits
    one_refuse n = rw (refuses ks t r e n).table refl

  pub begin_none : (form : ℕ) → (form ≡ 1 → ⊥) → (form ≡ 2 → ⊥) → None ≡ begin_by form ks t
  unfolding begin_by form_ok
  begin_none form n m =
      let none : (leb 1 form && leb form 2) ≡ false =
      least_or_below form 2
      (λ h. let z : form ≡ 0 = omega arith in rw z refl)
      (λ h. rw (lt-leb form 2 h) (and-false (leb 1 form))) in
      rw none refl
    where
      and-false : (b : Bool) → (b && false) ≡ false
      and-false true = refl
      and-false false = refl

-- what beginning returns
module _ (form : ℕ) (ks : List ℕ) (t : ℕ) (r : Option Session) (e : r ≡ begin_by form ks t) where
  pub begun-some : (z : Session) → r ≡ Some z
      → ((form_ok two_tracks form && table_fits form ks) ≡ true) × (z ≡ session form (circuit_of ks) (begun_by form ks t))
  unfolding begin_by
  begun-some z s =
      split (form_ok two_tracks form && table_fits form ks)
      (λ h. (h, same_Some _ _ (sym s ∙ rw h at e)))
      (λ h. absurd (none-some _ (sym (sym s ∙ rw h at e))))

  pub begun-none : r ≡ None → (form_ok two_tracks form && table_fits form ks) ≡ false
  unfolding begin_by
  begun-none s =
      split (form_ok two_tracks form && table_fits form ks)
      (λ h. absurd (none-some _ (sym s ∙ rw h at e)))
      (λ h. h)

-- ---- its lines stay as long as they were
next_long : (form c : ℕ) (a : AfterTwo) (e : List ℕ) → (length (next_by form c a e).first ≡ length a.first) × (length (next_by form c a e).second ≡ length a.second)
unfolding next_by
next_long form c a e =
    split (eqb form two_tracks)
    (λ y. rw y (two_long c a.first a.second a.told.head _ _ _ _))
    (λ y. rw y (length-stays a.first a.told.head _ _ _, refl))

pub run_long : (form c : ℕ) (a : AfterTwo) (es : List (List ℕ)) → (length (run_by form c a es).first ≡ length a.first) × (length (run_by form c a es).second ≡ length a.second)
unfolding run_by
run_long form c a [] = (refl, refl)
run_long form c a (e ∷ es) =
    let g = run_long form c (next_by form c a e) es in
    let h = next_long form c a e in
    (g.0 ∙ h.0, g.1 ∙ h.1)

-- both are lines of at most 32 posts
few : (ks : List ℕ) → table_ok ks ≡ true → length (fresh_line ks) ≤ most
few ks e = omega (arith, length-fresh ks, table-few ks e)

begun-few : (form : ℕ) (ks : List ℕ) (t : ℕ) → table_fits form ks ≡ true → (length (begun_by form ks t).first ≤ most) × (length (begun_by form ks t).second ≤ most)
unfolding table_fits tables_ok begun_by
begun-few form ks t =
    split (eqb form two_tracks)
    (λ y. rw y (λ e.
    let f = (and_facts (eqb (length ks % 2) 1) (table_ok (first_kinds ks) && (table_ok (second_kinds ks) && leb (circuit_of ks) 1))).0 e in
    let g = (and_facts (table_ok (first_kinds ks)) (table_ok (second_kinds ks) && leb (circuit_of ks) 1)).0 f.1 in
    let h = (and_facts (table_ok (second_kinds ks)) (leb (circuit_of ks) 1)).0 g.1 in
    (few (first_kinds ks) g.0, few (second_kinds ks) h.0)))
    (λ y. rw y (λ e. (few ks e, omega arith)))

-- ---- an event on the rows of a session is its next event
module _ (form : ℕ) (ks : List ℕ) (t : ℕ) (fits : table_fits form ks ≡ true) (c : ℕ) (es : List (List ℕ)) where
  abbrev now : AfterTwo
  now = run_by form c (begun_by form ks t) es

  pub now-few : (length now.first ≤ most) × (length now.second ≤ most)
  now-few =
      let g = run_long form c (begun_by form ks t) es in
      let b = begun-few form ks t fits in
      (omega (arith, g.0, b.0), omega (arith, g.1, b.1))

  pub rows_next : (e : List ℕ) → step_by form c (row_of now.first) (row_of now.second) now.told.head (get_or e 4 0) (number_of e) (post_of e) (stamp_of e)
      ≡ stood_two (next_by form c now e).told (row_of (next_by form c now e).first) (row_of (next_by form c now e).second)
  unfolding step_by next_by
  rows_next e =
      split (eqb form two_tracks)
      (λ y. rw y (held_two now.first now.second now-few.0 now-few.1 c now.told.head (get_or e 4 0) (number_of e) (post_of e) (stamp_of e)))
      (λ y. rw (y, held-event now.first now-few.0 now.told.head (number_of e) (post_of e) (stamp_of e)) refl)

  -- so a step of one that stands there leaves one that stands after it, and returns its answer
  pub session_next : (z new : Session) (answer : ℕ) (e : List ℕ) → z ≡ session form c now
      → stood_two (told answer new.head) new.first new.second ≡ step_by z.tracks z.circuit z.first z.second z.head (get_or e 4 0) (number_of e) (post_of e) (stamp_of e)
      → (new.tracks ≡ z.tracks) × (new.circuit ≡ z.circuit)
      → (new ≡ session form c (next_by form c now e)) × (answer ≡ (next_by form c now e).told.answer)
  session_next z new answer e here took kept =
      let r = rw here at took ∙ rows_next e in
      let first : new.first ≡ row_of (next_by form c now e).first = ap (λ (x : StoodTwo). x.first) r in
      let second : new.second ≡ row_of (next_by form c now e).second = ap (λ (x : StoodTwo). x.second) r in
      let last : new.head ≡ (next_by form c now e).told.head = ap (λ (x : StoodTwo). x.told.head) r in
      (same new (rw here at kept.0) (rw here at kept.1) first second last, ap (λ (x : StoodTwo). x.told.answer) r)
    where
      same : (n : Session) {form c : ℕ} {a b : Row} {h : Head} → n.tracks ≡ form → n.circuit ≡ c → n.first ≡ a → n.second ≡ b → n.head ≡ h
          → n ≡ record { tracks = form; circuit = c; first = a; second = b; head = h }
      same n d e f g i = rw (← d, ← e, ← f, ← g, ← i) refl
