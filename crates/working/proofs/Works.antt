-- Working a sheet, by its outcomes: refused as reading, refused for an answer, refused for the output, or worked.
-- Assumes nothing.
use Prim.Native.Nat.{ℕ, ◌+◌, ◌/◌, ◌≤◌, ◌<◌}
use mathlib.Core.Path.{◌≡◌, refl, ap, ◌∙◌}
use mathlib.Core.Bool.{true, false, ◌&&◌}
use mathlib.Core.List.{List, [], ◌∷◌, ◌++◌}
use native.Mathlib.Omega.{arith}
use borrow.Author.Tests.{eq-eqb, ne_eqb, le-leb, lt-leb, lt-ltb, le-ltb, eqb-false}
use lib.Dec.{eqb, ltb}
use lib.ListN.{length, drop}
use Rattle.relay.proofs.Frame.{answer_is, answer-small}
use Rattle.relay.proofs.Truth.{and_facts}
use Rattle.relay.specs.Kinds.{table_ok}
use Rattle.relay.specs.Line.{After}
use Rattle.row.specs.Row.{row_of}
use Rattle.sheet.proofs.Rooms.{entries-few, events-long, all_kinds, all_events, table-right, bytes_are}
use Rattle.sheet.proofs.Refusals.{refuses, number_is}
use Rattle.sheet.proofs.Fields.{every}
use Rattle.sheet.proofs.PackingFields.{unpacked-fields}
use Rattle.sheet.proofs.Tabs.{get_d_tab}
use Rattle.sheet.specs.Entry.{number_of, post_of, answer_of, stamp_of, in_fields}
use Rattle.sheet.specs.Layout.{per_block, contents_wrong, room_short, one_track}
use Rattle.sheet.specs.Reading.{accepted, verdict, verdict_of, entries_in, entry_in, decode}
use Rattle.sheet.specs.Sheet.{encode}
use Rattle.sheet.specs.Refusals.{refusal_code}
use Rattle.sheet.specs.Writing.{all_in_fields, bytes_for, write_number, written}
use Rattle.sheet.specs.declared.Verdict.{Verdict}
use Rattle.sheet.specs.declared.refusal.Refusal.{Refusal}
use Rattle.std.proofs.Common.{Result, Ok, Err}
use Rattle.working.proofs.Steps.{answered-long}
use Rattle.working.specs.Run.{begun, next, run, answered_by, answered}
use Rattle.working.specs.Working.{first_answered, worked, refused, work_verdict, work_verdict_up_to, work_of, worked_bytes, Works}

module _ (s : List ℕ) where
  -- ---- the outcomes
  module _ (out : List ℕ) where
    refuse_with : (v : Verdict) → work_verdict s (length out) ≡ v → (v.number ≡ 0 → ⊥) → Works s (refused v) out out
    unfolding work_of worked_bytes
    refuse_with v e n = let h : eqb v.number 0 ≡ false = ne_eqb v.number 0 n in (rw (e, h), rw (e, h))

    pub works_unread : accepted s ≡ false → Works s (refused (verdict_of s)) out out
    unfolding work_verdict_up_to
    works_unread h = refuse_with (verdict_of s) (rw h) (eqb-false (verdict_of s).number 0 h)

    module _ (z : (verdict_of s).number ≡ 0) where
      read : accepted s ≡ true
      read = eq-eqb (verdict_of s).number 0 z

      pub works_answered : first_answered (decode s).events < length (decode s).events → Works s (refused (verdict contents_wrong (1 + first_answered (decode s).events / per_block))) out out
      unfolding work_verdict_up_to
      works_answered h = refuse_with _ (rw (read, lt-ltb _ _ h)) (λ e. omega arith)

      module _ (fresh : length (decode s).events ≤ first_answered (decode s).events) where
        pub works_short : length out < length s → Works s (refused (verdict room_short 0)) out out
        unfolding work_verdict_up_to
        works_short h = refuse_with _ (rw (read, le-ltb _ _ fresh, lt-leb _ _ h)) (λ e. omega arith)

        module _ (h : length s ≤ length out) where
          taken : work_verdict s (length out) ≡ verdict 0 0
          unfolding work_verdict_up_to
          taken = rw (read, le-ltb _ _ fresh, le-leb _ _ h)

          abbrev b : After
          b = begun (decode s).kinds (decode s).stamp

          pub works_worked : Works s (record { number = 0; block = 0; position = 0; row = row_of (run b (decode s).events).line; head = (run b (decode s).events).told.head }) out (encode (worked (decode s)) ++ drop (length s) out)
          unfolding work_of worked_bytes
          works_worked = (rw taken, rw taken)

-- ---- writing the answers
-- an answer is in its field
fields_one : (a : After) (e : List ℕ) → in_fields e ≡ true → in_fields (answered_by e (next a e).told.answer) ≡ true
unfolding in_fields
fields_one a e h =
    let f = (and_facts (ltb (number_of e) 32) (ltb (post_of e) 64 && ltb (answer_of e) 32)).0 h in
    let g = (and_facts (ltb (post_of e) 64) (ltb (answer_of e) 32)).0 f.1 in
    let small : (next a e).told.answer < 32 = omega (arith, answer_is a.line a.told.head (number_of e) (post_of e) (stamp_of e), answer-small a.line a.told.head (number_of e) (post_of e) (stamp_of e)) in
    rw (f.0, g.0, lt-ltb (next a e).told.answer 32 small)

pub fields_kept : (a : After) (es : List (List ℕ)) → all_in_fields es ≡ true → all_in_fields (answered a es) ≡ true
unfolding all_in_fields answered
fields_kept a [] h = refl
fields_kept a (e ∷ es) h =
    let f = (and_facts (in_fields e) (all_in_fields es)).0 h in
    rw (fields_one a e f.0) (fields_kept (next a e) es f.1)

-- the table of an accepted sheet is right
pub said-table : (s : List ℕ) → (verdict_of s).number ≡ 0 → table_ok (decode s).kinds ≡ true
said-table s z = rw (all_kinds s) (table-right s z)

-- what a sheet says is in its fields
pub said-fields : (s : List ℕ) → (verdict_of s).number ≡ 0 → all_in_fields (decode s).events ≡ true
said-fields s z = every (decode s).events (λ i h. rw (all_events s, get_d_tab (entry_in s) [] (entries_in s) i (rw (events-long s) at h)) (unpacked-fields _ _))

pub said_few : (s : List ℕ) → (verdict_of s).number ≡ 0 → length (decode s).events ≤ 3780
said_few s z = omega (arith, events-long s, entries-few one_track s z)

-- the worked sheet can be written where the sheet itself would fit
module _ (s : List ℕ) (z : (verdict_of s).number ≡ 0) where
  pub said_size : bytes_for (length (decode s).events) ≡ length s
  said_size = ap bytes_for (events-long s) ∙ bytes_are one_track s z

  count : length (worked (decode s)).events ≡ length (decode s).events
  count = answered-long _ (decode s).events

  size : bytes_for (length (worked (decode s)).events) ≡ length s
  size = ap bytes_for count ∙ said_size

  writes-number : (m : ℕ) → length s ≤ m → write_number (worked (decode s)) m ≡ 0
  unfolding write_number
  writes-number m h =
      let t = worked (decode s) in
      rw (
        said-table s z,
        fields_kept (begun (decode s).kinds (decode s).stamp) (decode s).events (said-fields s z),
        le-leb (length t.events) 3780 (omega (arith, count, said_few s z)),
        le-leb (bytes_for (length t.events)) m (omega (arith, size)),
      ) refl

  module _ (out : List ℕ) (h : length s ≤ length out) where
    pub writes : (r : Result (Unit {0}) Refusal) → refusal_code r ≡ write_number (worked (decode s)) (length out) → ((x : Unit {0}) → r ≡ Ok x → ⊥) → ⊥
    writes (Ok x) e n = n x refl
    writes (Err r) e n = refuses r (number_is r ∙ e ∙ writes-number (length out) h)

    pub writes-worked : written (worked (decode s)) out ≡ encode (worked (decode s)) ++ drop (length s) out
    unfolding written
    writes-worked = rw (writes-number (length out) h, size) refl
