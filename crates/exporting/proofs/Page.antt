-- A page has room for any register: an accepted sheet has at most 32 kinds and 3,780 events, and each record is short, since its numbers are.
-- Assumes nothing.
use Rattle.std.specs.Prelude.{Some, None}
use Prim.Native.Nat.{ℕ, ◌+◌, ◌^◌, ◌≤◌, ◌<◌}
use mathlib.Core.Path.{◌≡◌, ap, ◌∙◌}
use mathlib.Core.List.{List}
use native.Mathlib.Omega.{arith}
use borrow.Author.Tests.{eq-eqb, le-ltb}
use lib.ListN.{length, get_or, length-append}
use Rattle.digits.specs.Texts.{joined}
use Rattle.digits.proofs.Value.{digits-within}
use Rattle.sheet.specs.Layout.{one_track}
use Rattle.sheet.specs.Entry.{number_of, post_of, answer_of, stamp_of}
use Rattle.sheet.specs.Reading.{verdict_of, blocks_in, decode}
use Rattle.sheet.specs.Sheet.{Sheet, event_at}
use Rattle.sheet.proofs.Accepts.{accepted-good}
use Rattle.sheet.proofs.Bytes.{Below}
use Rattle.sheet.proofs.Rooms.{posts-few, kinds-long}
use Rattle.sheet.proofs.TripRead.{decoded_writable}
use Rattle.sheet.proofs.Writable.{Writable, in_fields}
use Rattle.register.proofs.Sheets.{table-small}
use Rattle.exporting.specs.Exporting.{text_for, done, export_of}
use Rattle.exporting.specs.Fields.{field, count, event_fields, text_at}
use Rattle.exporting.proofs.Joins.{joined_none, joined-long, joined-split, joined-within}
use Rattle.exporting.proofs.Marks.{field_none, field_some, text_long, register_long}
use Rattle.exporting.proofs.Registers.{at_start, at_kind, at_event, exported_is}

-- `PAGE` of the code: 34 + 16 + 32 * 10 + 3780 * 26
abbrev pub page : ℕ
page = 98650

-- ---- each record is short
-- a number below 10 to the f
some-within : (f n : ℕ) → 1 ≤ f → n < 10 ^ f → length (field (Some n)) ≤ f
some-within f n l h = rw (field_some n) (digits-within f n l h)

none_long : length (field None) ≡ 0
none_long = ap (λ (t : List ℕ). length t) field_none

module _ (t : Sheet) (w : Writable t) (few : length t.kinds ≤ 32) where
  abbrev n : ℕ
  n = length t.kinds

  abbrev text : ℕ → List ℕ
  text = text_at t.stamp t.kinds t.events

  start_short : length (text 0) ≤ 16
  start_short =
      rw (at_start t.stamp t.kinds t.events, text_long)
      (omega (arith, none_long, some-within 10 t.stamp (omega arith) (omega (arith, w.stamp))))

  kind-short : (j : ℕ) → j < n → length (text (1 + j)) ≤ 10
  kind-short j h =
      let e : 1 + j ≡ j + 1 = omega arith in
      rw (e, at_kind t.stamp t.kinds t.events j h, text_long)
      (omega (arith, none_long, some-within 2 (get_or t.kinds j 0) (omega arith) (omega (arith, table-small t.kinds w.table j)), some-within 2 j (omega arith) (omega arith)))

  event-short : (k : ℕ) → k < length t.events → length (text (1 + n + k)) ≤ 26
  unfolding event_fields
  event-short k h =
      let e : 1 + n + k ≡ n + k + 1 = omega arith in
      let v = event_at t k in
      let i = in_fields t w k h in
      rw (e, at_event t.stamp t.kinds t.events k, text_long)
      (omega (
        arith,
        some-within 4 (k + 1) (omega arith) (omega (arith, w.most)),
        some-within 2 (number_of v) (omega arith) (omega (arith, i.number)),
        some-within 2 (post_of v) (omega arith) (omega (arith, i.post)),
        some-within 10 (stamp_of v) (omega arith) (omega (arith, w.stamps k h)),
        some-within 2 (answer_of v) (omega arith) (omega (arith, i.answer)),
      ))

  -- all of them
  register_short : length (joined text (count t.kinds t.events)) + 34 ≤ page
  register_short =
      let m = length t.events in
      let start : length (joined text 1) ≤ 16 = omega (arith, joined-long text 0, ap (λ (x : List ℕ). length x) (joined_none text), start_short) in
      let kinds = joined-within (λ j. text (1 + j)) 10 n kind-short in
      let events = joined-within (λ k. text (1 + n + k)) 26 m event-short in
      let a : length (joined text (1 + n)) ≡ length (joined text 1) + length (joined (λ j. text (1 + j)) n) = ap (λ (x : List ℕ). length x) (joined-split text 1 n) ∙ length-append (joined text 1) _ in
      let b : length (joined text (1 + n + m)) ≡ length (joined text (1 + n)) + length (joined (λ k. text (1 + n + k)) m) = ap (λ (x : List ℕ). length x) (joined-split text (1 + n) m) ∙ length-append (joined text (1 + n)) _ in
      omega (arith, w.most)

-- ---- the register of an accepted sheet
module _ (s : List ℕ) (small : Below 256 s) (z : (verdict_of s).number ≡ 0) where
  -- it is no longer than a page
  pub page-fits : length (text_for s) ≤ page
  page-fits =
      let t = decode s in
      let w = decoded_writable (blocks_in (length s)) s (accepted-good one_track s z) small in
      omega (arith, ap (λ (x : List ℕ). length x) (exported_is t), register_long t.stamp t.kinds t.events, register_short t w (omega (arith, kinds-long s, posts-few one_track s z)))

  -- so a page is never too short
  pub page-enough : (m : ℕ) → page ≤ m → export_of s m ≡ done (length (text_for s))
  unfolding export_of
  page-enough m h = rw (eq-eqb (verdict_of s).number 0 z, le-ltb m (length (text_for s)) (omega (arith, page-fits)))
