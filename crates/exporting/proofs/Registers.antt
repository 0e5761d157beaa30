-- The register as it is put is the register: the lines of any records are their texts one after the other, and record i has the fields that its marks say.
-- Assumes nothing.
use Rattle.std.specs.Prelude.{Option, Some, None}
use Prim.Native.Nat.{ℕ, zero, suc, ◌+◌, ◌-◌, ◌≤◌, ◌<◌}
use mathlib.Core.Path.{◌≡◌, refl, sym, ap, ◌∙◌}
use mathlib.Core.List.{List, [], ◌∷◌, ◌++◌, append_assoc, append-nil}
use native.Mathlib.Numerals.{add-one}
use native.Mathlib.Omega.{arith}
use borrow.Author.Tests.{ne_eqb, lt-ltb, le-ltb}
use lib.ListN.{length, get_or, take, length-append, get_or-append}
use lib.Seq.{take-suc, take-length, get_or-append-add}
use Rattle.relay.proofs.Truth.{least_or_below}
use Rattle.digits.specs.Texts.{joined}
use Rattle.register.specs.Texts.{line_end, line, lines, bare_in, bare_all}
use Rattle.register.specs.Records.{header, start_record, kind_record, event_record, kind_records, event_records, records}
use Rattle.register.specs.Register.{exported}
use Rattle.sheet.specs.Sheet.{Sheet}
use Rattle.register.proofs.More.{kinds-many, events-many}
use Rattle.exporting.specs.Fields.{header_line, field, ended, fields, text_of, count, event_fields, fields_at, text_at, register_of}
use Rattle.exporting.proofs.Marks.{field_none, field_some}

-- ---- the lines of any records
-- a record's bytes and its line end
unfoldable pub record_text : List (List ℕ) → List ℕ
record_text r = line (bare_in r) ++ line_end

abbrev lines_of : List (List (List ℕ)) → List ℕ
lines_of rs = lines (bare_all rs)

lines_first : (r : List (List ℕ)) (rs : List (List (List ℕ))) → lines_of (r ∷ rs) ≡ record_text r ++ lines_of rs
unfolding lines bare_all record_text
lines_first r rs = sym (append_assoc (line (bare_in r)) line_end (lines_of rs))

lines_none : lines_of [] ≡ []
unfolding lines bare_all
lines_none = refl

lines_snoc : (rs : List (List (List ℕ))) (r : List (List ℕ)) → lines_of (rs ++ (r ∷ [])) ≡ lines_of rs ++ record_text r
lines_snoc [] r = rw (lines_none, lines_first r [], lines_none) (append-nil (record_text r))
lines_snoc (x ∷ rs) r =
    lines_first x (rs ++ (r ∷ [])) ∙ ap (λ (t : List ℕ). record_text x ++ t) (lines_snoc rs r)
    ∙ sym (append_assoc (record_text x) (lines_of rs) (record_text r)) ∙ ap (λ (t : List ℕ). t ++ record_text r) (sym (lines_first x rs))

-- record by record
module _ (rs : List (List (List ℕ))) (f : ℕ → List ℕ) (same : (i : ℕ) → i < length rs → record_text (get_or rs i []) ≡ f i) where
  first_lines : (n : ℕ) → n ≤ length rs → lines_of (take n rs) ≡ joined f n
  unfolding joined
  first_lines zero h = lines_none
  first_lines (suc n) h =
      rw (take-suc rs n [] (omega arith), lines_snoc (take n rs) (get_or rs n []), first_lines n (omega arith), same n (omega arith)) refl

  pub lines-joined : lines_of rs ≡ joined f (length rs)
  lines-joined = ap lines_of (sym (take-length rs)) ∙ first_lines (length rs) (omega arith)

-- ---- the records of a sheet
-- five fields
five : (f : List (List ℕ)) (a b c d e : Option ℕ) → f ≡ field a ∷ field b ∷ field c ∷ field d ∷ field e ∷ [] → record_text f ≡ text_of (fields a b c d e)
unfolding record_text bare_in line text_of ended
five f a b c d e h = rw h (simp append_assoc)

kind_at : (i : ℕ) (ks : List ℕ) (j : ℕ) → j < length ks → get_or (kind_records i ks) j [] ≡ kind_record (i + j) (get_or ks j 0)
unfolding kind_records
kind_at i [] j h = absurd (omega arith)
kind_at i (k ∷ ks) zero h = let e : i + 0 ≡ i = omega arith in rw e
kind_at i (k ∷ ks) (suc j) h = let e : i + suc j ≡ suc i + j = omega arith in rw e (kind_at (suc i) ks j (omega arith))

event_at : (i : ℕ) (es : List (List ℕ)) (j : ℕ) → j < length es → get_or (event_records i es) j [] ≡ event_record (i + j) (get_or es j [])
unfolding event_records
event_at i [] j h = absurd (omega arith)
event_at i (e ∷ es) zero h = let z : i + 0 ≡ i = omega arith in rw z
event_at i (e ∷ es) (suc j) h = let z : i + suc j ≡ suc i + j = omega arith in rw z (event_at (suc i) es j (omega arith))

module _ (stamp : ℕ) (ks : List ℕ) (es : List (List ℕ)) where
  -- what fields_at says, by the kind of the record
  pub at_start : fields_at stamp ks es 0 ≡ fields None None None (Some stamp) None
  unfolding fields_at
  at_start = refl

  pub at_kind : (j : ℕ) → j < length ks → fields_at stamp ks es (j + 1) ≡ fields None (Some (get_or ks j 0)) (Some j) None None
  unfolding fields_at
  at_kind j h = let e : j + 1 - 1 ≡ j = omega arith in rw (ne_eqb (j + 1) 0 (λ z. omega arith), e, lt-ltb j (length ks) h)

  pub at_event : (k : ℕ) → fields_at stamp ks es (length ks + k + 1) ≡ event_fields k (get_or es k [])
  unfolding fields_at
  at_event k =
      let e : length ks + k + 1 - 1 ≡ length ks + k = omega arith in
      let d : length ks + k - length ks ≡ k = omega arith in
      rw (ne_eqb (length ks + k + 1) 0 (λ z. omega arith), e, le-ltb (length ks + k) (length ks) (omega arith), d)

  -- the records after the header
  abbrev rest : List (List (List ℕ))
  rest = start_record stamp ∷ (kind_records 0 ks ++ event_records 1 es)

  rest_count : length rest ≡ count ks es
  rest_count = rw (length-append, kinds-many, events-many) (omega arith)

  start_text : record_text (start_record stamp) ≡ text_at stamp ks es 0
  unfolding start_record
  start_text = rw at_start (five _ None None None (Some stamp) None (rw (field_none, field_some stamp)))

  kind-text : (j : ℕ) → j < length ks → record_text (get_or rest (j + 1) []) ≡ text_at stamp ks es (j + 1)
  unfolding kind_record
  kind-text j h =
      let z : 0 + j ≡ j = omega arith in
      rw (at_kind j h, add-one j, get_or-append (kind_records 0 ks) (event_records 1 es) [] j (omega (arith, kinds-many 0 ks)), kind_at 0 ks j h, z)
      (five _ None (Some (get_or ks j 0)) (Some j) None None (rw (field_none, field_some, field_some)))

  event-text : (k : ℕ) → k < length es → record_text (get_or rest (length ks + k + 1) []) ≡ text_at stamp ks es (length ks + k + 1)
  unfolding event_record event_fields
  event-text k h =
      let e : k + 1 ≡ 1 + k = omega arith in
      let s : get_or rest (length ks + k + 1) [] ≡ event_record (1 + k) (get_or es k []) =
      rw (add-one, ← kinds-many 0 ks) (get_or-append-add (kind_records 0 ks) (event_records 1 es) k [] ∙ event_at 1 es k h) in
      rw (at_event k, s, e) (five _ _ _ _ _ _ (rw (field_some, field_some, field_some, field_some, field_some)))

  each-text : (i : ℕ) → i < length rest → record_text (get_or rest i []) ≡ text_at stamp ks es i
  each-text zero h = start_text
  each-text (suc j) h =
      rw (← add-one j)
      (least_or_below (length ks) j
      (λ l. let e : j ≡ length ks + (j - length ks) = omega arith in rw e (event-text (j - length ks) (omega (arith, rest_count))))
      (λ l. kind-text j l))

  header-text : record_text header ≡ header_line
  unfolding record_text bare_in line
  header-text = refl

-- the register, as it is put
pub exported_is : (t : Sheet) → exported t ≡ register_of t.stamp t.kinds t.events
unfolding exported records register_of
exported_is t =
    lines_first header (rest t.stamp t.kinds t.events)
    ∙ rw (header-text t.stamp t.kinds t.events, lines-joined (rest t.stamp t.kinds t.events) (text_at t.stamp t.kinds t.events) (each-text t.stamp t.kinds t.events), rest_count t.stamp t.kinds t.events) refl
