-- Records to a sheet. Forward: the records of a right sheet all stand, and say that sheet. Back: what stands is the beginning of a right sheet's records.
use Prim.Native.Nat.{ℕ, suc, ◌+◌, ◌^◌, ◌≤◌}
use mathlib.Core.Path.{◌≡◌, refl, sym, ap, ap₂, ◌∙◌}
use mathlib.Core.Bool.{true, ◌&&◌, false≢true}
use mathlib.Core.List.{List, [], ◌∷◌, ◌++◌, append_assoc, append-nil}
use native.Mathlib.Omega.{arith}
use borrow.Author.Tests.{eqb-true, leb-true}
use lib.Dec.{eqb, ltb, leb}
use lib.ListN.{length, length-append}
use Rattle.relay.specs.Choice.{pick}
use Rattle.relay.specs.Kinds.{ordinary, count_fits, kind_fits, kinds_fit, table_ok}
use Rattle.relay.proofs.Truth.{and_facts, split}
use Rattle.sheet.specs.Entry.{stamp_of, in_fields}
use Rattle.sheet.specs.Sheet.{Sheet}
use Rattle.register.specs.Records.{header, start_record, kind_record, event_record, kind_records, event_records, records, right_event, right_events, Right}
use Rattle.register.specs.declared.Stage.{Stage}
use Rattle.register.specs.declared.Stage.TheVariants.{AtHeader, AtStart, AtKinds, AtEvents}
use Rattle.register.specs.Reading.{Read, known, nothing, alike, num, event_in, may_stand, wanted, within, stands, taken_as, taken, standing, after}
use Rattle.digits.proofs.Value.{digits_value}
use Rattle.register.proofs.Alike.{alike_refl, alike_eq}
use Rattle.register.proofs.Tables.{fits-stands, last_stands, begun, begun-snoc, begun-ended, stands_last, stands-middle}

abbrev Rec : Type 0
Rec = List (List ℕ)

-- all the records stand, and leave what is known so
pub record All (s : Read) (rs : List Rec) (s' : Read) : Type 0 where
  pub count : standing s rs ≡ length rs
  pub left : after s rs ≡ s'

none : (s : Read) → All s [] s
unfolding standing after
none s = record { count = refl; left = refl }

one : (s : Read) (r : Rec) (s₁ : Read) (rs : List Rec) (s₂ : Read) → stands s r ≡ true → taken s r ≡ s₁ → All s₁ rs s₂ → All s (r ∷ rs) s₂
unfolding standing after
one s r s₁ rs s₂ h e a = record { count = rw (h, e) (ap suc a.count); left = rw e a.left }

-- ---- forward
-- an event of four numbers is what its record says
event-back : (p : ℕ) (e : List ℕ) → eqb (length e) 4 ≡ true → event_in (event_record p e) ≡ e
unfolding event_record
event-back p [] h = absurd (false≢true h)
event-back p (a ∷ []) h = absurd (false≢true h)
event-back p (a ∷ b ∷ []) h = absurd (false≢true h)
event-back p (a ∷ b ∷ c ∷ []) h = absurd (false≢true h)
event-back p (a ∷ b ∷ c ∷ d ∷ []) h = simp digits_value
event-back p (a ∷ b ∷ c ∷ d ∷ x ∷ e) h = let z = eqb-true (suc (suc (suc (suc (suc (length e)))))) 4 h in absurd (omega arith)

stamp-back : (p : ℕ) (e : List ℕ) → num (event_record p e) 3 ≡ stamp_of e
unfolding event_record
stamp-back p e = digits_value (stamp_of e)

module _ (t : ℕ) where
  module _ (ks : List ℕ) (es : List (List ℕ)) where
    event-stands : (e : List ℕ) → right_event e ≡ true → stands (known AtEvents t ks es) (event_record (suc (length es)) e) ≡ true
    unfolding stands wanted within right_event
    event-stands e h =
        let f = (and_facts (eqb (length e) 4) _).0 h in
        let g = (and_facts (in_fields e) _).0 f.1 in
        let p = suc (length es) in
        rw (event-back p e f.0, alike_refl (event_record p e), stamp-back p e, g.0) g.1

    event-taken : (p : ℕ) (e : List ℕ) → right_event e ≡ true → taken (known AtEvents t ks es) (event_record p e) ≡ known AtEvents t ks (es ++ (e ∷ []))
    unfolding taken_as right_event
    event-taken p e h = rw (event-back p e ((and_facts (eqb (length e) 4) _).0 h).0)

    kind-stands : (k : ℕ) → may_stand (length ks) k ≡ true → stands (known AtKinds t ks es) (kind_record (length ks) k) ≡ true
    unfolding stands wanted within kind_record
    kind-stands k h = rw (digits_value k, h, alike_refl (kind_record (length ks) k))

    kind-taken : (i k : ℕ) → taken (known AtKinds t ks es) (kind_record i k) ≡ known (pick (eqb (ordinary k) 1) AtEvents AtKinds) t (ks ++ (k ∷ [])) es
    unfolding taken_as kind_record
    kind-taken i k = rw (digits_value k)

  -- the events, one after the other
  events_stand : (ks : List ℕ) (done es : List (List ℕ)) → right_events es ≡ true
      → All (known AtEvents t ks done) (event_records (suc (length done)) es) (known AtEvents t ks (done ++ es))
  unfolding event_records right_events
  events_stand ks done [] h = rw (append-nil done) (none (known AtEvents t ks done))
  events_stand ks done (e ∷ es) h =
      let f = (and_facts (right_event e) (right_events es)).0 h in
      let l : suc (length (done ++ (e ∷ []))) ≡ suc (suc (length done)) = omega (arith, length-append done (e ∷ [])) in
      let a = rw (l, append_assoc done (e ∷ []) es) at (events_stand ks (done ++ (e ∷ [])) es f.1) in
      one (known AtEvents t ks done) (event_record (suc (length done)) e) (known AtEvents t ks (done ++ (e ∷ []))) (event_records (suc (suc (length done))) es) _
      (event-stands ks done e f.0) (event-taken ks done (suc (length done)) e f.0) a

  -- the kinds, one after the other, and then what follows
  kinds_stand : (n : ℕ) (done : List ℕ) (k : ℕ) (ks : List ℕ) (rs : List Rec) (s : Read) → n ≤ 32 → 2 ≤ n → length done + suc (length ks) ≡ n
      → kinds_fit n (length done) (k ∷ ks) ≡ true → All (known AtEvents t (done ++ (k ∷ ks)) []) rs s
      → All (known AtKinds t done []) (kind_records (length done) (k ∷ ks) ++ rs) s
  unfolding kinds_fit kind_records
  kinds_stand n done k [] rs s few two e h a =
      let f = last_stands n (length done) k ((and_facts (kind_fits n (length done) k) true).0 h).0 (omega arith) two in
      let g = rw f.1 at (kind-taken done [] (length done) k) in
      one (known AtKinds t done []) (kind_record (length done) k) (known AtEvents t (done ++ (k ∷ [])) []) rs s (kind-stands done [] k f.0) g a
  kinds_stand n done k (j ∷ ks) rs s few two e h a =
      let c = (and_facts (kind_fits n (length done) k) (kinds_fit n (length done + 1) (j ∷ ks))).0 h in
      let f = fits-stands n (length done) k c.0 few (omega arith) in
      let g = rw f.1 at (kind-taken done [] (length done) k) in
      let l : length (done ++ (k ∷ [])) ≡ length done + 1 = length-append done (k ∷ []) in
      let m : length done + 1 ≡ suc (length done) = omega arith in
      let r = kinds_stand n (done ++ (k ∷ [])) j ks rs s few two (rw l (omega arith)) (rw l c.1) (rw (append_assoc done (k ∷ []) (j ∷ ks)) a) in
      one (known AtKinds t done []) (kind_record (length done) k) (known AtKinds t (done ++ (k ∷ [])) []) (kind_records (suc (length done)) (j ∷ ks) ++ rs) s
      (kind-stands done [] k f.0) g (rw (l, m) at r)

table-stands : (t : ℕ) (ks : List ℕ) (es : List (List ℕ)) → table_ok ks ≡ true → right_events es ≡ true
    → All (known AtKinds t [] []) (kind_records 0 ks ++ event_records 1 es) (known AtEvents t ks es)
unfolding table_ok count_fits
table-stands t [] es h g = absurd (false≢true h)
table-stands t (k ∷ ks) es h g =
    let n = suc (length ks) in
    let a = (and_facts (leb 2 n && leb n 32) (kinds_fit n 0 (k ∷ ks))).0 h in
    let b = (and_facts (leb 2 n) (leb n 32)).0 a.0 in
    kinds_stand t n [] k ks (event_records 1 es) (known AtEvents t (k ∷ ks) es) (leb-true n 32 b.1) (leb-true 2 n b.0) (omega arith) a.1 (events_stand t (k ∷ ks) [] es g)

start_stands : (t n : ℕ) → ltb n (2 ^ 32) ≡ true → stands (known AtStart t [] []) (start_record n) ≡ true
unfolding stands wanted within start_record
start_stands t n h = rw (digits_value n, h, alike_refl (start_record n))

start_taken : (t n : ℕ) → taken (known AtStart t [] []) (start_record n) ≡ known AtKinds n [] []
unfolding taken_as start_record
start_taken t n = rw (digits_value n)

header-stands : stands nothing header ≡ true
unfolding stands wanted within
header-stands = rw (alike_refl header)

header-taken : taken nothing header ≡ known AtStart 0 [] []
unfolding taken_as
header-taken = refl

-- the records of a right sheet all stand, and say that sheet
pub right-stands : (t : Sheet) → Right t → All nothing (records t) (known AtEvents t.stamp t.kinds t.events)
unfolding records
right-stands t right =
    one nothing header (known AtStart 0 [] []) (start_record t.stamp ∷ (kind_records 0 t.kinds ++ event_records 1 t.events)) _ header-stands header-taken
    (one (known AtStart 0 [] []) (start_record t.stamp) (known AtKinds t.stamp [] []) (kind_records 0 t.kinds ++ event_records 1 t.events) _
    (start_stands 0 t.stamp right.stamp) (start_taken 0 t.stamp)
    (table-stands t.stamp t.kinds t.events right.table right.events))

-- ---- back
-- what has been read, where this is known
abbrev pub Held : Stage → Sheet → List Rec → Type 0
Held AtHeader t rs = (rs ≡ []) × (t.kinds ≡ []) × (t.events ≡ [])
Held AtStart t rs = (rs ≡ header ∷ []) × (t.kinds ≡ []) × (t.events ≡ [])
Held AtKinds t rs = (rs ≡ header ∷ start_record t.stamp ∷ kind_records 0 t.kinds) × (ltb t.stamp (2 ^ 32) ≡ true) × (begun 0 t.kinds ≡ true) × (t.events ≡ [])
Held AtEvents t rs = (rs ≡ records t) × Right t

pub kinds-snoc : (i : ℕ) (ks : List ℕ) (k : ℕ) → kind_records i (ks ++ (k ∷ [])) ≡ kind_records i ks ++ (kind_record (i + length ks) k ∷ [])
unfolding kind_records
kinds-snoc i [] k = let e : i + 0 ≡ i = omega arith in rw e
kinds-snoc i (x ∷ ks) k = let e : i + suc (length ks) ≡ suc i + length ks = omega arith in rw (e, kinds-snoc (suc i) ks k)

events-snoc : (i : ℕ) (es : List (List ℕ)) (e : List ℕ) → event_records i (es ++ (e ∷ [])) ≡ event_records i es ++ (event_record (i + length es) e ∷ [])
unfolding event_records
events-snoc i [] x = let e : i + 0 ≡ i = omega arith in rw e
events-snoc i (y ∷ es) x = let e : i + suc (length es) ≡ suc i + length es = omega arith in rw (e, events-snoc (suc i) es x)

rights_snoc : (es : List (List ℕ)) (e : List ℕ) → right_events es ≡ true → right_event e ≡ true → right_events (es ++ (e ∷ [])) ≡ true
unfolding right_events
rights_snoc [] e h g = rw g
rights_snoc (x ∷ es) e h g = let f = (and_facts (right_event x) (right_events es)).0 h in rw f.0 (rights_snoc es e f.1 g)

-- a record that stands is the wanted one, and its numbers are in their bounds
module _ (g : Stage) (t : Sheet) (r : Rec) (h : stands (record { stage = g; sheet = t }) r ≡ true) where
  is_wanted : r ≡ wanted g t r
  unfolding stands
  is_wanted = alike_eq r (wanted g t r) ((and_facts (alike r (wanted g t r)) (within g t r)).0 h).0

  is_within : within g t r ≡ true
  unfolding stands
  is_within = ((and_facts (alike r (wanted g t r)) (within g t r)).0 h).1

kinds_next : (rs : List Rec) (r : Rec) (t : ℕ) (ks : List ℕ) (k : ℕ) → rs ≡ header ∷ start_record t ∷ kind_records 0 ks → r ≡ kind_record (length ks) k
    → rs ++ (r ∷ []) ≡ header ∷ start_record t ∷ kind_records 0 (ks ++ (k ∷ []))
kinds_next rs r t ks k e h =
    let z : 0 + length ks ≡ length ks = omega arith in
    ap₂ (λ (a : List Rec) (x : Rec). a ++ (x ∷ [])) e h
    ∙ ap (λ (x : List Rec). header ∷ start_record t ∷ x) (sym (rw z at (kinds-snoc 0 ks k)))

events_next : (rs : List Rec) (r : Rec) (t : ℕ) (ks : List ℕ) (es : List (List ℕ)) (e : List ℕ)
    → rs ≡ records (record { stamp = t; kinds = ks; events = es }) → r ≡ event_record (suc (length es)) e
    → rs ++ (r ∷ []) ≡ records (record { stamp = t; kinds = ks; events = es ++ (e ∷ []) })
unfolding records
events_next rs r t ks es e h g =
    let z : 1 + length es ≡ suc (length es) = omega arith in
    ap₂ (λ (a : List Rec) (x : Rec). a ++ (x ∷ [])) h g
    ∙ ap (λ (x : List Rec). header ∷ start_record t ∷ x)
    (append_assoc (kind_records 0 ks) (event_records 1 es) (event_record (suc (length es)) e ∷ [])
    ∙ ap (λ (x : List Rec). kind_records 0 ks ++ x) (sym (rw z at (events-snoc 1 es e))))

-- a record that stands goes on with what was read
pub keeps : (g : Stage) (t : Sheet) (r : Rec) (rs : List Rec) → stands (record { stage = g; sheet = t }) r ≡ true → Held g t rs
    → Held (taken_as g t r).stage (taken_as g t r).sheet (rs ++ (r ∷ []))
unfolding taken_as wanted within kind_records event_records begun records right_events right_event
keeps AtHeader t r rs h held = (ap₂ (λ (a : List Rec) (x : Rec). a ++ (x ∷ [])) held.0 (is_wanted AtHeader t r h), held.1, held.2)
keeps AtStart t r rs h held = (
  ap₂ (λ (a : List Rec) (x : Rec). a ++ (x ∷ [])) held.0 (is_wanted AtStart t r h) ∙ ap (λ (ks : List ℕ). header ∷ start_record (num r 3) ∷ kind_records 0 ks) (sym held.1),
  is_within AtStart t r h,
  rw held.1,
  held.2,
)
keeps AtKinds t r rs h held =
    let k = num r 1 in
    let may = is_within AtKinds t r h in
    let next = kinds_next rs r t.stamp t.kinds k held.0 (is_wanted AtKinds t r h) in
    let z : 0 + length t.kinds ≡ length t.kinds = omega arith in
    split (eqb (ordinary k) 1)
    (λ q. rw q ((
      next ∙ ap (λ (x : List Rec). header ∷ start_record t.stamp ∷ x)
          (sym (append-nil (kind_records 0 (t.kinds ++ (k ∷ [])))) ∙ ap (λ (es : List (List ℕ)). kind_records 0 (t.kinds ++ (k ∷ [])) ++ event_records 1 es) (sym held.3)),
      record {
        table = begun-ended t.kinds k q (stands_last (length t.kinds) k may q) held.2;
        stamp = held.1;
        events = rw held.3;
      },
    )))
    (λ q. rw q (next, held.1, begun-snoc 0 t.kinds k held.2 (rw z (stands-middle (length t.kinds) k may q)), held.3))
keeps AtEvents t r rs h held =
    let w = (and_facts (in_fields (event_in r)) (ltb (num r 3) (2 ^ 32))).0 (is_within AtEvents t r h) in (
      events_next rs r t.stamp t.kinds t.events (event_in r) held.0 (is_wanted AtEvents t r h),
      record {
        table = held.1.table;
        stamp = held.1.stamp;
        events = rights_snoc t.events (event_in r) held.1.events (rw w.0 w.1);
      },
    )
