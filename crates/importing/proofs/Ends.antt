-- The end of a record: it goes on exactly where the record stands, and what is known then is what the record says; else what stands before it is counted.
-- Assumes nothing.
use Prim.Native.Nat.{ℕ, suc, ◌+◌, ◌≤◌, ◌<◌, ◌^◌, min}
use mathlib.Core.Path.{◌≡◌, refl, sym, ap, ◌∙◌}
use mathlib.Core.Logic.{inl, inr}
use mathlib.Core.Bool.{Bool, true, false, ◌&&◌}
use mathlib.Core.List.{List, [], ◌∷◌, ◌++◌}
use native.Mathlib.Omega.{arith}
use borrow.Author.Tests.{le-leb, leb-true, eq-eqb, ne_eqb}
use lib.Dec.{eqb, leb, ltb}
use lib.ListN.{length, length-append}
use Rattle.relay.specs.Choice.{pick}
use Rattle.relay.proofs.Truth.{and_facts, split}
use Rattle.sheet.specs.Entry.{entry}
use Rattle.sheet.specs.Sheet.{Sheet}
use Rattle.digits.specs.Numerals.{marked}
use Rattle.register.specs.Lexer.{Lexed, lexed, snoc}
use Rattle.register.specs.Reading.{Read, nothing, num, event_in, stands, taken_as}
use Rattle.register.specs.Records.{kind_records, event_records, records}
use Rattle.register.specs.Texts.{Field, said, said_in, said_all}
use Rattle.register.specs.declared.Mode.TheVariants.{Start, Broken}
use Rattle.register.specs.declared.Stage.{Stage}
use Rattle.register.specs.declared.Stage.TheVariants.{AtHeader, AtStart, AtKinds, AtEvents}
use Rattle.register.proofs.Import.{said-append}
use Rattle.register.proofs.More.{after_more, standing_more, standing-fell, kinds-many, events-many}
use Rattle.register.proofs.Places.{stands-fit, stands-five}
use Rattle.register.proofs.Prefixes.{held_all}
use Rattle.register.proofs.Standing.{Held}
use Rattle.register.proofs.Tables.{begun-few}
use Rattle.importing.specs.Importing.{record_at}
use Rattle.importing.specs.Rooms.{Fed, entry_in, kept_kind, kept_event, kept_at}
use Rattle.importing.specs.Steps.{number_in, is_below, most_counted, stopped, onward, start_stands, kind_stands, event_stands, judged, record_ended}
use Rattle.importing.specs.declared.steps.Marks.{Marks}
use Rattle.importing.specs.declared.steps.State.{State}
use Rattle.importing.proofs.Follows.{On, Off, Follows, known, standing_in, marks_from, mark_none}
use Rattle.importing.proofs.Judged.{stands_by, goes_on, judged_by, Room, five, five_stand}
use Rattle.importing.proofs.Kept.{Kept, kept_more, same_kinds, same_events, one_kind, one_event}
use Rattle.importing.proofs.Marks.{number-says}

said-many : (fs : List Field) → length (said_in fs) ≡ length fs
unfolding said_in
said-many [] = refl
said-many (f ∷ fs) = ap suc (said-many fs)

-- ---- how many records are before the next one
held-count : (g : Stage) (t : Sheet) (rs : List (List (List ℕ))) → Held g t rs → record_at g (length t.kinds) (length t.events) ≡ suc (length rs)
unfolding records
held-count AtHeader t rs h = rw h.0
held-count AtStart t rs h = rw h.0
held-count AtKinds t rs h = rw h.0 (omega (arith, kinds-many 0 t.kinds))
held-count AtEvents t rs h =
    rw h.0 (omega (arith, kinds-many 0 t.kinds, events-many 1 t.events, length-append (kind_records 0 t.kinds) (event_records 1 t.events)))

-- each event has a record
held-few : (g : Stage) (t : Sheet) (rs : List (List (List ℕ))) → Held g t rs → length t.events ≤ length rs
held-few AtHeader t rs h = rw h.2 (omega arith)
held-few AtStart t rs h = rw h.2 (omega arith)
held-few AtKinds t rs h = rw h.3 (omega arith)
held-few AtEvents t rs h = omega (arith, held-count AtEvents t rs h)

-- and there is room for one more
held-room : (g : Stage) (t : Sheet) (rs : List (List (List ℕ))) → Held g t rs → length rs < most_counted → Room g (length t.kinds) (length t.events)
held-room AtHeader t rs h l = tt
held-room AtStart t rs h l = tt
held-room AtKinds t rs h l = omega (arith, begun-few 0 t.kinds (omega arith) h.2)
held-room AtEvents t rs h l = omega (arith, held-count AtEvents t rs h)

-- ---- the numbers that a record's marks say
is_below_more : (m n : ℕ) → n ≤ 2 ^ 32 → is_below n m ≡ true → is_below (2 ^ 32) m ≡ true
unfolding is_below
is_below_more m n h e =
    let a = (and_facts (leb 1 m) (leb m n)).0 e in
    let b = leb-true m n a.1 in
    rw a.0 (le-leb m (2 ^ 32) (omega arith))

module _ (k : Marks) where
  start_below : start_stands k ≡ true → is_below (2 ^ 32) k.d ≡ true
  unfolding start_stands
  start_below e =
      let a = ((and_facts (eqb k.a 0) _).0 e).1 in
      let b = ((and_facts (eqb k.b 0) _).0 a).1 in
      let c = ((and_facts (eqb k.c 0) _).0 b).1 in
      ((and_facts (is_below (2 ^ 32) k.d) _).0 c).0

  kind-below : (p : ℕ) → kind_stands p k ≡ true → is_below (2 ^ 32) k.b ≡ true
  unfolding kind_stands
  kind-below p e =
      let a = ((and_facts (ltb p 32) _).0 e).1 in
      let b = ((and_facts (eqb k.a 0) _).0 a).1 in
      let c = ((and_facts (is_below (2 ^ 32) k.b && _) _).0 b).0 in
      ((and_facts (is_below (2 ^ 32) k.b) _).0 c).0

  -- number, post, stamp and answer
  event-below : (n : ℕ) → event_stands n k ≡ true → (is_below (2 ^ 32) k.b ≡ true) × (is_below (2 ^ 32) k.c ≡ true) × (is_below (2 ^ 32) k.d ≡ true) × (is_below (2 ^ 32) k.e ≡ true)
  unfolding event_stands
  event-below n e =
      let a = ((and_facts (ltb n most_counted) _).0 e).1 in
      let b = ((and_facts (eqb k.a (n + 2)) _).0 a).1 in
      let c = (and_facts (is_below 32 k.b) _).0 b in
      let d = (and_facts (is_below 64 k.c) _).0 c.1 in
      let x = (and_facts (is_below (2 ^ 32) k.d) _).0 d.1 in
      (is_below_more k.b 32 (omega arith) c.0, is_below_more k.c 64 (omega arith) d.0, x.0, is_below_more k.e 32 (omega arith) x.1)

-- ---- what is known after a record that stands
-- by value, s and the rooms, and of the records, n
record Next (s : State) (ks : List ℕ) (es : List (List ℕ)) (n : Read) : Type 0 where
  pub stage : s.stage ≡ n.stage
  pub stamp : s.stamp ≡ n.sheet.stamp
  pub posts : s.posts ≡ length n.sheet.kinds
  pub counted : s.events ≡ length n.sheet.events
  pub kinds : Kept n.sheet.kinds ks
  pub events : Kept n.sheet.events es

module _ (s : State) (ks : List ℕ) (es : List (List ℕ)) (t : Sheet) (f₀ f₁ f₂ f₃ f₄ : List ℕ)
    (stamp : s.stamp ≡ t.stamp) (posts : s.posts ≡ length t.kinds) (counted : s.events ≡ length t.events) (kinds : Kept t.kinds ks) (events : Kept t.events es) where
  abbrev row : List (List ℕ)
  row = f₀ ∷ f₁ ∷ f₂ ∷ f₃ ∷ f₄ ∷ []

  -- no post and no event more
  none_more : (g : Stage) (stamp' : ℕ) → (s' : State) → s' ≡ onward s g stamp' s.posts s.events → Next s' (kept_kind s.posts s' ks) (kept_event s.events s' es) (record { stage = g; sheet = record { stamp = stamp'; kinds = t.kinds; events = t.events } })
  none_more g stamp' s' e =
      rw e (record {
        stage = refl;
        stamp = refl;
        posts = posts;
        counted = counted;
        kinds = rw (same_kinds (onward s g stamp' s.posts s.events) s.posts ks refl) kinds;
        events = rw (same_events (onward s g stamp' s.posts s.events) s.events es refl) events;
      })

  next : (g : Stage) → s.marks ≡ five 0 0 f₀ f₁ f₂ f₃ f₄ g → stands_by g s.posts s.events s.marks ≡ true
      → Next (goes_on g s) (kept_kind s.posts (goes_on g s) ks) (kept_event s.events (goes_on g s) es) (taken_as g t row)
  unfolding taken_as entry_in
  next AtHeader m h = rw (← stamp) (none_more AtStart s.stamp (goes_on AtHeader s) refl)
  next AtStart m h =
      let v : num row 3 ≡ number_in s.marks.d = rw m (number-says f₃ (rw m at (start_below s.marks h))) in
      rw v (none_more AtKinds (number_in s.marks.d) (goes_on AtStart s) refl)
  next AtKinds m h =
      let v : num row 1 ≡ number_in s.marks.b = rw m (number-says f₁ (rw m at (kind-below s.marks s.posts h))) in
      let k = number_in s.marks.b in
      let s' = goes_on AtKinds s in
      rw v (record {
        stage = refl;
        stamp = stamp;
        posts = posts_more k;
        counted = counted;
        kinds = rw (one_kind s' s.posts ks refl, posts) (kept_more t.kinds ks k kinds);
        events = rw (same_events s' s.events es refl) events;
      })
    where
      posts_more : (k : ℕ) → s.posts + 1 ≡ length (t.kinds ++ (k ∷ []))
      posts_more k = rw length-append (omega (arith, posts))
  next AtEvents m h =
      let b = rw m at (event-below s.marks s.events h) in
      let v : event_in row ≡ entry_in s.marks = rw m (says b) in
      let s' = goes_on AtEvents s in
      rw v (record {
        stage = refl;
        stamp = stamp;
        posts = posts;
        counted = events_more (entry_in s.marks);
        kinds = rw (same_kinds s' s.posts ks refl) kinds;
        events = rw (one_event s' s.events es refl, counted) (kept_more t.events es (entry_in s.marks) events);
      })
    where
      events_more : (x : List ℕ) → s.events + 1 ≡ length (t.events ++ (x ∷ []))
      events_more x = rw length-append (omega (arith, counted))

      says : (is_below (2 ^ 32) (marked 0 f₁) ≡ true) × (is_below (2 ^ 32) (marked 0 f₂) ≡ true) × (is_below (2 ^ 32) (marked 0 f₃) ≡ true) × (is_below (2 ^ 32) (marked 0 f₄) ≡ true)
          → event_in row ≡ entry (number_in (marked 0 f₁)) (number_in (marked 0 f₂)) (number_in (marked 0 f₄)) (number_in (marked 0 f₃))
      says b = rw (number-says f₁ b.0, number-says f₂ b.1, number-says f₃ b.2, number-says f₄ b.3)

-- ---- the end of a record
module _ (l : Lexed) (f : Fed) (o : On l f) (few : length (said_all l.rows) < most_counted) where
  abbrev s : State
  s = f.state

  abbrev g : Stage
  g = (known l).stage

  abbrev t : Sheet
  t = (known l).sheet

  held : Held g t (said_all l.rows)
  held = held_all AtHeader (record { stamp = 0; kinds = []; events = [] }) [] (said_all l.rows) o.all (refl, refl, refl)

  pub counts : record_at s.stage s.posts s.events ≡ suc (length (said_all l.rows))
  counts = rw (o.stage, o.posts, o.counted) (held-count g t (said_all l.rows) held)

  pub events-few : s.events ≤ most_counted
  events-few = rw o.counted (omega (arith, held-few g t (said_all l.rows) held))

  -- the text breaks
  pub breaks : (fs : List Field) (x : List ℕ) → Off (lexed Broken l.rows fs x) (kept_at s (stopped s) f.kinds f.events)
  breaks fs x = record { stops = refl; few = events-few; count = counts ∙ ap suc (sym o.all); over = inl refl }

  -- a record of more or fewer fields does not
  other : (fs : List Field) → s.place ≡ min 6 (length fs) → (length fs ≡ 5 → ⊥) → record_ended s ≡ pick (stands (known l) (said_in fs)) (goes_on g s) (stopped s)
  unfolding record_ended
  other fs p n =
      let z : eqb s.place 5 ≡ false = ne_eqb s.place 5 (λ e. n (omega arith)) in
      split (stands (known l) (said_in fs))
      (λ e. absurd (n (sym (said-many fs) ∙ stands-five (known l) (said_in fs) e)))
      (λ e. rw (z, e))

  -- the record stands or not
  judge : (fs : List Field) → s.place ≡ min 6 (length fs) → s.marks ≡ marks_from g 0 o.first fs → record_ended s ≡ pick (stands (known l) (said_in fs)) (goes_on g s) (stopped s)
  unfolding record_ended marks_from said_in
  judge (a ∷ b ∷ c ∷ d ∷ e ∷ []) p m =
      let q : stands_by g s.posts s.events s.marks ≡ stands (known l) (said_in (a ∷ b ∷ c ∷ d ∷ e ∷ [])) =
      rw (m, o.posts, o.counted) (five_stand (length t.kinds) (length t.events) (said a) (said b) (said c) (said d) (said e) g (held-room g t (said_all l.rows) held few) ∙ sym (stands-fit t (said a) (said b) (said c) (said d) (said e) g)) in
      let z : eqb s.place 5 ≡ true = eq-eqb s.place 5 p in
      rw z (ap (λ (x : Stage). judged x s) o.stage ∙ judged_by g s ∙ ap (λ (x : Bool). pick x (goes_on g s) (stopped s)) q)
  judge [] p m = other [] p (λ e. omega arith)
  judge (a ∷ []) p m = other (a ∷ []) p (λ e. omega arith)
  judge (a ∷ b ∷ []) p m = other (a ∷ b ∷ []) p (λ e. omega arith)
  judge (a ∷ b ∷ c ∷ []) p m = other (a ∷ b ∷ c ∷ []) p (λ e. omega arith)
  judge (a ∷ b ∷ c ∷ d ∷ []) p m = other (a ∷ b ∷ c ∷ d ∷ []) p (λ e. omega arith)
  judge (a ∷ b ∷ c ∷ d ∷ e ∷ h ∷ fs) p m = other (a ∷ b ∷ c ∷ d ∷ e ∷ h ∷ fs) p (λ z. omega arith)

  abbrev r : List (List ℕ)
  r = said_in l.fields

  abbrev l' : Lexed
  l' = lexed Start (snoc l.rows l.fields) [] []

  said_more : said_all (snoc l.rows l.fields) ≡ said_all l.rows ++ (r ∷ [])
  unfolding said_all
  said_more = said-append l.rows (l.fields ∷ [])

  many : length (said_all l.rows ++ (r ∷ [])) ≡ length (said_all l.rows) + 1
  many = length-append (said_all l.rows) (r ∷ [])

  -- it does not
  falls : stands (known l) r ≡ false → (s' : State) → s' ≡ stopped s → Off l' (kept_at s s' f.kinds f.events)
  falls e s' q =
      let n : standing_in l' ≡ length (said_all l.rows) = rw said_more (standing-fell nothing (said_all l.rows) r o.all e) in
      rw q (record {
        stops = refl;
        few = events-few;
        count = counts ∙ ap suc (sym n);
        over = inr (rw said_more (omega (arith, many, rw said_more at n)));
      })

  -- it does: five fields, whose marks are known
  goes_on_lem : (fs : List Field) → stands (known l) (said_in fs) ≡ true → s.marks ≡ marks_from g 0 o.first fs
      → Next (goes_on g s) (kept_kind s.posts (goes_on g s) f.kinds) (kept_event s.events (goes_on g s) f.events) (taken_as g t (said_in fs))
  unfolding marks_from said_in
  goes_on_lem (a ∷ b ∷ c ∷ d ∷ e ∷ []) h m =
      let q : stands_by g s.posts s.events s.marks ≡ true =
      rw (m, o.posts, o.counted) (five_stand (length t.kinds) (length t.events) (said a) (said b) (said c) (said d) (said e) g (held-room g t (said_all l.rows) held few) ∙ sym (stands-fit t (said a) (said b) (said c) (said d) (said e) g) ∙ h) in
      next s f.kinds f.events t (said a) (said b) (said c) (said d) (said e) o.stamp o.posts o.counted o.kinds o.events g m q
  goes_on_lem [] h m = absurd (omega (arith, stands-five (known l) [] h))
  goes_on_lem (a ∷ []) h m = absurd (omega (arith, stands-five (known l) (said_in (a ∷ [])) h))
  goes_on_lem (a ∷ b ∷ []) h m = absurd (omega (arith, stands-five (known l) (said_in (a ∷ b ∷ [])) h))
  goes_on_lem (a ∷ b ∷ c ∷ []) h m = absurd (omega (arith, stands-five (known l) (said_in (a ∷ b ∷ c ∷ [])) h))
  goes_on_lem (a ∷ b ∷ c ∷ d ∷ []) h m = absurd (omega (arith, stands-five (known l) (said_in (a ∷ b ∷ c ∷ d ∷ [])) h))
  goes_on_lem (a ∷ b ∷ c ∷ d ∷ e ∷ x ∷ fs) h m = absurd (omega (arith, stands-five (known l) (said_in (a ∷ b ∷ c ∷ d ∷ e ∷ x ∷ fs)) h))

  starts : (g : Stage) (s : State) → ((goes_on g s).mode ≡ Start) × ((goes_on g s).place ≡ 0) × ((goes_on g s).mark ≡ 0)
  starts AtHeader s = (refl, refl, refl)
  starts AtStart s = (refl, refl, refl)
  starts AtKinds s = (refl, refl, refl)
  starts AtEvents s = (refl, refl, refl)

  stood_on : stands (known l) r ≡ true → (s' : State) → s' ≡ goes_on g s → On l' (kept_at s s' f.kinds f.events)
  unfolding marks_from
  stood_on e s' q =
      let n : known l' ≡ taken_as g t r = rw said_more (after_more nothing (said_all l.rows) r) in
      let x = goes_on_lem l.fields e o.marks in
      let y = starts g s in
      rw q (record {
        all = rw said_more (standing_more nothing (said_all l.rows) r o.all e);
        mode = y.0;
        stage = rw n x.stage;
        stamp = rw n x.stamp;
        posts = rw n x.posts;
        counted = rw n x.counted;
        place = y.1;
        mark = y.2 ∙ mark_none (known l').stage 0;
        first = (goes_on g s).marks;
        marks = refl;
        kinds = rw n x.kinds;
        events = rw n x.events;
      })

  pub ends : Follows l' (kept_at s (record_ended s) f.kinds f.events)
  ends =
      let j = judge l.fields o.place o.marks in
      split (stands (known l) r)
      (λ e. inl (stood_on e (record_ended s) (rw e at j)))
      (λ e. inr (falls e (record_ended s) (rw e at j)))
