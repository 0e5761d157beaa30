-- What settling answers after a text is what import is to answer of it.
-- Assumes nothing.
use Prim.Native.Nat.{ℕ, suc, ◌≤◌, ◌<◌, ◌^◌}
use mathlib.Core.Path.{◌≡◌, refl, sym, ap, ◌∙◌}
use mathlib.Core.Logic.{◌⊎◌, inl, inr}
use mathlib.Core.Bool.{Bool, true, false, not, ◌&&◌}
use mathlib.Core.List.{List, ◌++◌}
use native.Mathlib.Omega.{arith}
use borrow.Author.Tests.{eq-eqb, ne_eqb, le-leb, leb-true, lt-leb}
use lib.Dec.{eqb, leb}
use lib.ListN.{length, drop}
use Rattle.relay.specs.Choice.{pick}
use Rattle.relay.specs.Kinds.{count_fits, table_ok}
use Rattle.relay.proofs.Truth.{by, and_facts, split, least_or_below}
use Rattle.sheet.specs.Layout.{most_entries, length_wrong, room_short}
use Rattle.sheet.specs.Sheet.{Sheet, encode}
use Rattle.sheet.specs.Writing.{bytes_for, write_number, written}
use Rattle.sheet.proofs.Writable.{Writable}
use Rattle.register.specs.Lexer.{lex_text, is_whole}
use Rattle.register.specs.Reading.{nothing, after}
use Rattle.register.specs.Register.{wrong_record, is_events, records_in, stand_in, accepts, named, sheet_in}
use Rattle.register.specs.Texts.{line_end}
use Rattle.register.specs.declared.Mode.TheVariants.{Broken}
use Rattle.register.proofs.Import.{accepted-right}
use Rattle.register.proofs.Places.{and-false}
use Rattle.register.proofs.Sheets.{right-writable}
use Rattle.importing.specs.Importing as importing
use Rattle.importing.specs.Importing.{refused, imported, import_of, import_into, is_done, record_in, record_at, sheet_at, settle_of, settle_into}
use Rattle.importing.specs.Rooms.{Fed, fed_at, fed}
use Rattle.importing.specs.Steps.{begun, most_counted}
use Rattle.importing.specs.declared.Imported.{Imported}
use Rattle.importing.specs.declared.steps.State.{State}
use Rattle.importing.proofs.Ends.{counts, events-few}
use Rattle.importing.proofs.Follows.{On, Off, Follows}
use Rattle.importing.proofs.Kept.{fed-kinds-long, fed-events-long}
use Rattle.importing.proofs.Outcomes.{of_wrong, of_many, of_short, of_good}
use Rattle.importing.proofs.Runs.{whole_same, stopped_open, records-few, text-followed}
use Rattle.importing.proofs.Settled.{not_done, too_many, refused_write, good_write}

module _ (t : Sheet) (out : List ℕ) where
  written-good : write_number t (length out) ≡ 0 → written t out ≡ encode t ++ drop (bytes_for (length t.events)) out
  unfolding written
  written-good z = rw z

  written-bad : write_number t (length out) ≡ room_short → written t out ≡ out
  unfolding written
  written-bad z = rw z

-- ---- what import answers, by its tests
module _ (text : List ℕ) (out : List ℕ) where
  abbrev t : Sheet
  t = sheet_in text

  abbrev n : ℕ
  n = length t.events

  abbrev Answers : Imported → List ℕ → Type 0
  Answers r out' = (r ≡ import_of text (length out)) × (out' ≡ import_into text out)

  refuses : (r : Imported) → import_of text (length out) ≡ r → eqb r.number 0 ≡ false → Answers r out
  unfolding import_into
  refuses r e z = (sym e, rw (e, z))

  wrong-text : accepts text ≡ false → Answers (refused wrong_record (named text)) out
  wrong-text a = refuses (refused wrong_record (named text)) (of_wrong text (length out) a) refl

  module _ (a : accepts text ≡ true) where
    many : most_entries < n → Answers (refused length_wrong 0) out
    many h = refuses (refused length_wrong 0) (of_many text (length out) a h) refl

    module _ (h : n ≤ most_entries) where
      short : length out < bytes_for n → Answers (refused room_short 0) out
      short k = refuses (refused room_short 0) (of_short text (length out) a h k) refl

      good : bytes_for n ≤ length out → Answers (imported (bytes_for n)) (encode t ++ drop (bytes_for n) out)
      unfolding import_into
      good k = let e = of_good text (length out) a h k in (sym e, rw e)

-- ---- and what settling does
module _ (text : List ℕ) (f : Fed) (out : List ℕ) (kinds : length f.kinds ≡ 32) (events : length f.events ≡ most_entries) where
  abbrev s : State
  s = f.state

  abbrev Same : Type 0
  Same = (settle_of f (length out) ≡ import_of text (length out)) × (settle_into f out ≡ import_into text out)

  both : (r : Imported) (out' : List ℕ) → (r ≡ settle_of f (length out)) × (out' ≡ settle_into f out) → Answers text out r out' → Same
  both r out' x y = (sym x.0 ∙ y.0, sym x.1 ∙ y.1)

  wrong : is_done s ≡ false → record_in s ≡ named text → accepts text ≡ false → Same
  wrong d r a = both (refused wrong_record (record_in s)) out (not_done f out d) (rw r (wrong-text text out a))

  record-in : (k : ℕ) → s.events ≤ most_counted → record_at s.stage s.posts s.events ≡ k → record_in s ≡ k
  unfolding record_in
  record-in k h e = rw (le-leb s.events most_counted h) e

  off : Off (lex_text text) f → Same
  unfolding is_done accepts
  off o = wrong (rw (stopped_open s o.stops)) (record-in (named text) o.few o.count) (go o.over)
    where
      go : ((lex_text text).mode ≡ Broken) ⊎ (stand_in text < length (records_in text)) → (is_whole (lex_text text) && (eqb (stand_in text) (length (records_in text)) && is_events (after nothing (records_in text)).stage)) ≡ false
      go (inl e) = rw e
      go (inr h) = rw (ne_eqb (stand_in text) (length (records_in text)) (λ z. omega arith)) (and-false (is_whole (lex_text text)))

  module _ (o : On (lex_text text) f) (few : length (records_in text) < most_counted) where
    done : is_done s ≡ accepts text
    unfolding is_done accepts
    done = rw (whole_same (lex_text text) f o, o.stage, eq-eqb (stand_in text) (length (records_in text)) o.all)

    -- the sheet that the state and the rooms say
    module _ (a : accepts text ≡ true) (h : length (sheet_in text).events ≤ most_entries) where
      w : Writable (sheet_in text)
      w = right-writable (sheet_in text) (accepted-right text a).0 h

      posts-few : length (sheet_in text).kinds ≤ 32
      unfolding table_ok count_fits
      posts-few = leb-true (length (sheet_in text).kinds) 32 ((and_facts (leb 2 (length (sheet_in text).kinds)) _).0 ((and_facts (leb 2 (length (sheet_in text).kinds) && leb (length (sheet_in text).kinds) 32) _).0 w.table).0).1

      the-sheet : sheet_at s f.kinds f.events ≡ sheet_in text
      the-sheet =
          rw (o.stamp, o.posts, o.counted, o.kinds (omega (arith, posts-few)), o.events (omega arith))

      number : write_number (sheet_in text) (length out) ≡ pick (leb (bytes_for (length (sheet_in text).events)) (length out)) 0 room_short
      unfolding write_number
      number = rw (w.table, w.fields, le-leb (length (sheet_in text).events) most_entries h) (flip (leb (bytes_for (length (sheet_in text).events)) (length out)))
        where
          flip : (b : Bool) → pick (not b) room_short 0 ≡ pick b 0 room_short
          flip true = refl
          flip false = refl

      writes : Same
      writes =
          let k : s.events ≤ length f.events = omega (arith, o.counted) in
          let p : s.posts ≤ length f.kinds = omega (arith, o.posts, posts-few) in
          let d = done ∙ a in
          let m = bytes_for (length (sheet_in text).events) in
          least_or_below m (length out)
          (λ l.
          let z : write_number (sheet_in text) (length out) ≡ 0 = number ∙ rw (le-leb m (length out) l) in
          both (imported (bytes_for s.events)) (written (sheet_in text) out)
          (good_write f out d k p (write_number (sheet_in text) (length out)) (written (sheet_in text) out) (rw the-sheet) (rw the-sheet) z)
          (rw (o.counted, written-good (sheet_in text) out z) (good text out a h l)))
          (λ l.
          let z : write_number (sheet_in text) (length out) ≡ room_short = number ∙ rw (lt-leb m (length out) l) in
          both (refused room_short 0) (written (sheet_in text) out)
          (rw z at (refused_write f out d k p (write_number (sheet_in text) (length out)) (written (sheet_in text) out) (rw the-sheet) (rw the-sheet) (λ e. omega arith)))
          (rw (written-bad (sheet_in text) out z) (short text out a h l)))

    on : Same
    on =
        split (accepts text)
        (λ a. least_or_below (length (sheet_in text).events) most_entries (λ h. writes a h)
        (λ h. both (refused length_wrong 0) out (too_many f out (done ∙ a) (omega (arith, o.counted))) (many text out a h)))
        (λ a. wrong (done ∙ a) (record-in (named text) (events-few (lex_text text) f o few) (counts (lex_text text) f o few ∙ ap suc (sym o.all))) a)

  pub same : length (records_in text) < most_counted → Follows (lex_text text) f → Same
  same few (inl o) = on o few
  same few (inr o) = off o

-- ---- a text fed from the start, into rooms that are long enough
closed-kinds : (f : Fed) → length (importing.closed f).kinds ≡ length f.kinds
unfolding importing.closed
closed-kinds f = by (λ (x : Fed). length x.kinds ≡ length f.kinds) (importing.is_whole f.state) (λ e. refl) (λ e. fed-kinds-long f line_end)

closed-events : (f : Fed) → length (importing.closed f).events ≡ length f.events
unfolding importing.closed
closed-events f = by (λ (x : Fed). length x.events ≡ length f.events) (importing.is_whole f.state) (λ e. refl) (λ e. fed-events-long f line_end)

module _ (text out ks : List ℕ) (es : List (List ℕ)) (small : length text < 2 ^ 64) (kinds : length ks ≡ 32) (events : length es ≡ most_entries) where
  pub settled-imports : (s : State) (f : Fed) → s ≡ begun → f ≡ fed (fed_at s ks es) text
      → (settle_of (importing.closed f) (length out) ≡ import_of text (length out)) × (settle_into (importing.closed f) out ≡ import_into text out)
  settled-imports s f b q =
      let F = fed (fed_at begun ks es) text in
      rw (q, b) (same text (importing.closed F) out (closed-kinds F ∙ fed-kinds-long (fed_at begun ks es) text ∙ kinds) (closed-events F ∙ fed-events-long (fed_at begun ks es) text ∙ events) (records-few ks es text small) (text-followed ks es text small))
