-- Import: which texts it accepts, what it makes of them, and which record 28 names. All of it is over right texts: what is read of a text is spelled by it (Spelled), and what spells it is read (Lexes).
-- Assumes nothing.
use Prim.Native.Nat.{ℕ, zero, suc, ◌≤◌}
use mathlib.Core.Path.{◌≡◌, refl, sym, ap, ap₂, ◌∙◌}
use mathlib.Core.Bool.{Bool, true, false, false≢true}
use mathlib.Core.List.{List, [], ◌∷◌, ◌++◌, append_assoc, append-nil}
use mathlib.Core.Logic.{◌↔◌}
use native.Mathlib.Omega.{arith}
use borrow.Author.Tests.{eq-eqb, eqb-true}
use lib.Dec.{eqb}
use lib.ListN.{length, take, drop, length-append, take-append-drop}
use lib.Seq.{length-take-le}
use Rattle.relay.proofs.Truth.{and_facts, split, least_or_below}
use Rattle.sheet.specs.Entry.{number_of, post_of, answer_of, stamp_of}
use Rattle.sheet.specs.Sheet.{Sheet}
use Rattle.register.specs.Texts.{cr, lf, line_end, Field, bare, line, lines, said_in, said_all, bare_in, bare_all}
use Rattle.register.specs.Lexer.{class, Lexed, lexed, snoc, commas, part, spelled, act, step, run, begin, whole, is_whole, finish, lex_text}
use Rattle.register.specs.declared.Mode.{Mode}
use Rattle.register.specs.declared.Mode.TheVariants.{Start, Plain, Inside, Closing, AtCr, Broken}
use Rattle.register.specs.Records.{header, start_record, kind_record, event_record, kind_records, event_records, records, Right}
use Rattle.register.specs.declared.Stage.{Stage}
use Rattle.register.specs.declared.Stage.TheVariants.{AtHeader, AtStart, AtKinds, AtEvents}
use Rattle.register.specs.Reading.{Read, nothing, standing, after}
use Rattle.register.specs.Register.{exported, last_end, RightText, Stand, Names, Begins, is_events, records_in, stand_in, accepts, named, sheet_in}
use Rattle.register.proofs.Spelled.{TidyIn, nothing-spelled, run-tidy, run-spelled}
use Rattle.register.proofs.Plains.{digits-plain}
use Rattle.register.proofs.Lexes.{PlainRecord, PlainRecords, run-append, lines_lex, run-grows}
use Rattle.register.proofs.Standing.{Held, right-stands}
use Rattle.register.proofs.Prefixes.{held-take, held_all, held-right, begins-stands, standing-few, blank, blank_last}

abbrev Rec : Type 0
Rec = List (List ℕ)

abbrev Row : Type 0
Row = List Field

-- ---- no field of a sheet's records has a byte that means something
plain-append : (xs ys : List Rec) → PlainRecords xs → PlainRecords ys → PlainRecords (xs ++ ys)
plain-append [] ys p q = q
plain-append (x ∷ xs) ys p q = (p.0, plain-append xs ys p.1 q)

plain-front : (xs ys : List Rec) → PlainRecords (xs ++ ys) → PlainRecords xs
plain-front [] ys p = tt
plain-front (x ∷ xs) ys p = (p.0, plain-front xs ys p.1)

kinds-plain : (i : ℕ) (ks : List ℕ) → PlainRecords (kind_records i ks)
unfolding kind_records kind_record
kinds-plain i [] = tt
kinds-plain i (k ∷ ks) = ((tt, (digits-plain k, (digits-plain i, (tt, tt)))), kinds-plain (suc i) ks)

events-plain : (i : ℕ) (es : List (List ℕ)) → PlainRecords (event_records i es)
unfolding event_records event_record
events-plain i [] = tt
events-plain i (e ∷ es) =
    ((digits-plain i, (digits-plain (number_of e), (digits-plain (post_of e), (digits-plain (stamp_of e), digits-plain (answer_of e))))), events-plain (suc i) es)

header-plain : PlainRecord header
unfolding class
header-plain = (
  (refl, (refl, (refl, (refl, (refl, (refl, (refl, (refl, tt)))))))),
  (
    (refl, (refl, (refl, (refl, (refl, tt))))),
    (
      (refl, (refl, (refl, (refl, tt)))),
      (
        (refl, (refl, (refl, (refl, (refl, tt))))),
        (refl, (refl, (refl, (refl, (refl, (refl, tt)))))),
      ),
    ),
  ),
)

records-plain : (t : Sheet) → PlainRecords (records t)
unfolding records start_record
records-plain t =
    (header-plain, ((tt, (tt, (tt, (digits-plain t.stamp, tt)))), plain-append (kind_records 0 t.kinds) (event_records 1 t.events) (kinds-plain 0 t.kinds) (events-plain 1 t.events)))

-- ---- lists of records
pub said-append : (xs ys : List Row) → said_all (xs ++ ys) ≡ said_all xs ++ said_all ys
unfolding said_all
said-append [] ys = refl
said-append (x ∷ xs) ys = ap (λ (l : List Rec). said_in x ∷ l) (said-append xs ys)

said-take : (j : ℕ) (xs : List Row) → said_all (take j xs) ≡ take j (said_all xs)
unfolding said_all
said-take zero [] = refl
said-take zero (x ∷ xs) = refl
said-take (suc j) [] = refl
said-take (suc j) (x ∷ xs) = ap (λ (l : List Rec). said_in x ∷ l) (said-take j xs)

pub said-long : (xs : List Row) → length (said_all xs) ≡ length xs
unfolding said_all
said-long [] = refl
said-long (x ∷ xs) = ap suc (said-long xs)

lines-append : (xs ys : List Row) → lines (xs ++ ys) ≡ lines xs ++ lines ys
unfolding lines
lines-append [] ys = refl
lines-append (x ∷ xs) ys = rw (lines-append xs ys, append_assoc (line x) (cr ∷ lf ∷ lines xs) (lines ys))

-- ---- the end of the text
-- every record begun is whole, or one more line end is read
finish_by : {P : Type 0} (l : Lexed) → (is_whole l ≡ true → finish l ≡ l → P) → (finish l ≡ run l line_end → P) → P
unfolding finish
finish_by l f g = split (is_whole l) (λ e. f e (rw e)) (λ e. g (rw e))

-- where every record begun is whole, none is begun
whole_facts : (m : Mode) (fs : List Field) → whole m fs ≡ true → (m ≡ Start) × (fs ≡ [])
whole_facts Start [] e = (refl, refl)
whole_facts Start (f ∷ fs) e = absurd (false≢true e)
whole_facts Plain fs e = absurd (false≢true e)
whole_facts Inside fs e = absurd (false≢true e)
whole_facts Closing fs e = absurd (false≢true e)
whole_facts AtCr fs e = absurd (false≢true e)
whole_facts Broken fs e = absurd (false≢true e)

-- one more line end after a line end is a blank line
blank-row : (rows : List Row) (f : List ℕ) → (run (lexed Start rows [] f) line_end).rows ≡ snoc rows (bare f ∷ [])
unfolding run step act class
blank-row rows f = refl

said-blank : (rows : List Row) → said_all (snoc rows (bare [] ∷ [])) ≡ said_all rows ++ (blank ∷ [])
unfolding said_all said_in
said-blank rows = said-append rows ((bare [] ∷ []) ∷ [])

module _ (text : List ℕ) where
  abbrev l : Lexed
  l = run begin text

  -- the text and one more line end, read whole
  both : run begin (text ++ line_end) ≡ run l line_end
  both = run-append begin text line_end

  -- the records that are whole stand at its front
  abbrev Front : List Row → Type 0
  Front rows = (q : List ℕ) × (text ++ line_end ≡ lines rows ++ q)

  spelled-front : (x : Lexed) (s : List ℕ) → spelled x ≡ s → (q : List ℕ) × (s ≡ lines x.rows ++ q)
  unfolding spelled
  spelled-front x s e = (part x.mode x.fields x.field, sym e)

  text-spelled : spelled l ≡ text
  text-spelled = run-spelled begin text refl ∙ ap (λ (x : List ℕ). x ++ text) nothing-spelled

  tidy : TidyIn l
  tidy = run-tidy begin text refl

  pub front : Front (lex_text text).rows
  front =
      finish_by l
      (λ e h.
      let s = spelled-front l text text-spelled in
      (s.0 ++ line_end, rw h (ap (λ (x : List ℕ). x ++ line_end) s.1 ∙ append_assoc (lines l.rows) s.0 line_end)))
      (λ h. rw h (spelled-front (run l line_end) (text ++ line_end) (run-spelled l line_end tidy ∙ ap (λ (x : List ℕ). x ++ line_end) text-spelled)))

  -- ---- as many as stand do stand in a right text
  pub stands_in : (j : ℕ) → j ≤ stand_in text → Stand j text
  stands_in j h =
      let ms = (lex_text text).rows in
      let held = held-take AtHeader (record { stamp = 0; kinds = []; events = [] }) [] (said_all ms) j h (refl, refl, refl) in
      let on = held-right held.0.stage held.0.sheet (take j (said_all ms)) held.1 in
      record {
        sheet = on.0;
        right = on.1;
        rows = take j ms;
        rest = lines (drop j ms) ++ front.0;
        more = on.2;
        many = length-take-le j ms (omega (arith, standing-few nothing (said_all ms), said-long ms));
        begins = on.3 ∙ ap (λ (x : List Rec). x ++ on.2) (sym (said-take j ms));
        spells =
            front.1
            ∙ ap (λ (x : List Row). lines x ++ front.0) (sym (take-append-drop j ms))
            ∙ ap (λ (x : List ℕ). x ++ front.0) (lines-append (take j ms) (drop j ms))
            ∙ append_assoc (lines (take j ms)) (lines (drop j ms)) front.0;
      }

  -- ---- and the other: no more do
  -- what the text and one more line end begin with is read
  read-front : (rows : List Row) (q : List ℕ) → PlainRecords (said_all rows) → text ++ line_end ≡ lines rows ++ q
      → (z : List Row) × ((run l line_end).rows ≡ rows ++ z)
  read-front rows q p e =
      let g = run-grows (lexed Start rows [] []) q in
      (g.0, ap (λ (x : Lexed). x.rows) (sym both ∙ ap (run begin) e ∙ lines_lex [] rows p q) ∙ g.1)

  blank_end : is_whole l ≡ true → (run l line_end).rows ≡ snoc l.rows (bare [] ∷ [])
  blank_end e =
      let f = whole_facts l.mode l.fields e in
      let g : l.field ≡ [] = rw f.0 at tidy in
      rw (f.0, f.1, g) (blank-row l.rows [])

  pub stands-few : (j : ℕ) → Stand j text → j ≤ stand_in text
  stands-few j w =
      let all : standing nothing (said_all w.rows ++ w.more) ≡ length (said_all w.rows ++ w.more) = rw w.begins at (right-stands w.sheet w.right).count in
      let p = plain-front (said_all w.rows) w.more (rw w.begins at (records-plain w.sheet)) in
      let z = read-front w.rows w.rest p w.spells in
      let n = begins-stands nothing (said_all w.rows) w.more (said_all z.0) all in
      let m : length (said_all w.rows) ≤ standing nothing (said_all (run l line_end).rows) = rw (z.1, said-append w.rows z.0) n in
      finish_by l
      (λ e h. rw h (omega (arith, blank_last nothing (said_all l.rows), said-long w.rows, w.many, rw (blank_end e, said-blank l.rows) at m)))
      (λ h. rw h (omega (arith, said-long w.rows, w.many)))

  -- ---- accepted texts are right texts
  abbrev ms : List Row
  ms = (lex_text text).rows

  whole-lines : (x : Lexed) → is_whole x ≡ true → spelled x ≡ lines x.rows
  unfolding spelled part commas
  whole-lines x e = let f = whole_facts x.mode x.fields e in rw (f.0, f.1) (append-nil (lines x.rows))

  ended_or_not : is_whole (lex_text text) ≡ true → (b : Bool) × (text ++ last_end b ≡ lines ms)
  ended_or_not e =
      let w = whole-lines (lex_text text) e in
      finish_by l
      (λ q h. (true, append-nil text ∙ sym text-spelled ∙ sym (ap spelled h) ∙ w))
      (λ h. (false, sym (run-spelled l line_end tidy ∙ ap (λ (x : List ℕ). x ++ line_end) text-spelled) ∙ sym (ap spelled h) ∙ w))

held-events : (g : Stage) (t : Sheet) (rs : List Rec) → is_events g ≡ true → Held g t rs → (rs ≡ records t) × Right t
held-events AtHeader t rs e h = absurd (false≢true e)
held-events AtStart t rs e h = absurd (false≢true e)
held-events AtKinds t rs e h = absurd (false≢true e)
held-events AtEvents t rs e h = h

-- what import accepts is a right text of the sheet that it gives, and the sheet is right
pub accepted-right : (text : List ℕ) → accepts text ≡ true → Right (sheet_in text) × RightText (sheet_in text) text
unfolding accepts
accepted-right text e =
    let a = (and_facts (is_whole (lex_text text)) _).0 e in
    let b = (and_facts (eqb (stand_in text) (length (records_in text))) _).0 a.1 in
    let o = ended_or_not text a.0 in
    let h = held_all AtHeader (record { stamp = 0; kinds = []; events = [] }) [] (records_in text) (eqb-true (stand_in text) (length (records_in text)) b.0) (refl, refl, refl) in
    let k = held-events (after nothing (records_in text)).stage (sheet_in text) (records_in text) b.1 h in
    (k.1, record { rows = (lex_text text).rows; ended = o.0; says = k.0; spells = o.1 })

-- lines that stand whole do not end in a blank one
no_blank : (t : Sheet) (rows rows' : List Row) → Right t → said_all rows ≡ records t → rows ≡ snoc rows' (bare [] ∷ []) → ⊥
no_blank t rows rows' right says e =
    let n : standing nothing (said_all rows) ≡ length (said_all rows) = rw says (right-stands t right).count in
    let m : standing nothing (said_all rows' ++ (blank ∷ [])) ≡ length (said_all rows' ++ (blank ∷ [])) = rw (e, said-blank rows') at n in
    omega (arith, blank_last nothing (said_all rows'), length-append (said_all rows') (blank ∷ []), standing-few nothing (said_all rows'))

run-lines : (rows : List Row) → PlainRecords (said_all rows) → run begin (lines rows) ≡ lexed Start rows [] []
unfolding run
run-lines rows p = ap (run begin) (sym (append-nil (lines rows))) ∙ lines_lex [] rows p []

finish-whole : (rows : List Row) → finish (lexed Start rows [] []) ≡ lexed Start rows [] []
unfolding finish
finish-whole rows = refl

-- a right text of a right sheet is read whole
right-read : (t : Sheet) (text : List ℕ) → Right t → (rows : List Row) → said_all rows ≡ records t → (b : Bool) → text ++ last_end b ≡ lines rows
    → lex_text text ≡ lexed Start rows [] []
right-read t text right rows says true e =
    let p : PlainRecords (said_all rows) = rw says (records-plain t) in
    ap (λ (x : Lexed). finish x) (ap (run begin) (sym (append-nil text) ∙ e) ∙ run-lines rows p) ∙ finish-whole rows
right-read t text right rows says false e =
    let p : PlainRecords (said_all rows) = rw says (records-plain t) in
    let x = run begin text in
    let r : run x line_end ≡ lexed Start rows [] [] = sym (both text) ∙ ap (run begin) e ∙ run-lines rows p in
    finish_by x
    (λ q h. absurd (no_blank t rows x.rows right says (ap (λ (y : Lexed). y.rows) (sym r) ∙ blank_end text q)))
    (λ h. h ∙ r)

-- a right text of a right sheet is accepted, and gives that sheet
pub right-accepted : (t : Sheet) (text : List ℕ) → Right t → RightText t text → (accepts text ≡ true) × (sheet_in text ≡ t)
unfolding accepts
right-accepted t text right w =
    let r = right-read t text right w.rows w.says w.ended w.spells in
    let a = right-stands t right in
    let g : records_in text ≡ records t = ap (λ (x : Lexed). said_all x.rows) r ∙ w.says in
    let m : is_whole (lex_text text) ≡ true = ap (λ (x : Lexed). is_whole x) r in (
      rw (m, g, a.left, eq-eqb (standing nothing (records t)) (length (records t)) a.count),
      ap (λ (x : List Rec). (after nothing x).sheet) g ∙ ap (λ (x : Read). x.sheet) a.left,
    )

-- ---- export
said-bare_in : (r : Rec) → said_in (bare_in r) ≡ r
unfolding said_in bare_in
said-bare_in [] = refl
said-bare_in (f ∷ r) = ap (λ (x : Rec). f ∷ x) (said-bare_in r)

said-bare : (rs : List Rec) → said_all (bare_all rs) ≡ rs
unfolding said_all bare_all
said-bare [] = refl
said-bare (r ∷ rs) = ap₂ (λ (a : Rec) (x : List Rec). a ∷ x) (said-bare_in r) (said-bare rs)

-- what export writes is a right text
pub export_right : (t : Sheet) → RightText t (exported t)
unfolding exported
export_right t = record { rows = bare_all (records t); ended = true; says = said-bare (records t); spells = append-nil (lines (bare_all (records t))) }

pub export_import : (t : Sheet) → Right t → (accepts (exported t) ≡ true) × (sheet_in (exported t) ≡ t)
export_import t right = right-accepted t (exported t) right (export_right t)

-- ---- both, for every text
pub stand_iff : (text : List ℕ) (j : ℕ) → (j ≤ stand_in text) ↔ Stand j text
stand_iff text j = (stands_in text j, stands-few text j)

pub named-right : (text : List ℕ) → accepts text ≡ false → Names (named text) text
named-right text e =
    record {
      wrong = λ t right w. false≢true (sym e ∙ (right-accepted t text right w).0);
      before = λ j h. stands_in text j (omega arith);
      with_it = λ w. let h = stands-few text (named text) w in omega arith;
    }

-- one record only can be named
pub named_one : (text : List ℕ) (j k : ℕ) → Names j text → Names k text → j ≡ k
named_one text j k a b =
    least_or_below j k
    (λ h. least_or_below k j (λ g. omega arith) (λ g. absurd (a.with_it (b.before j g))))
    (λ h. absurd (b.with_it (a.before k h)))

-- a right text, exported again, is the same text with no quotes and with its last line end
pub right-exported : (t : Sheet) (text : List ℕ) (w : RightText t text) → exported t ≡ lines (bare_all (said_all w.rows))
unfolding exported
right-exported t text w = ap (λ (rs : List Rec). lines (bare_all rs)) (sym w.says)

-- so is what import accepts
pub accepted-exported : (text : List ℕ) (e : accepts text ≡ true) → exported (sheet_in text) ≡ lines (bare_all (said_all (accepted-right text e).1.rows))
accepted-exported text e = right-exported (sheet_in text) text (accepted-right text e).1

pub stand_begins : (text : List ℕ) (j : ℕ) → Stand j text → Begins j text
stand_begins text j w =
    let all = w.rows ++ bare_all w.more in
    record {
      rows = w.rows;
      many = w.many;
      rest = w.rest;
      here = w.spells;
      sheet = w.sheet;
      right = w.right;
      other = lines all;
      is_right = record {
        rows = all;
        ended = true;
        says = said-append w.rows (bare_all w.more) ∙ ap (λ (x : List Rec). said_all w.rows ++ x) (said-bare w.more) ∙ sym w.begins;
        spells = append-nil (lines all);
      };
      more = lines (bare_all w.more);
      there = lines-append w.rows (bare_all w.more);
    }

-- a record is missing: every record of the text stands, and there the text ends
pub missing : (text : List ℕ) → is_whole (lex_text text) ≡ true → stand_in text ≡ length (records_in text)
    → (rows : List Row) × (suc (length rows) ≡ named text) × (b : Bool) × (text ++ last_end b ≡ lines rows)
missing text e n =
    let o = ended_or_not text e in
    ((lex_text text).rows, ap suc (sym (said-long (lex_text text).rows) ∙ sym n), o.0, o.1)
