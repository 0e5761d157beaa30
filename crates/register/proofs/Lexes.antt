-- Forward: the lines of records, however quoted, lex to those records; and records that are whole stay.
-- Assumes nothing.
use Prim.Native.Nat.{ℕ}
use mathlib.Core.Path.{◌≡◌, refl, sym, ap, ◌∙◌}
use mathlib.Core.List.{List, [], ◌∷◌, ◌++◌, append_assoc, append-nil}
use Rattle.register.specs.Texts.{quote, comma, cr, lf, Field, bare, quoted, said, field_text, line, lines, said_in, said_all}
use Rattle.register.specs.Lexer.{class, action, Lexed, lexed, snoc, act, step, run}
use Rattle.register.specs.declared.Class.TheVariants.{Other}
use Rattle.register.specs.declared.Mode.{Mode}
use Rattle.register.specs.declared.Mode.TheVariants.{Start, Plain, Inside, Closing}
use Rattle.register.specs.declared.Act.{Act}
use Rattle.register.specs.declared.Act.TheVariants.{Open, Add, Close, EndField, EndLine, EndRecord, Break}
use Rattle.register.proofs.Plains as bytes

-- a record that can be written either way: it has a field, and none has a byte that means something
abbrev pub PlainRecord : List (List ℕ) → Type 0
PlainRecord [] = ⊥
PlainRecord (f ∷ []) = bytes.Plain f
PlainRecord (f ∷ g ∷ r) = bytes.Plain f × PlainRecord (g ∷ r)

abbrev pub PlainRecords : List (List (List ℕ)) → Type 0
PlainRecords [] = Unit {0}
PlainRecords (r ∷ rs) = PlainRecord r × PlainRecords rs

pub run-append : (l : Lexed) (a b : List ℕ) → run l (a ++ b) ≡ run (run l a) b
unfolding run
run-append l [] b = refl
run-append l (x ∷ a) b = run-append (step l x) a b

module _ (rows : List (List Field)) where
  plains : (fs : List Field) (f bs : List ℕ) → bytes.Plain bs → run (lexed Plain rows fs f) bs ≡ lexed Plain rows fs (f ++ bs)
  unfolding run step act
  plains fs f [] p = rw (append-nil f)
  plains fs f (b ∷ bs) p = rw p.0 (plains fs (snoc f b) bs p.1 ∙ ap (λ (x : List ℕ). lexed Plain rows fs x) (append_assoc f (b ∷ []) bs))

  insides : (fs : List Field) (f bs : List ℕ) → bytes.Plain bs → run (lexed Inside rows fs f) bs ≡ lexed Inside rows fs (f ++ bs)
  unfolding run step act
  insides fs f [] p = rw (append-nil f)
  insides fs f (b ∷ bs) p = rw p.0 (insides fs (snoc f b) bs p.1 ∙ ap (λ (x : List ℕ). lexed Inside rows fs x) (append_assoc f (b ∷ []) bs))

  -- the state past a field
  abbrev past : List Field → Field → Lexed
  past fs (bare []) = lexed Start rows fs []
  past fs (bare (b ∷ bs)) = lexed Plain rows fs (b ∷ bs)
  past fs (quoted f) = lexed Closing rows fs f

  -- the first byte of a field that is not quoted; the closing quote
  first_byte : (fs : List Field) (b : ℕ) → class b ≡ Other → step (lexed Start rows fs []) b ≡ lexed Plain rows fs (b ∷ [])
  unfolding step act
  first_byte fs b e = rw e

  closes : (fs : List Field) (f : List ℕ) → run (lexed Inside rows fs f) (quote ∷ []) ≡ lexed Closing rows fs f
  unfolding run step act class
  closes fs f = refl

  opens : (fs : List Field) (s : List ℕ) → run (lexed Start rows fs []) (quote ∷ s) ≡ run (lexed Inside rows fs []) s
  unfolding run step act class
  opens fs s = refl

  -- a field, quoted or not
  pub field_lexes : (fs : List Field) (g : Field) → bytes.Plain (said g) → run (lexed Start rows fs []) (field_text g) ≡ past fs g
  unfolding run
  field_lexes fs (bare []) p = refl
  field_lexes fs (bare (b ∷ bs)) p = ap (λ (l : Lexed). run l bs) (first_byte fs b p.0) ∙ plains fs (b ∷ []) bs p.1
  field_lexes fs (quoted f) p =
      opens fs (f ++ (quote ∷ []))
      ∙ run-append (lexed Inside rows fs []) f (quote ∷ [])
      ∙ ap (λ (l : Lexed). run l (quote ∷ [])) (insides fs [] f p)
      ∙ closes fs f

  -- then a comma, or the line end
  comma_next : (fs : List Field) (g : Field) (s : List ℕ) → run (past fs g) (comma ∷ s) ≡ run (lexed Start rows (snoc fs g) []) s
  unfolding run step act class
  comma_next fs (bare []) s = refl
  comma_next fs (bare (b ∷ bs)) s = refl
  comma_next fs (quoted f) s = refl

  end_next : (fs : List Field) (g : Field) (s : List ℕ) → run (past fs g) (cr ∷ lf ∷ s) ≡ run (lexed Start (snoc rows (snoc fs g)) [] []) s
  unfolding run step act class
  end_next fs (bare []) s = refl
  end_next fs (bare (b ∷ bs)) s = refl
  end_next fs (quoted f) s = refl

  -- a record, each field quoted or not
  pub record_lexes : (fs gs : List Field) → PlainRecord (said_in gs) → (s : List ℕ)
      → run (lexed Start rows fs []) (line gs ++ (cr ∷ lf ∷ s)) ≡ run (lexed Start (snoc rows (fs ++ gs)) [] []) s
  unfolding line said_in
  record_lexes fs [] p s = absurd p
  record_lexes fs (g ∷ []) p s =
      run-append (lexed Start rows fs []) (field_text g) (cr ∷ lf ∷ s)
      ∙ ap (λ (l : Lexed). run l (cr ∷ lf ∷ s)) (field_lexes fs g p)
      ∙ end_next fs g s
  record_lexes fs (g ∷ h ∷ gs) p s =
      ap (run (lexed Start rows fs [])) (append_assoc (field_text g) (comma ∷ line (h ∷ gs)) (cr ∷ lf ∷ s))
      ∙ run-append (lexed Start rows fs []) (field_text g) (comma ∷ (line (h ∷ gs) ++ (cr ∷ lf ∷ s)))
      ∙ ap (λ (l : Lexed). run l (comma ∷ (line (h ∷ gs) ++ (cr ∷ lf ∷ s)))) (field_lexes fs g p.0)
      ∙ comma_next fs g (line (h ∷ gs) ++ (cr ∷ lf ∷ s))
      ∙ record_lexes (snoc fs g) (h ∷ gs) p.1 s
      ∙ ap (λ (r : List Field). run (lexed Start (snoc rows r) [] []) s) (append_assoc fs (g ∷ []) (h ∷ gs))

-- the lines of records lex to those records
pub lines_lex : (rows ms : List (List Field)) → PlainRecords (said_all ms) → (s : List ℕ)
    → run (lexed Start rows [] []) (lines ms ++ s) ≡ run (lexed Start (rows ++ ms) [] []) s
unfolding lines said_all
lines_lex rows [] p s = ap (λ (r : List (List Field)). run (lexed Start r [] []) s) (sym (append-nil rows))
lines_lex rows (m ∷ ms) p s =
    ap (run (lexed Start rows [] [])) (append_assoc (line m) (cr ∷ lf ∷ lines ms) s)
    ∙ record_lexes rows [] m p.0 (lines ms ++ s)
    ∙ lines_lex (snoc rows m) ms p.1 s
    ∙ ap (λ (r : List (List Field)). run (lexed Start r [] []) s) (append_assoc rows (m ∷ []) ms)

-- ---- records that are whole stay
Grown : List (List Field) → Lexed → Type 0
Grown rows l = (z : List (List Field)) × (l.rows ≡ rows ++ z)

act-grows : (a : Act) (b : ℕ) (m : Mode) (rows : List (List Field)) (fs : List Field) (f : List ℕ) → Grown rows (act a b m rows fs f)
unfolding act Grown
act-grows Open b m rows fs f = ([], sym (append-nil rows))
act-grows Add b m rows fs f = ([], sym (append-nil rows))
act-grows Close b m rows fs f = ([], sym (append-nil rows))
act-grows EndField b m rows fs f = ([], sym (append-nil rows))
act-grows EndLine b m rows fs f = ([], sym (append-nil rows))
act-grows EndRecord b m rows fs f = (fs ∷ [], refl)
act-grows Break b m rows fs f = ([], sym (append-nil rows))

pub run-grows : (l : Lexed) (s : List ℕ) → (z : List (List Field)) × ((run l s).rows ≡ l.rows ++ z)
unfolding run Grown step
run-grows l [] = ([], sym (append-nil l.rows))
run-grows l (b ∷ s) =
    let g = act-grows (action l.mode (class b)) b l.mode l.rows l.fields l.field in
    let h = run-grows (step l b) s in
    (g.0 ++ h.0, h.1 ∙ ap (λ (x : List (List Field)). x ++ h.0) g.1 ∙ append_assoc l.rows g.0 h.0)
