-- The text read so far can be said from the lexer's state: no byte is forgotten.
-- Assumes nothing.
use Prim.Native.Nat.{ℕ}
use mathlib.Core.Path.{◌≡◌, refl, sym, ap, ◌∙◌}
use mathlib.Core.Bool.{Bool, true, false}
use mathlib.Core.List.{List, [], ◌∷◌, ◌++◌, append_assoc, append-nil}
use borrow.Author.Tests.{eqb-true}
use lib.Dec.{eqb}
use Rattle.relay.specs.Choice.{pick}
use Rattle.register.specs.Texts.{quote, comma, cr, lf, Field, bare, quoted, field_text, line, lines}
use Rattle.register.specs.Lexer.{class, action, Lexed, lexed, snoc, commas, part, spelled, adding, act, step, run, begin}
use Rattle.register.specs.declared.Class.{Class}
use Rattle.register.specs.declared.Class.TheVariants.{Quote, Comma, Cr, Lf, Other}
use Rattle.register.specs.declared.Mode.{Mode}
use Rattle.register.specs.declared.Mode.TheVariants.{Start, Plain, Inside, Closing, AtCr, Broken}
use Rattle.register.specs.declared.Act.{Act}
use Rattle.register.specs.declared.Act.TheVariants.{Open, Add, Close, EndField, EndLine, EndRecord, Break}

commas-snoc : (fs : List Field) (f : Field) → commas (snoc fs f) ≡ commas fs ++ (field_text f ++ (comma ∷ []))
unfolding commas
commas-snoc [] f = refl
commas-snoc (g ∷ fs) f = rw (commas-snoc fs f, append_assoc (field_text g))

line-snoc : (fs : List Field) (f : Field) → line (snoc fs f) ≡ commas fs ++ field_text f
unfolding line commas
line-snoc [] f = refl
line-snoc (g ∷ []) f = simp append_assoc
line-snoc (g ∷ h ∷ fs) f = rw (line-snoc (h ∷ fs) f, append_assoc (field_text g))

lines_snoc : (rows : List (List Field)) (r : List Field) → lines (snoc rows r) ≡ lines rows ++ (line r ++ (cr ∷ lf ∷ []))
unfolding lines
lines_snoc [] r = refl
lines_snoc (q ∷ rows) r = rw (lines_snoc rows r, append_assoc (line q))

-- the byte of a class
unfoldable pub byte_of : Class → ℕ → ℕ
byte_of Quote b = quote
byte_of Comma b = comma
byte_of Cr b = cr
byte_of Lf b = lf
byte_of Other b = b

pub class_byte : (b : ℕ) → b ≡ byte_of (class b) b
unfolding class byte_of
class_byte b = by (eqb b quote) (eqb b comma) (eqb b cr) (eqb b lf) (eqb-true b quote) (eqb-true b comma) (eqb-true b cr) (eqb-true b lf)
  where
    by : (p q r s : Bool) → (p ≡ true → b ≡ quote) → (q ≡ true → b ≡ comma) → (r ≡ true → b ≡ cr) → (s ≡ true → b ≡ lf)
        → b ≡ byte_of (pick p Quote (pick q Comma (pick r Cr (pick s Lf Other)))) b
    by true q r s f g h k = f refl
    by false true r s f g h k = g refl
    by false false true s f g h k = h refl
    by false false false true f g h k = k refl
    by false false false false f g h k = refl

-- a field that is not begun has no bytes
abbrev pub Tidy : Mode → List ℕ → Type 0
Tidy Start f = f ≡ []
Tidy Plain f = Unit {0}
Tidy Inside f = Unit {0}
Tidy Closing f = Unit {0}
Tidy AtCr f = Unit {0}
Tidy Broken f = Unit {0}

-- ---- one byte more, after whole records
module _ (rows : List (List Field)) (b : ℕ) where
  abbrev Grows : Act → Mode → List Field → List ℕ → Type 0
  Grows a m fs f = spelled (act a b m rows fs f) ≡ (lines rows ++ part m fs f) ++ (b ∷ [])

  -- a break keeps the bytes
  breaks : (m : Mode) (fs : List Field) (f : List ℕ) → Grows Break m fs f
  unfolding spelled part act
  breaks m fs f = sym (append_assoc (lines rows) (part m fs f) (b ∷ []))

  opens : (fs : List Field) (f : List ℕ) → b ≡ quote → Grows Open Start fs f
  unfolding spelled part act
  opens fs f e = rw e (sym (append_assoc (lines rows) (commas fs) (quote ∷ [])))

  closes : (fs : List Field) (f : List ℕ) → b ≡ quote → Grows Close Inside fs f
  unfolding spelled part act
  closes fs f e = rw e (simp append_assoc)

  begins : (fs : List Field) (f : List ℕ) → f ≡ [] → Grows Add Start fs f
  unfolding spelled part act
  begins fs f t = rw t (sym (append_assoc (lines rows) (commas fs) (b ∷ [])))

  adds : (fs : List Field) (f : List ℕ) → Grows Add Plain fs f
  unfolding spelled part act
  adds fs f = simp append_assoc

  adds-inside : (fs : List Field) (f : List ℕ) → Grows Add Inside fs f
  unfolding spelled part act
  adds-inside fs f = simp append_assoc

  -- a field ends: the record's bytes so far are the fields before it and its own
  ends : (m : Mode) (fs : List Field) (f : List ℕ) (g : Field) → part m fs f ≡ commas fs ++ field_text g → b ≡ comma
      → spelled (lexed Start rows (snoc fs g) []) ≡ (lines rows ++ part m fs f) ++ (b ∷ [])
  unfolding spelled part
  ends m fs f g p e = rw (e, p, commas-snoc fs g) (simp append_assoc)

  ends-line : (m : Mode) (fs : List Field) (f : List ℕ) (g : Field) → part m fs f ≡ commas fs ++ field_text g → b ≡ cr
      → spelled (lexed AtCr rows (snoc fs g) []) ≡ (lines rows ++ part m fs f) ++ (b ∷ [])
  unfolding spelled part
  ends-line m fs f g p e = rw (e, p, line-snoc fs g) (simp append_assoc)

  ends_record : (fs : List Field) (f : List ℕ) → b ≡ lf → Grows EndRecord AtCr fs f
  unfolding spelled part act commas
  ends_record fs f e = rw (e, lines_snoc rows fs) (simp (append-nil, append_assoc))

  -- what is whole of a field
  at_start : (fs : List Field) (f : List ℕ) → f ≡ [] → part Start fs f ≡ commas fs ++ field_text (bare f)
  unfolding part
  at_start fs f t = rw t (sym (append-nil (commas fs)))

  in_plain : (fs : List Field) (f : List ℕ) → part Plain fs f ≡ commas fs ++ field_text (bare f)
  unfolding part
  in_plain fs f = refl

  past-quote : (fs : List Field) (f : List ℕ) → part Closing fs f ≡ commas fs ++ field_text (quoted f)
  unfolding part
  past-quote fs f = refl

  grows : (c : Class) → b ≡ byte_of c b → (m : Mode) (fs : List Field) (f : List ℕ) → Tidy m f → Grows (action m c) m fs f
  unfolding byte_of act
  grows Quote e Start fs f t = opens fs f e
  grows Comma e Start fs f t = ends Start fs f (bare f) (at_start fs f t) e
  grows Cr e Start fs f t = ends-line Start fs f (bare f) (at_start fs f t) e
  grows Lf e Start fs f t = breaks Start fs f
  grows Other e Start fs f t = begins fs f t
  grows Quote e Plain fs f t = breaks Plain fs f
  grows Comma e Plain fs f t = ends Plain fs f (bare f) (in_plain fs f) e
  grows Cr e Plain fs f t = ends-line Plain fs f (bare f) (in_plain fs f) e
  grows Lf e Plain fs f t = breaks Plain fs f
  grows Other e Plain fs f t = adds fs f
  grows Quote e Inside fs f t = closes fs f e
  grows Comma e Inside fs f t = adds-inside fs f
  grows Cr e Inside fs f t = adds-inside fs f
  grows Lf e Inside fs f t = adds-inside fs f
  grows Other e Inside fs f t = adds-inside fs f
  grows Quote e Closing fs f t = breaks Closing fs f
  grows Comma e Closing fs f t = ends Closing fs f (quoted f) (past-quote fs f) e
  grows Cr e Closing fs f t = ends-line Closing fs f (quoted f) (past-quote fs f) e
  grows Lf e Closing fs f t = breaks Closing fs f
  grows Other e Closing fs f t = breaks Closing fs f
  grows Quote e AtCr fs f t = breaks AtCr fs f
  grows Comma e AtCr fs f t = breaks AtCr fs f
  grows Cr e AtCr fs f t = breaks AtCr fs f
  grows Lf e AtCr fs f t = ends_record fs f e
  grows Other e AtCr fs f t = breaks AtCr fs f
  grows c e Broken fs f t = breaks Broken fs f

abbrev pub TidyIn : Lexed → Type 0
TidyIn l = Tidy l.mode l.field

adding-tidy : (m : Mode) (f : List ℕ) → Tidy (adding m) f
adding-tidy Start f = tt
adding-tidy Plain f = tt
adding-tidy Inside f = tt
adding-tidy Closing f = tt
adding-tidy AtCr f = tt
adding-tidy Broken f = tt

act-tidy : (a : Act) (b : ℕ) (m : Mode) (rows : List (List Field)) (fs : List Field) (f : List ℕ) → TidyIn (act a b m rows fs f)
unfolding act
act-tidy Open b m rows fs f = tt
act-tidy Add b m rows fs f = adding-tidy m (snoc f b)
act-tidy Close b m rows fs f = tt
act-tidy EndField b m rows fs f = refl
act-tidy EndLine b m rows fs f = tt
act-tidy EndRecord b m rows fs f = refl
act-tidy Break b m rows fs f = tt

pub step-tidy : (l : Lexed) (b : ℕ) → TidyIn (step l b)
unfolding step
step-tidy l b = act-tidy (action l.mode (class b)) b l.mode l.rows l.fields l.field

pub run-tidy : (l : Lexed) (s : List ℕ) → TidyIn l → TidyIn (run l s)
unfolding run
run-tidy l [] t = t
run-tidy l (b ∷ s) t = run-tidy (step l b) s (step-tidy l b)

step-spelled : (l : Lexed) (b : ℕ) → TidyIn l → spelled (step l b) ≡ spelled l ++ (b ∷ [])
unfolding step spelled
step-spelled l b t = grows l.rows b (class b) (class_byte b) l.mode l.fields l.field t

-- no byte is forgotten
pub run-spelled : (l : Lexed) (s : List ℕ) → TidyIn l → spelled (run l s) ≡ spelled l ++ s
unfolding run
run-spelled l [] t = sym (append-nil (spelled l))
run-spelled l (b ∷ s) t =
    run-spelled (step l b) s (step-tidy l b) ∙ ap (λ (x : List ℕ). x ++ s) (step-spelled l b t) ∙ append_assoc (spelled l) (b ∷ []) s

pub nothing-spelled : spelled begin ≡ []
unfolding spelled part lines commas
nothing-spelled = refl
