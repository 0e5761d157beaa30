-- Bytes to records by RFC 4180, one step per byte. The state keeps how each field was written, so that the text read so far can be said from it (proofs/Spelled.antt).
-- A quote doubled in quotes, which RFC 4180 allows, is a break here: no field of a register has a quote in it, so the record cannot stand either way.
-- Assumes nothing.
use Rattle.std.specs.Prelude.{ℕ, Bool, true, false, List, [], ◌∷◌, ◌++◌, eqb}
use Rattle.relay.specs.Choice.{pick}
use Rattle.register.specs.Texts.{quote, comma, cr, lf, line_end, Field, bare, quoted, field_text, line, lines}
use Rattle.register.specs.declared.Class.{Class}
use Rattle.register.specs.declared.Class.TheVariants.{Quote, Comma, Cr, Lf, Other}
use Rattle.register.specs.declared.Mode.{Mode}
use Rattle.register.specs.declared.Mode.TheVariants.{Start, Plain, Inside, Closing, AtCr, Broken}
use Rattle.register.specs.declared.Act.{Act}
use Rattle.register.specs.declared.Act.TheVariants.{Open, Add, Close, EndField, EndLine, EndRecord, Break}

-- the bytes that mean something, and the others
unfoldable pub class : ℕ → Class
class b = pick (eqb b quote) Quote (pick (eqb b comma) Comma (pick (eqb b cr) Cr (pick (eqb b lf) Lf Other)))

-- ---- what a byte does
-- the first byte of a field
abbrev pub opening : Class → Act
opening Quote = Open
opening Comma = EndField
opening Cr = EndLine
opening Lf = Break
opening Other = Add

-- a further byte of a field that is not quoted
abbrev pub in_plain : Class → Act
in_plain Quote = Break
in_plain Comma = EndField
in_plain Cr = EndLine
in_plain Lf = Break
in_plain Other = Add

-- a byte in quotes
abbrev pub in_quotes : Class → Act
in_quotes Quote = Close
in_quotes Comma = Add
in_quotes Cr = Add
in_quotes Lf = Add
in_quotes Other = Add

-- the byte after a closing quote
abbrev pub after_quote : Class → Act
after_quote Quote = Break
after_quote Comma = EndField
after_quote Cr = EndLine
after_quote Lf = Break
after_quote Other = Break

-- the byte after CR
abbrev pub after_cr : Class → Act
after_cr Quote = Break
after_cr Comma = Break
after_cr Cr = Break
after_cr Lf = EndRecord
after_cr Other = Break

abbrev pub action : Mode → Class → Act
action Start c = opening c
action Plain c = in_plain c
action Inside c = in_quotes c
action Closing c = after_quote c
action AtCr c = after_cr c
action Broken c = Break

-- ---- what has been read
-- the records that are whole, the fields that are whole of the next, and the bytes of its next field (past a break: all its bytes)
pub record Lexed : Type 0 where
  pub mode : Mode
  pub rows : List (List Field)
  pub fields : List Field
  pub field : List ℕ

abbrev pub lexed : Mode → List (List Field) → List Field → List ℕ → Lexed
lexed m rows fs f = record { mode = m; rows = rows; fields = fs; field = f }

abbrev pub snoc : {X : Type 0} → List X → X → List X
snoc xs x = xs ++ (x ∷ [])

-- fields, each followed by a comma
unfoldable pub commas : List Field → List ℕ
commas [] = []
commas (f ∷ fs) = field_text f ++ (comma ∷ commas fs)

-- the bytes of the record that is not whole
unfoldable pub part : Mode → List Field → List ℕ → List ℕ
part Start fs f = commas fs
part Plain fs f = commas fs ++ f
part Inside fs f = commas fs ++ (quote ∷ f)
part Closing fs f = commas fs ++ (quote ∷ (f ++ (quote ∷ [])))
part AtCr fs f = line fs ++ (cr ∷ [])
part Broken fs f = f

-- the text read
unfoldable pub spelled : Lexed → List ℕ
spelled l = lines l.rows ++ part l.mode l.fields l.field

-- ---- one byte more
-- a field that a byte was added to: in quotes or not
abbrev pub adding : Mode → Mode
adding Start = Plain
adding Plain = Plain
adding Inside = Inside
adding Closing = Plain
adding AtCr = Plain
adding Broken = Plain

-- a field that is whole: quoted where it ended behind a quote
abbrev pub field_of : Mode → List ℕ → Field
field_of Start f = bare f
field_of Plain f = bare f
field_of Inside f = bare f
field_of Closing f = quoted f
field_of AtCr f = bare f
field_of Broken f = bare f

unfoldable pub act : Act → ℕ → Mode → List (List Field) → List Field → List ℕ → Lexed
act Open b m rows fs f = lexed Inside rows fs []
act Add b m rows fs f = lexed (adding m) rows fs (snoc f b)
act Close b m rows fs f = lexed Closing rows fs f
act EndField b m rows fs f = lexed Start rows (snoc fs (field_of m f)) []
act EndLine b m rows fs f = lexed AtCr rows (snoc fs (field_of m f)) []
act EndRecord b m rows fs f = lexed Start (snoc rows fs) [] []
act Break b m rows fs f = lexed Broken rows [] (snoc (part m fs f) b)

unfoldable pub step : Lexed → ℕ → Lexed
step l b = act (action l.mode (class b)) b l.mode l.rows l.fields l.field

unfoldable pub run : Lexed → List ℕ → Lexed
run l [] = l
run l (b ∷ bs) = run (step l b) bs

abbrev pub begin : Lexed
begin = lexed Start [] [] []

-- ---- the text, whole
-- every record begun is whole
abbrev pub whole : Mode → List Field → Bool
whole Start [] = true
whole Start (f ∷ fs) = false
whole Plain fs = false
whole Inside fs = false
whole Closing fs = false
whole AtCr fs = false
whole Broken fs = false

abbrev pub is_whole : Lexed → Bool
is_whole l = whole l.mode l.fields

-- the end of the text is one more line end, unless it has just had one
unfoldable pub finish : Lexed → Lexed
finish l = pick (is_whole l) l (run l line_end)

abbrev pub lex_text : List ℕ → Lexed
lex_text s = finish (run begin s)
