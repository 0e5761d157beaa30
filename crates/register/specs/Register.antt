-- The register of a sheet. 02, item 3: 'Export a sheet to text by RFC 4180 [..] Import takes fields quoted or not, and the last line end or none, and gives the sheet back byte for byte.'
-- Which texts are right, which record of a text cannot stand, and what import makes of any text. That the two agree, for every text, stands in proofs/Import.antt.
-- Assumes nothing.
use Rattle.std.specs.Prelude.{ℕ, suc, ◌<◌, Bool, true, false, ◌&&◌, ◌≡◌, List, [], ◌++◌, eqb, length}
use Rattle.sheet.specs.Sheet.{Sheet}
use Rattle.register.specs.Texts.{Field, line_end, lines, bare_all, said_all}
use Rattle.register.specs.Lexer.{is_whole, lex_text}
use Rattle.register.specs.Records.{records, Right}
use Rattle.register.specs.declared.Stage.{Stage}
use Rattle.register.specs.declared.Stage.TheVariants.{AtHeader, AtStart, AtKinds, AtEvents}
use Rattle.register.specs.Reading.{nothing, standing, after}

-- ---- export: nothing quoted, the last line end there
unfoldable pub exported : Sheet → List ℕ
exported t = lines (bare_all (records t))

-- ---- the right texts
-- 'the last line end or none'
abbrev pub last_end : Bool → List ℕ
last_end true = []
last_end false = line_end

-- a right text of the sheet t: its records, each field quoted or not; the last line end may be missing
pub record RightText (t : Sheet) (text : List ℕ) : Type 0 where
  pub rows : List (List Field)
  pub ended : Bool
  pub says : said_all rows ≡ records t
  pub spells : text ++ last_end ended ≡ lines rows

-- the text's first j records stand in a right text of some sheet, of any length: with one more line end, the text begins with its first j lines
pub record Stand (j : ℕ) (text : List ℕ) : Type 0 where
  pub sheet : Sheet
  pub right : Right sheet
  pub rows : List (List Field)
  pub rest : List ℕ
  pub more : List (List (List ℕ))
  pub many : length rows ≡ j
  pub begins : records sheet ≡ said_all rows ++ more
  pub spells : text ++ line_end ≡ lines rows ++ rest

-- 28 at the record named: no sheet has this as a right text; the records before it stand in one; with it they stand in none
pub record Names (k : ℕ) (text : List ℕ) : Type 0 where
  pub wrong : (t : Sheet) → Right t → RightText t text → ⊥
  pub before : (j : ℕ) → j < k → Stand j text
  pub with_it : Stand k text → ⊥

-- the first j records of the text, as they stand there, begin a right text of a right sheet
pub record Begins (j : ℕ) (text : List ℕ) : Type 0 where
  pub rows : List (List Field)
  pub many : length rows ≡ j
  pub rest : List ℕ
  pub here : text ++ line_end ≡ lines rows ++ rest
  pub sheet : Sheet
  pub right : Right sheet
  pub other : List ℕ
  pub is_right : RightText sheet other
  pub more : List ℕ
  pub there : other ≡ lines rows ++ more

-- ---- import
-- refused: a record of the text cannot stand there, or is missing
abbrev pub wrong_record : ℕ
wrong_record = 28

abbrev pub is_events : Stage → Bool
is_events AtHeader = false
is_events AtStart = false
is_events AtKinds = false
is_events AtEvents = true

abbrev pub records_in : List ℕ → List (List (List ℕ))
records_in text = said_all (lex_text text).rows

-- how many records of the text stand, from the first on
abbrev pub stand_in : List ℕ → ℕ
stand_in text = standing nothing (records_in text)

-- the text is right: every record is whole and stands, and the table is done
unfoldable pub accepts : List ℕ → Bool
accepts text =
    is_whole (lex_text text)
    && (eqb (stand_in text) (length (records_in text)) && is_events (after nothing (records_in text)).stage)

-- the record named by 28: the first one that cannot stand, or the first one missing
abbrev pub named : List ℕ → ℕ
named text = suc (stand_in text)

-- the sheet that an accepted text says
abbrev pub sheet_in : List ℕ → Sheet
sheet_in text = (after nothing (records_in text)).sheet
