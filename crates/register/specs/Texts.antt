-- A text of records by RFC 4180: fields quoted or not, a comma between them, CR LF after each record.
-- No field of a register has a quote in it, so none is doubled.
-- Assumes nothing.
use Rattle.std.specs.Prelude.{ℕ, List, [], ◌∷◌, ◌++◌}

abbrev pub quote : ℕ
quote = 34

abbrev pub comma : ℕ
comma = 44

abbrev pub cr : ℕ
cr = 13

abbrev pub lf : ℕ
lf = 10

abbrev pub line_end : List ℕ
line_end = cr ∷ lf ∷ []

-- a field as it is written: as it is, or in quotes
pub data Field : Type 0 where
  bare : List ℕ → Field
  quoted : List ℕ → Field

-- what it says
abbrev pub said : Field → List ℕ
said (bare f) = f
said (quoted f) = f

-- its bytes
abbrev pub field_text : Field → List ℕ
field_text (bare f) = f
field_text (quoted f) = quote ∷ (f ++ (quote ∷ []))

-- a record: its fields with a comma between
unfoldable pub line : List Field → List ℕ
line [] = []
line (f ∷ []) = field_text f
line (f ∷ g ∷ fs) = field_text f ++ (comma ∷ line (g ∷ fs))

-- records, each ended by CR LF
unfoldable pub lines : List (List Field) → List ℕ
lines [] = []
lines (r ∷ rs) = line r ++ (cr ∷ lf ∷ lines rs)

-- what the fields of a record say, and the records
unfoldable pub said_in : List Field → List (List ℕ)
said_in [] = []
said_in (f ∷ fs) = said f ∷ said_in fs

unfoldable pub said_all : List (List Field) → List (List (List ℕ))
said_all [] = []
said_all (r ∷ rs) = said_in r ∷ said_all rs

-- the same with nothing quoted
unfoldable pub bare_in : List (List ℕ) → List Field
bare_in [] = []
bare_in (f ∷ fs) = bare f ∷ bare_in fs

unfoldable pub bare_all : List (List (List ℕ)) → List (List Field)
bare_all [] = []
bare_all (r ∷ rs) = bare_in r ∷ bare_all rs
