-- The register as it is put: the header's bytes, and then record by record five fields, each of a number or empty.
-- That this is the text of 02, item 3, which the register crate defines, stands in proofs/Registers.antt.
-- Assumes nothing.
use Rattle.std.specs.Prelude.{ℕ, ◌+◌, ◌-◌, ◌≤◌, List, [], ◌∷◌, ◌++◌, Option, Some, None, eqb, ltb, length, get_or}
use Rattle.relay.specs.Choice.{pick}
use Rattle.digits.specs.Digits.{digits}
use Rattle.digits.specs.Texts.{joined}
use Rattle.register.specs.Texts.{comma, cr, lf}
use Rattle.sheet.specs.Entry.{number_of, post_of, answer_of, stamp_of}
use Rattle.exporting.specs.declared.Fields.{Fields}

-- "position,event,post,stamp,answer" and its line end
abbrev pub header_line : List ℕ
header_line =
    112 ∷ 111 ∷ 115 ∷ 105 ∷ 116 ∷ 105 ∷ 111 ∷ 110 ∷ 44
    ∷ 101 ∷ 118 ∷ 101 ∷ 110 ∷ 116 ∷ 44
    ∷ 112 ∷ 111 ∷ 115 ∷ 116 ∷ 44
    ∷ 115 ∷ 116 ∷ 97 ∷ 109 ∷ 112 ∷ 44
    ∷ 97 ∷ 110 ∷ 115 ∷ 119 ∷ 101 ∷ 114 ∷ 13 ∷ 10
    ∷ []

-- a field: a number's digits, or nothing
unfoldable pub field : Option ℕ → List ℕ
field (Some n) = digits n
field None = []

-- a field and the byte after it
unfoldable pub ended : Option ℕ → ℕ → List ℕ
ended number b = field number ++ (b ∷ [])

abbrev pub fields : Option ℕ → Option ℕ → Option ℕ → Option ℕ → Option ℕ → Fields
fields position event post stamp answer =
    record { position = position; event = event; post = post; stamp = stamp; answer = answer }

-- a record and its line end
unfoldable pub text_of : Fields → List ℕ
text_of f =
    ((((ended f.position comma ++ ended f.event comma) ++ ended f.post comma) ++ ended f.stamp comma)
    ++ ended f.answer cr)
    ++ (lf ∷ [])

-- how many records follow the header
abbrev pub count : List ℕ → List (List ℕ) → ℕ
count kinds events = 1 + length kinds + length events

-- as many as a sheet can have
abbrev pub Few : List ℕ → List (List ℕ) → Type 0
Few kinds events = (length kinds ≤ 32) × (length events ≤ 3780)

-- event k, at position k + 1
unfoldable pub event_fields : ℕ → List ℕ → Fields
event_fields k e = fields (Some (k + 1)) (Some (number_of e)) (Some (post_of e)) (Some (stamp_of e)) (Some (answer_of e))

-- record i after the header: the start, each post's kind, each event
unfoldable pub fields_at : ℕ → List ℕ → List (List ℕ) → ℕ → Fields
fields_at stamp kinds events i =
    pick (eqb i 0) (fields None None None (Some stamp) None)
    (pick (ltb (i - 1) (length kinds)) (fields None (Some (get_or kinds (i - 1) 0)) (Some (i - 1)) None None)
    (event_fields (i - 1 - length kinds) (get_or events (i - 1 - length kinds) [])))

abbrev pub text_at : ℕ → List ℕ → List (List ℕ) → ℕ → List ℕ
text_at stamp kinds events i = text_of (fields_at stamp kinds events i)

-- the whole register
unfoldable pub register_of : ℕ → List ℕ → List (List ℕ) → List ℕ
register_of stamp kinds events = header_line ++ joined (text_at stamp kinds events) (count kinds events)
