-- A record as it is put, by its fields: what each field is, and how long the record is.
-- Assumes nothing.
use Rattle.std.specs.Prelude.{Option, Some, None}
use Prim.Native.Nat.{ℕ, ◌+◌}
use mathlib.Core.Path.{◌≡◌, refl}
use mathlib.Core.List.{List, [], ◌∷◌}
use native.Mathlib.Omega.{arith}
use lib.ListN.{length, length-append}
use Rattle.digits.specs.Digits.{digits}
use Rattle.digits.specs.Texts.{joined}
use Rattle.exporting.specs.declared.Fields.{Fields}
use Rattle.exporting.specs.Fields.{header_line, field, ended, text_of, count, text_at, register_of}

-- no field, and the digits of a number
pub field_none : field None ≡ []
unfolding field
field_none = refl

pub field_some : (n : ℕ) → field (Some n) ≡ digits n
unfolding field
field_some n = refl

-- with the byte after it
pub ended_long : (number : Option ℕ) (b : ℕ) → length (ended number b) ≡ length (field number) + 1
unfolding ended
ended_long number b = length-append (field number) (b ∷ [])

-- a record
pub text_long : (f : Fields) → length (text_of f)
    ≡ length (field f.position) + length (field f.event) + length (field f.post) + length (field f.stamp) + length (field f.answer) + 6
unfolding text_of
text_long f = simp (length-append, ended_long) (omega arith)

-- the register: the header is 34 bytes
pub register_long : (stamp : ℕ) (ks : List ℕ) (es : List (List ℕ)) → length (register_of stamp ks es) ≡ 34 + length (joined (text_at stamp ks es) (count ks es))
unfolding register_of
register_long stamp ks es = length-append header_line (joined (text_at stamp ks es) (count ks es))
