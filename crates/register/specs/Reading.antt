-- Records to a sheet: what may stand next, and what is then known of the sheet. 02, item 3: 'the first record that can't stand there in a right text of any length'.
-- A record stands where it is, byte for byte, the one that its own numbers would be written as, and they are within their bounds; so a leading zero, a space or a field too many is no question of its own.
-- Assumes nothing.
use Rattle.std.specs.Prelude.{ℕ, suc, ◌^◌, Bool, true, false, ◌&&◌, ◌||◌, List, [], ◌∷◌, ◌++◌, eqb, ltb, length, get_or}
use Rattle.relay.specs.Choice.{pick}
use Rattle.relay.specs.Kinds.{origin, terminus, ordinary, between}
use Rattle.sheet.specs.Entry.{entry, in_fields}
use Rattle.sheet.specs.Sheet.{Sheet}
use Rattle.register.specs.declared.Stage.{Stage}
use Rattle.register.specs.declared.Stage.TheVariants.{AtHeader, AtStart, AtKinds, AtEvents}
use Rattle.digits.specs.Digits.{value}
use Rattle.register.specs.Records.{header, start_record, kind_record, event_record}

-- which record is next, and the sheet so far
pub record Read : Type 0 where
  pub stage : Stage
  pub sheet : Sheet

abbrev pub known : Stage → ℕ → List ℕ → List (List ℕ) → Read
known g stamp kinds events = record { stage = g; sheet = record { stamp = stamp; kinds = kinds; events = events } }

-- nothing read
abbrev pub nothing : Read
nothing = known AtHeader 0 [] []

-- ---- the same bytes, the same fields
unfoldable pub same : List ℕ → List ℕ → Bool
same [] [] = true
same [] (y ∷ ys) = false
same (x ∷ xs) [] = false
same (x ∷ xs) (y ∷ ys) = eqb x y && same xs ys

unfoldable pub alike : List (List ℕ) → List (List ℕ) → Bool
alike [] [] = true
alike [] (y ∷ ys) = false
alike (x ∷ xs) [] = false
alike (x ∷ xs) (y ∷ ys) = same x y && alike xs ys

-- field i of a record as a number
abbrev pub num : List (List ℕ) → ℕ → ℕ
num r i = value 0 (get_or r i [])

-- the event that a record says
abbrev pub event_in : List (List ℕ) → List ℕ
event_in r = entry (num r 1) (num r 2) (num r 4) (num r 3)

-- post i may have kind k: 0 first; then 2, 3, 4, or a 1, which ends the table, or their short forms (02, item 5); at post 31 only a 1 or a 17
unfoldable pub may_stand : ℕ → ℕ → Bool
may_stand i k =
    pick (eqb i 0) (eqb (ordinary k) origin) (eqb (ordinary k) terminus || (between (ordinary k) && ltb i 31))

-- the record that its numbers would be written as, at this stage
unfoldable pub wanted : Stage → Sheet → List (List ℕ) → List (List ℕ)
wanted AtHeader t r = header
wanted AtStart t r = start_record (num r 3)
wanted AtKinds t r = kind_record (length t.kinds) (num r 1)
wanted AtEvents t r = event_record (suc (length t.events)) (event_in r)

-- its numbers are in their bounds
unfoldable pub within : Stage → Sheet → List (List ℕ) → Bool
within AtHeader t r = true
within AtStart t r = ltb (num r 3) (2 ^ 32)
within AtKinds t r = may_stand (length t.kinds) (num r 1)
within AtEvents t r = in_fields (event_in r) && ltb (num r 3) (2 ^ 32)

-- the record can stand next
unfoldable pub stands : Read → List (List ℕ) → Bool
stands s r = alike r (wanted s.stage s.sheet r) && within s.stage s.sheet r

-- what is known after a record that stands; a 1 or a 17 ends the table
unfoldable pub taken_as : Stage → Sheet → List (List ℕ) → Read
taken_as AtHeader t r = known AtStart t.stamp t.kinds t.events
taken_as AtStart t r = known AtKinds (num r 3) t.kinds t.events
taken_as AtKinds t r = known (pick (eqb (ordinary (num r 1)) terminus) AtEvents AtKinds) t.stamp (t.kinds ++ (num r 1 ∷ [])) t.events
taken_as AtEvents t r = known AtEvents t.stamp t.kinds (t.events ++ (event_in r ∷ []))

abbrev pub taken : Read → List (List ℕ) → Read
taken s r = taken_as s.stage s.sheet r

-- how many of the records stand, from the first on
unfoldable pub standing : Read → List (List (List ℕ)) → ℕ
standing s [] = 0
standing s (r ∷ rs) = pick (stands s r) (suc (standing (taken s r) rs)) 0

-- what is known after all of them
unfoldable pub after : Read → List (List (List ℕ)) → Read
after s [] = s
after s (r ∷ rs) = after (taken s r) rs
