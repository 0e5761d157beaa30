-- What import returns and writes, for every text and every output. 02, item 3: 'import 28 with the number (the header is 1) of the first record that can't stand there in a right text of any length, or of the first one missing, then 18 for more than 3,780 events, then 21'.
-- And the same by the state and the rooms that a text fed in pieces leaves. That the two agree stands in proofs/Follows.antt and the proof of `import`.
-- Assumes nothing.
use Rattle.std.specs.Prelude.{ℕ, ◌+◌, Bool, true, false, not, ◌&&◌, ◌≡◌, List, ◌++◌, Result, Ok, Err, eqb, leb, ltb, length, take, drop}
use Rattle.relay.specs.Answers.{notValid}
use Rattle.relay.specs.Choice.{pick}
use Rattle.sheet.specs.Layout.{most_entries, length_wrong, room_short}
use Rattle.sheet.specs.Sheet.{Sheet, encode}
use Rattle.sheet.specs.Writing.{bytes_for, write_number, written}
use Rattle.register.specs.Register.{wrong_record, is_events, accepts, named, sheet_in}
use Rattle.register.specs.Texts.{line_end}
use Rattle.register.specs.declared.Mode.{Mode}
use Rattle.register.specs.declared.Mode.TheVariants.{Start, Plain, Inside, Closing, AtCr, Broken}
use Rattle.register.specs.declared.Stage.{Stage}
use Rattle.register.specs.declared.Stage.TheVariants.{AtHeader, AtStart, AtKinds, AtEvents}
use Rattle.importing.specs.Refusals.{number_of_refusal, record_of_refusal}
use Rattle.importing.specs.Rooms.{Fed, fed}
use Rattle.importing.specs.Steps.{most_counted}
use Rattle.importing.specs.declared.Imported.{Imported}
use Rattle.importing.specs.declared.refusal.Refusal.{Refusal}
use Rattle.importing.specs.declared.steps.State.{State}

-- a refusal returns its number and its record, nothing else
abbrev pub refused : ℕ → ℕ → Imported
refused number at = record { number = number; at = at; bytes = 0 }

abbrev pub imported : ℕ → Imported
imported n = record { number = 0; at = 0; bytes = n }

-- what an outcome of import returns: how many bytes the sheet has, or its refusal
abbrev pub imported_of : Result ℕ Refusal → Imported
imported_of (Ok n) = imported n
imported_of (Err refusal) = refused (number_of_refusal refusal) (record_of_refusal refusal)

-- ---- by the text
-- what is returned, with an output of m bytes
unfoldable pub import_of : List ℕ → ℕ → Imported
import_of text m =
    pick (not (accepts text)) (refused wrong_record (named text))
    (pick (ltb most_entries (length (sheet_in text).events)) (refused length_wrong 0)
    (pick (ltb m (bytes_for (length (sheet_in text).events))) (refused room_short 0)
    (imported (bytes_for (length (sheet_in text).events)))))

-- the output afterwards: the sheet and then what was there; on a refusal as it was
unfoldable pub import_into : List ℕ → List ℕ → List ℕ
import_into text out =
    pick (eqb (import_of text (length out)).number 0)
    (encode (sheet_in text) ++ drop (bytes_for (length (sheet_in text).events)) out)
    out

abbrev pub Imports : List ℕ → Imported → List ℕ → List ℕ → Type 0
Imports text r out out' = (r ≡ import_of text (length out)) × (out' ≡ import_into text out)

-- ---- by the state that the text leaves
abbrev pub is_start : Mode → Bool
is_start Start = true
is_start Plain = false
is_start Inside = false
is_start Closing = false
is_start AtCr = false
is_start Broken = false

-- every record begun is whole
unfoldable pub is_whole : State → Bool
is_whole s = is_start s.mode && eqb s.place 0

-- the end of the text is one more line end, unless it has just had one
unfoldable pub closed : Fed → Fed
closed f = pick (is_whole f.state) f (fed f line_end)

-- and the table is done
unfoldable pub is_done : State → Bool
is_done s = is_whole s && is_events s.stage

-- the record after those that stand
abbrev pub record_at : Stage → ℕ → ℕ → ℕ
record_at AtHeader posts events = 1
record_at AtStart posts events = 2
record_at AtKinds posts events = 3 + posts
record_at AtEvents posts events = 3 + posts + events

unfoldable pub record_in : State → ℕ
record_in s = pick (leb s.events most_counted) (record_at s.stage s.posts s.events) 0

-- the sheet that the state and the rooms say
abbrev pub sheet_at : State → List ℕ → List (List ℕ) → Sheet
sheet_at s ks es = record { stamp = s.stamp; kinds = take s.posts ks; events = take s.events es }

-- more posts or events than there is room for are not written
unfoldable pub settle_number : Fed → ℕ → ℕ
settle_number f m =
    pick (not (is_done f.state)) wrong_record
    (pick (ltb (length f.events) f.state.events) length_wrong
    (pick (ltb (length f.kinds) f.state.posts) notValid (write_number (sheet_at f.state f.kinds f.events) m)))

unfoldable pub settle_of : Fed → ℕ → Imported
settle_of f m =
    pick (eqb (settle_number f m) 0) (imported (bytes_for f.state.events))
    (refused (settle_number f m) (pick (is_done f.state) 0 (record_in f.state)))

unfoldable pub settle_into : Fed → List ℕ → List ℕ
settle_into f out =
    pick (eqb (settle_number f (length out)) 0) (written (sheet_at f.state f.kinds f.events) out) out

-- the state and both rooms lent, f; what is returned, and the rooms and the output afterwards
abbrev pub Settles : Fed → Imported → List ℕ → List (List ℕ) → List ℕ → List ℕ → Type 0
Settles f r ks' es' out out' =
    (r ≡ settle_of (closed f) (length out))
    × (out' ≡ settle_into (closed f) out)
    × (ks' ≡ (closed f).kinds)
    × (es' ≡ (closed f).events)
