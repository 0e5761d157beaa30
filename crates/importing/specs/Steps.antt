-- A register's text taken a byte at a time, by value: what the code is. Which bytes mean what is `register`'s lexer; a field is kept as a mark alone.
-- That it follows what `register` reads of every text shorter than 2^64 bytes stands in proofs/Follows.antt.
-- Assumes nothing.
use Rattle.std.specs.Prelude.{ℕ, ◌+◌, ◌-◌, ◌^◌, Bool, true, false, ◌&&◌, List, [], eqb, ltb, leb, length, get_or}
use Rattle.relay.specs.Choice.{pick}
use Rattle.relay.specs.Kinds.{terminus, ordinary}
use Rattle.digits.specs.Numerals.{wrong, limit, with_digit}
use Rattle.register.specs.Lexer.{class, action, adding}
use Rattle.register.specs.Reading.{may_stand}
use Rattle.register.specs.Records.{header}
use Rattle.register.specs.declared.Act.{Act}
use Rattle.register.specs.declared.Act.TheVariants.{Open, Add, Close, EndField, EndLine, EndRecord, Break}
use Rattle.register.specs.declared.Mode.{Mode}
use Rattle.register.specs.declared.Mode.TheVariants.{Start, Inside, Closing, AtCr, Broken}
use Rattle.register.specs.declared.Stage.{Stage}
use Rattle.register.specs.declared.Stage.TheVariants.{AtHeader, AtStart, AtKinds, AtEvents}
use Rattle.importing.specs.declared.steps.Marks.{Marks}
use Rattle.importing.specs.declared.steps.State.{State}

abbrev pub marks_of : ℕ → ℕ → ℕ → ℕ → ℕ → Marks
marks_of a b c d e = record { a = a; b = b; c = c; d = d; e = e }

abbrev pub state : Mode → Stage → ℕ → ℕ → Marks → ℕ → ℕ → ℕ → State
state mode stage place mark marks stamp posts events =
    record { mode = mode; stage = stage; place = place; mark = mark; marks = marks; stamp = stamp; posts = posts; events = events }

-- the same records stand, and the next byte stands elsewhere
abbrev pub moved : State → Mode → ℕ → ℕ → Marks → State
moved s mode place mark marks = state mode s.stage place mark marks s.stamp s.posts s.events

-- nothing read
abbrev pub begun : State
begun = state Start AtHeader 0 0 (marks_of 0 0 0 0 0) 0 0 0

-- ---- a field's mark
-- how many letters of the word w there are: m, and one more
unfoldable pub with_letter : List ℕ → ℕ → ℕ → ℕ
with_letter w m b = pick (ltb m (length w)) (pick (eqb (get_or w m 0) b) (m + 1) wrong) wrong

-- the header's word at place i
abbrev pub word : ℕ → List ℕ
word i = get_or header i []

abbrev pub is_header : Stage → Bool
is_header AtHeader = true
is_header AtStart = false
is_header AtKinds = false
is_header AtEvents = false

-- at this stage, of the field at place i
abbrev pub mark_next : Stage → ℕ → ℕ → ℕ → ℕ
mark_next g i m b = pick (is_header g) (with_letter (word i) m b) (with_digit m b)

-- the number that a mark says, where it has 32 bits
unfoldable pub number_in : ℕ → ℕ
number_in m = pick (eqb m 0) 0 (pick (leb m (2 ^ 32)) (m - 1) 0)

-- the mark is that of a number below n
unfoldable pub is_below : ℕ → ℕ → Bool
is_below n m = leb 1 m && leb m n

-- ---- a field that has ended: its mark is the last of five
abbrev pub pushed : Marks → ℕ → Marks
pushed k m = marks_of k.b k.c k.d k.e m

-- a sixth field is one too many; those after it are not counted
unfoldable pub place_next : ℕ → ℕ
place_next p = pick (ltb p 6) (p + 1) p

abbrev pub ended : Mode → State → State
ended m s = moved s m (place_next s.place) 0 (pushed s.marks s.mark)

-- ---- a record that has ended
-- no record more stands, from here on
abbrev pub stopped : State → State
stopped s = moved s Broken s.place s.mark s.marks

-- the record stands, and this is known after it
abbrev pub onward : State → Stage → ℕ → ℕ → ℕ → State
onward s g stamp posts events = state Start g 0 0 s.marks stamp posts events

-- so many events are counted, as far as a position is read; a text in lent bytes has not as many
abbrev pub most_counted : ℕ
most_counted = limit - 1

unfoldable pub header_stands : Marks → Bool
header_stands k =
    eqb k.a (length (word 0))
    && (eqb k.b (length (word 1)) && (eqb k.c (length (word 2)) && (eqb k.d (length (word 3)) && eqb k.e (length (word 4)))))

unfoldable pub start_stands : Marks → Bool
start_stands k = eqb k.a 0 && (eqb k.b 0 && (eqb k.c 0 && (is_below (2 ^ 32) k.d && eqb k.e 0)))

unfoldable pub kind_stands : ℕ → Marks → Bool
kind_stands posts k =
    ltb posts 32
    && (eqb k.a 0
    && ((is_below (2 ^ 32) k.b && may_stand posts (number_in k.b)) && (eqb k.c (posts + 1) && (eqb k.d 0 && eqb k.e 0))))

unfoldable pub event_stands : ℕ → Marks → Bool
event_stands events k =
    ltb events most_counted
    && (eqb k.a (events + 2)
    && (is_below 32 k.b && (is_below 64 k.c && (is_below (2 ^ 32) k.d && is_below 32 k.e))))

unfoldable pub after_header : State → State
after_header s = pick (header_stands s.marks) (onward s AtStart s.stamp s.posts s.events) (stopped s)

unfoldable pub after_start : State → State
after_start s = pick (start_stands s.marks) (onward s AtKinds (number_in s.marks.d) s.posts s.events) (stopped s)

-- a 1 or a 17 ends the table
unfoldable pub after_kind : State → State
after_kind s =
    pick (kind_stands s.posts s.marks)
    (onward s (pick (eqb (ordinary (number_in s.marks.b)) terminus) AtEvents AtKinds) s.stamp (s.posts + 1) s.events)
    (stopped s)

unfoldable pub after_event : State → State
after_event s =
    pick (event_stands s.events s.marks) (onward s AtEvents s.stamp s.posts (s.events + 1)) (stopped s)

abbrev pub judged : Stage → State → State
judged AtHeader s = after_header s
judged AtStart s = after_start s
judged AtKinds s = after_kind s
judged AtEvents s = after_event s

-- a record has five fields
unfoldable pub record_ended : State → State
record_ended s = pick (eqb s.place 5) (judged s.stage s) (stopped s)

-- ---- one byte
abbrev pub acted : Act → State → ℕ → State
acted Open s b = moved s Inside s.place 0 s.marks
acted Add s b = moved s (adding s.mode) s.place (mark_next s.stage s.place s.mark b) s.marks
acted Close s b = moved s Closing s.place s.mark s.marks
acted EndField s b = ended Start s
acted EndLine s b = ended AtCr s
acted EndRecord s b = record_ended s
acted Break s b = stopped s

unfoldable pub state_next : State → ℕ → State
state_next s b = acted (action s.mode (class b)) s b
