-- A short register, and texts that differ from it in one thing each: 0 for a text that import accepts, else the record that 28 names.
-- 02, items 3 and 5, and RFC 4180. That the definitions say so stands in proofs/Examples.antt.
-- Assumes nothing.
use Rattle.std.specs.Prelude.{ℕ, List, [], ◌∷◌, ◌++◌, replicate}
use Rattle.relay.specs.Choice.{pick}
use Rattle.sheet.specs.Entry.{entry}
use Rattle.sheet.specs.Sheet.{Sheet}
use Rattle.register.specs.Register.{exported, accepts, named}

-- two posts, and one event: 5 at post 0, stamped 1000, not yet answered
abbrev pub short_sheet : Sheet
short_sheet = record { stamp = 0; kinds = 0 ∷ 1 ∷ []; events = entry 5 0 31 1000 ∷ [] }

-- CR LF
abbrev pub end : List ℕ
end = 13 ∷ 10 ∷ []

-- position,event,post,stamp,answer
abbrev pub header_row : List ℕ
header_row = 112 ∷ 111 ∷ 115 ∷ 105 ∷ 116 ∷ 105 ∷ 111 ∷ 110 ∷ 44 ∷ 101 ∷ 118 ∷ 101 ∷ 110 ∷ 116 ∷ 44 ∷ 112 ∷ 111 ∷ 115 ∷ 116 ∷ 44 ∷ 115 ∷ 116 ∷ 97 ∷ 109 ∷ 112 ∷ 44 ∷ 97 ∷ 110 ∷ 115 ∷ 119 ∷ 101 ∷ 114 ∷ []

-- ,,,0,
abbrev pub start_row : List ℕ
start_row = 44 ∷ 44 ∷ 44 ∷ 48 ∷ 44 ∷ []

-- ,0,0,,
abbrev pub origin_row : List ℕ
origin_row = 44 ∷ 48 ∷ 44 ∷ 48 ∷ 44 ∷ 44 ∷ []

-- ,1,1,,
abbrev pub terminus_row : List ℕ
terminus_row = 44 ∷ 49 ∷ 44 ∷ 49 ∷ 44 ∷ 44 ∷ []

-- 1,5,0,1000,31
abbrev pub event_row : List ℕ
event_row = 49 ∷ 44 ∷ 53 ∷ 44 ∷ 48 ∷ 44 ∷ 49 ∷ 48 ∷ 48 ∷ 48 ∷ 44 ∷ 51 ∷ 49 ∷ []

-- the records before the event, each with its line end
abbrev pub table : List ℕ
table = header_row ++ (end ++ (start_row ++ (end ++ (origin_row ++ (end ++ (terminus_row ++ end))))))

abbrev pub short_text : List ℕ
short_text = table ++ (event_row ++ end)

-- ---- what is not right, each in place of a record
-- "1","5","0","1000","31"
abbrev pub quoted_row : List ℕ
quoted_row = 34 ∷ 49 ∷ 34 ∷ 44 ∷ 34 ∷ 53 ∷ 34 ∷ 44 ∷ 34 ∷ 48 ∷ 34 ∷ 44 ∷ 34 ∷ 49 ∷ 48 ∷ 48 ∷ 48 ∷ 34 ∷ 44 ∷ 34 ∷ 51 ∷ 49 ∷ 34 ∷ []

-- 1,5,0,01000,31
abbrev pub leading_zero : List ℕ
leading_zero = 49 ∷ 44 ∷ 53 ∷ 44 ∷ 48 ∷ 44 ∷ 48 ∷ 49 ∷ 48 ∷ 48 ∷ 48 ∷ 44 ∷ 51 ∷ 49 ∷ []

-- 2,5,0,1000,31
abbrev pub position2 : List ℕ
position2 = 50 ∷ 44 ∷ 53 ∷ 44 ∷ 48 ∷ 44 ∷ 49 ∷ 48 ∷ 48 ∷ 48 ∷ 44 ∷ 51 ∷ 49 ∷ []

-- 1,32,0,1000,31
abbrev pub event32 : List ℕ
event32 = 49 ∷ 44 ∷ 51 ∷ 50 ∷ 44 ∷ 48 ∷ 44 ∷ 49 ∷ 48 ∷ 48 ∷ 48 ∷ 44 ∷ 51 ∷ 49 ∷ []

-- 1,5,64,1000,31
abbrev pub post64 : List ℕ
post64 = 49 ∷ 44 ∷ 53 ∷ 44 ∷ 54 ∷ 52 ∷ 44 ∷ 49 ∷ 48 ∷ 48 ∷ 48 ∷ 44 ∷ 51 ∷ 49 ∷ []

-- 1,5,0,1000,32
abbrev pub answer32 : List ℕ
answer32 = 49 ∷ 44 ∷ 53 ∷ 44 ∷ 48 ∷ 44 ∷ 49 ∷ 48 ∷ 48 ∷ 48 ∷ 44 ∷ 51 ∷ 50 ∷ []

-- 1,5,0,1000
abbrev pub four_fields : List ℕ
four_fields = 49 ∷ 44 ∷ 53 ∷ 44 ∷ 48 ∷ 44 ∷ 49 ∷ 48 ∷ 48 ∷ 48 ∷ []

-- 1,5,0,1000,31,
abbrev pub six_fields : List ℕ
six_fields = 49 ∷ 44 ∷ 53 ∷ 44 ∷ 48 ∷ 44 ∷ 49 ∷ 48 ∷ 48 ∷ 48 ∷ 44 ∷ 51 ∷ 49 ∷ 44 ∷ []

-- 1, 5,0,1000,31
abbrev pub spaced : List ℕ
spaced = 49 ∷ 44 ∷ 32 ∷ 53 ∷ 44 ∷ 48 ∷ 44 ∷ 49 ∷ 48 ∷ 48 ∷ 48 ∷ 44 ∷ 51 ∷ 49 ∷ []

-- 1,5",0,1000,31
abbrev pub quote_inside : List ℕ
quote_inside = 49 ∷ 44 ∷ 53 ∷ 34 ∷ 44 ∷ 48 ∷ 44 ∷ 49 ∷ 48 ∷ 48 ∷ 48 ∷ 44 ∷ 51 ∷ 49 ∷ []

-- 1,"5"5,0,1000,31
abbrev pub behind_quote : List ℕ
behind_quote = 49 ∷ 44 ∷ 34 ∷ 53 ∷ 34 ∷ 53 ∷ 44 ∷ 48 ∷ 44 ∷ 49 ∷ 48 ∷ 48 ∷ 48 ∷ 44 ∷ 51 ∷ 49 ∷ []

-- 1,5,0,1000,"31
abbrev pub quote_open : List ℕ
quote_open = 49 ∷ 44 ∷ 53 ∷ 44 ∷ 48 ∷ 44 ∷ 49 ∷ 48 ∷ 48 ∷ 48 ∷ 44 ∷ 34 ∷ 51 ∷ 49 ∷ []

-- 1,"5""",0,1000,31
abbrev pub doubled : List ℕ
doubled = 49 ∷ 44 ∷ 34 ∷ 53 ∷ 34 ∷ 34 ∷ 34 ∷ 44 ∷ 48 ∷ 44 ∷ 49 ∷ 48 ∷ 48 ∷ 48 ∷ 44 ∷ 51 ∷ 49 ∷ []

-- ,,,00,
abbrev pub zeros : List ℕ
zeros = 44 ∷ 44 ∷ 44 ∷ 48 ∷ 48 ∷ 44 ∷ []

-- ,1,0,,
abbrev pub post_again : List ℕ
post_again = 44 ∷ 49 ∷ 44 ∷ 48 ∷ 44 ∷ 44 ∷ []

-- ,0,1,,
abbrev pub origin_again : List ℕ
origin_again = 44 ∷ 48 ∷ 44 ∷ 49 ∷ 44 ∷ 44 ∷ []

-- ,4,1,,
abbrev pub between : List ℕ
between = 44 ∷ 52 ∷ 44 ∷ 49 ∷ 44 ∷ 44 ∷ []

-- ,16,0,,
abbrev pub short16 : List ℕ
short16 = 44 ∷ 49 ∷ 54 ∷ 44 ∷ 48 ∷ 44 ∷ 44 ∷ []

-- for post 1 a kind of these two digits, as ,17,1,,
abbrev pub kind_of1 : ℕ → ℕ → List ℕ
kind_of1 a b = 44 ∷ a ∷ b ∷ 44 ∷ 49 ∷ 44 ∷ 44 ∷ []

-- ---- the texts
-- what import says of a text: 0, or the record that 28 names
abbrev pub says : List ℕ → ℕ
says text = pick (accepts text) 0 (named text)

unfoldable pub all_say : List (List ℕ) → List ℕ
all_say [] = []
all_say (t ∷ ts) = says t ∷ all_say ts

-- with this event record
abbrev pub with_event : List ℕ → List ℕ
with_event r = table ++ (r ++ end)

-- with this record of post 1, and the event
abbrev pub with_post1 : List ℕ → List ℕ
with_post1 r = header_row ++ (end ++ (start_row ++ (end ++ (origin_row ++ (end ++ (r ++ (end ++ (event_row ++ end))))))))

abbrev pub texts : List (List ℕ)
texts =
    -- as exported; without its last line end; quoted
    short_text
    ∷ (table ++ event_row)
    ∷ with_event quoted_row
    ∷ table
    -- an empty text lacks the header; a text that ends before the table does lacks the next record
    ∷ []
    ∷ header_row
    ∷ (header_row ++ end)
    ∷ (header_row ++ (end ++ start_row))
    ∷ (header_row ++ (end ++ (start_row ++ (end ++ origin_row))))
    -- LF alone behind the header
    ∷ (header_row ++ (10 ∷ start_row))
    -- a blank line at the end; a lone CR at the end; a lone LF
    ∷ (short_text ++ end)
    ∷ (short_text ++ (13 ∷ []))
    ∷ (table ++ (event_row ++ (13 ∷ [])))
    ∷ (table ++ (event_row ++ (10 ∷ [])))
    -- one thing wrong in the event's record
    ∷ with_event leading_zero
    ∷ with_event position2
    ∷ with_event event32
    ∷ with_event post64
    ∷ with_event answer32
    ∷ with_event four_fields
    ∷ with_event six_fields
    ∷ with_event spaced
    ∷ with_event quote_inside
    ∷ with_event behind_quote
    ∷ with_event quote_open
    ∷ with_event doubled
    -- one thing wrong in the record of post 1; a kind that leaves the table open makes the event's record wrong
    ∷ with_post1 post_again
    ∷ with_post1 origin_again
    ∷ with_post1 between
    -- 33 posts: at post 31 only a 1 can stand
    ∷ exported (record { stamp = 0; kinds = 0 ∷ (replicate 31 4 ++ (1 ∷ [])); events = [] })
    -- short forms: a 17 ends the table, a 20 leaves it open, and 16 and 21 are no kinds; at post 31 a 17 can stand, and no 20
    ∷ with_post1 (kind_of1 49 55)
    ∷ with_post1 (kind_of1 50 48)
    ∷ with_post1 (kind_of1 49 54)
    ∷ with_post1 (kind_of1 50 49)
    ∷ (header_row ++ (end ++ (start_row ++ (end ++ (short16 ++ end)))))
    ∷ exported (record { stamp = 0; kinds = 0 ∷ (replicate 30 20 ++ (17 ∷ [])); events = [] })
    ∷ exported (record { stamp = 0; kinds = 0 ∷ (replicate 31 20 ++ (17 ∷ [])); events = [] })
    -- a leading zero in the start stamp
    ∷ (header_row ++ (end ++ (zeros ++ end)))
    ∷ []

abbrev pub said : List ℕ
said =
    0 ∷ 0 ∷ 0 ∷ 0
    ∷ 1 ∷ 2 ∷ 2 ∷ 3 ∷ 4
    ∷ 1
    ∷ 6 ∷ 6 ∷ 5 ∷ 5
    ∷ 5 ∷ 5 ∷ 5 ∷ 5 ∷ 5 ∷ 5 ∷ 5 ∷ 5 ∷ 5 ∷ 5 ∷ 5 ∷ 5
    ∷ 4 ∷ 4 ∷ 5
    ∷ 34
    ∷ 0 ∷ 5 ∷ 4 ∷ 4 ∷ 3 ∷ 0 ∷ 34
    ∷ 2
    ∷ []
