-- The line: started from a table, and altered by one event. 01, 'Events', 'Numbers returned', 'One post's relays'.
-- Assumes nothing.
use Rattle.std.specs.Prelude.{ℕ, ◌+◌, ◌-◌, Bool, not, ◌&&◌, ◌||◌, ◌≡◌, List, [], ◌∷◌, eqb, ltb, leb, length, set}
use Rattle.relay.specs.Answers.{taken, notValid, noSuchPlace, noSuchEvent, stampBehind, sessionFull}
use Rattle.relay.specs.Choice.{pick, grown}
use Rattle.relay.specs.Clock.{behind}
use Rattle.relay.specs.Events.{pair, refusal, changed}
use Rattle.relay.specs.Kinds.{table_ok}
use Rattle.relay.specs.Posts.{fresh_post, at}
use Rattle.relay.specs.Valid.{valid, most_events}
use Rattle.relay.specs.declared.Head.{Head}
use Rattle.relay.specs.declared.Pair.{Pair}
use Rattle.relay.specs.declared.Post.{Post}
use Rattle.relay.specs.declared.Told.{Told}

-- a session head: events taken so far, last stamp
abbrev pub head : ℕ → ℕ → Head
head n t = record { taken = n; last = t }

-- what a call returns: its number and the head
abbrev pub told : ℕ → Head → Told
told n s = record { answer = n; head = s }

-- what a call returns, and the line that it leaves
pub record After : Type 0 where
  pub told : Told
  pub line : List Post

abbrev pub after : Told → List Post → After
after t l = record { told = t; line = l }

-- ---- starting
-- 'L and RL up at all posts but the terminus, everything else down, counts zero'
unfoldable pub fresh_line : List ℕ → List Post
fresh_line [] = []
fresh_line (k ∷ ks) = fresh_post k ∷ fresh_line ks

-- 1: 'the table of kinds wrong or N outside 2 to 32; on starting, row and table of different lengths'
unfoldable pub startable : List Post → List ℕ → Bool
startable l ks = eqb (length l) (length ks) && table_ok ks

-- 'events taken 0, last stamp as given. A refused start leaves the row as lent and returns a head of zeros.'
unfoldable pub start_of : List Post → List ℕ → ℕ → After
start_of l ks t = pick (startable l ks) (after (told taken (head 0 t)) (fresh_line ks)) (after (told notValid (head 0 0)) l)

-- ---- one event: its number n, the post or section i that it names, its stamp t
-- the events are numbered from 1 to this
abbrev pub last_event : ℕ
last_event = 12

-- 'event number not 1 to 10'; 02, item 2: 'events 11 and 12 no longer get 3'
unfoldable pub numbered : ℕ → Bool
numbered n = leb 1 n && leb n last_event

-- events 8, 9 and 10 name a section
unfoldable pub names_section : ℕ → Bool
names_section n = eqb n 8 || eqb n 9 || eqb n 10

-- 'no such post, or no such section for 8, 9, 10': section i lies between the posts i and i + 1
unfoldable pub present : ℕ → ℕ → ℕ → Bool
present m n i = pick (names_section n) (ltb (i + 1) m) (ltb i m)

-- the one neighbour that the event may alter: downstream of a section's upstream post, else upstream; post 0 has none upstream
unfoldable pub neighbour : ℕ → ℕ → ℕ
neighbour n i = pick (names_section n || eqb i 0) (i + 1) (i - 1)

-- 3, 2, 5, 4, in this order, on a line of m posts
unfoldable pub gate : ℕ → Head → ℕ → ℕ → ℕ → ℕ
gate m s n i t =
    pick (not (numbered n)) noSuchEvent
    (pick (not (present m n i)) noSuchPlace
    (pick (leb most_events s.taken) sessionFull
    (pick (behind s.last t) stampBehind 0)))

-- 'Order for an event: 1, 3, 2, 5, 4, 6, then the event's own list'; 22 and 23 'right after 6'
unfoldable pub answer_of : List Post → Head → ℕ → ℕ → ℕ → ℕ
answer_of l s n i t =
    pick (not (valid l s)) notValid
    (pick (not (eqb (gate (length l) s n i t) 0)) (gate (length l) s n i t)
    (refusal n (at l i).kind (at l i).word (at l (neighbour n i)).word))

-- the line with what the event makes of the post named and of its neighbour
unfoldable pub changed_line : List Post → ℕ → ℕ → List Post
changed_line l n i =
    set (set l i (changed n (at l i) (at l (neighbour n i))).here) (neighbour n i)
    (changed n (at l i) (at l (neighbour n i))).other

-- 'An event taken adds 1 to the events taken and sets the last stamp. A refused event does neither.'
unfoldable pub event_of : List Post → Head → ℕ → ℕ → ℕ → After
event_of l s n i t =
    pick (eqb (answer_of l s n i t) taken)
    (after (told taken (head (grown s.taken) t)) (changed_line l n i))
    (after (told (answer_of l s n i t) s) l)

-- ---- the same at the two posts alone, once 1, 3, 2, 5 and 4 are past: what is returned, and the two posts afterwards
pub record Worked : Type 0 where
  pub told : Told
  pub here : Post
  pub other : Post

abbrev pub worked : Told → Pair → Worked
worked t b = record { told = t; here = b.here; other = b.other }

unfoldable pub work_of : Head → ℕ → ℕ → Post → Post → Worked
work_of s n t p o =
    pick (eqb (refusal n p.kind p.word o.word) taken)
    (worked (told taken (head (grown s.taken) t)) (changed n p o))
    (worked (told (refusal n p.kind p.word o.word) s) (pair p o))

-- ---- what the public calls state: r is what is returned, l' the line as it is left
abbrev pub Gives : After → Told → List Post → Type 0
Gives a r l' = (r ≡ a.told) × (l' ≡ a.line)
