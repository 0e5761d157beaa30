-- Two tracks over one circuit. 02, item 7: when they may be used together, how they are started, and one event on either.
-- l is the line of the track that is spoken of, k the other's, c the circuit kind, s the common head: both tracks are read by these definitions, and only `event_two` says which is which.
-- Assumes nothing.
use Rattle.std.specs.Prelude.{ℕ, zero, suc, ◌-◌, ◌≡◌, Bool, true, not, ◌&&◌, ◌||◌, List, eqb, length}
use Rattle.relay.specs.Answers.{taken, notValid, noSuchPlace, noSuchEvent}
use Rattle.relay.specs.Choice.{pick, requires}
use Rattle.relay.specs.Events.{pair, refusal}
use Rattle.relay.specs.Line.{After, after, head, told, fresh_line, startable, numbered, answer_of, event_of, worked, work_of, Worked}
use Rattle.relay.specs.Posts.{at}
use Rattle.relay.specs.Relays.{W314, W241, up}
use Rattle.relay.specs.Valid.{valid}
use Rattle.relay.specs.declared.Head.{Head}
use Rattle.relay.specs.declared.Post.{Post}
use Rattle.relay.specs.declared.Told.{Told}

-- ---- the circuit
-- 'the circuit kind (0 polarised, 1 vibrated)'
abbrev pub polarised : ℕ
polarised = 0

abbrev pub vibrated : ℕ
vibrated = 1

unfoldable pub circuit_ok : ℕ → Bool
circuit_ok c = eqb c polarised || eqb c vibrated

-- '25 when the shared circuit is busy'
abbrev pub circuit_busy : ℕ
circuit_busy = 25

-- a signal is under way in the section downstream of a post with the word w
unfoldable pub on_wire : ℕ → Bool
on_wire w = up W314 w || up W241 w

-- in section s of a line
unfoldable pub busy : List Post → ℕ → Bool
busy l s = on_wire (at l s).word

-- 'the second numbered the other way': of m posts, the section of the other track between the same two posts as section s
unfoldable pub facing : ℕ → ℕ → ℕ
facing m s = m - 2 - s

-- 'With polarised and coded emissions only one signal can be under way between two neighbouring posts, whichever track it serves': w and z are the words at the
-- head of two sections that face each other
unfoldable pub clear : ℕ → ℕ → Bool
clear w z = not (on_wire w && on_wire z)

-- so in the sections below n
unfoldable pub apart : List Post → List Post → ℕ → Bool
apart l k zero = true
apart l k (suc s) = clear (at l s).word (at k (facing (length l) s)).word && apart l k s

-- two tracks that may be used together: 'The same posts carry track 1 and track 2', each with the common head. 'With vibrated current (111 Hz for track 1,
-- 166 Hz for track 2) both may be' under way
unfoldable pub valid_two : ℕ → List Post → List Post → Head → Bool
valid_two c l k s =
    circuit_ok c
    && (valid l s
    && (valid k s && (eqb (length l) (length k) && requires (eqb c polarised) (apart l k (length l - 1)))))

-- what `valid_two` asks but that the track's own line may be used
unfoldable pub beside_ok : ℕ → List Post → List Post → Head → Bool
beside_ok c l k s =
    circuit_ok c && (valid k s && (eqb (length l) (length k) && requires (eqb c polarised) (apart l k (length l - 1))))

-- ---- one event on a track
-- 'for events 5, 6 and 7': they send a signal
unfoldable pub sends : ℕ → Bool
sends n = eqb n 5 || (eqb n 6 || eqb n 7)

-- 5 in the section downstream of post i, 6 and 7 in the one upstream
unfoldable pub sends_in : ℕ → ℕ → ℕ
sends_in n i = pick (eqb n 5) i (i - 1)

-- the other track's post at the head of the section that faces it, of m; 0 for an event that sends none
unfoldable pub facing_of : ℕ → ℕ → ℕ → ℕ
facing_of m n i = pick (sends n) (facing m (sends_in n i)) 0

-- the circuit is busy for event n, w being the word of that post
unfoldable pub hinders : ℕ → ℕ → ℕ → Bool
hinders c n w = eqb c polarised && (sends n && on_wire w)

-- for event n at i beside the other track's line
unfoldable pub met : ℕ → List Post → ℕ → ℕ → Bool
met c k n i = hinders c n (at k (facing_of (length k) n i)).word

-- 'after their own lists': b is asked only where the list, with m, refuses nothing
unfoldable pub at_last : ℕ → Bool → Bool
at_last m b = eqb m taken && b

-- '25 when the shared circuit is busy, for events 5, 6 and 7, after their own lists': in place of a 0 alone
unfoldable pub answer_on : ℕ → List Post → List Post → Head → ℕ → ℕ → ℕ → ℕ
answer_on c l k s n i t =
    pick (not (valid_two c l k s)) notValid
    (pick (at_last (answer_of l s n i t) (met c k n i)) circuit_busy (answer_of l s n i t))

-- the track's own event, unless it is refused here
unfoldable pub event_on : ℕ → List Post → List Post → Head → ℕ → ℕ → ℕ → After
event_on c l k s n i t =
    pick (eqb (answer_on c l k s n i t) taken) (event_of l s n i t) (after (told (answer_on c l k s n i t) s) l)

-- the answer at the post named, its neighbour and the facing post alone, once 1, 3, 2, 5 and 4 are past: k is the kind and w the word of the post named, z and v the words of the others
unfoldable pub refusal_beside : ℕ → ℕ → ℕ → ℕ → ℕ → ℕ → ℕ
refusal_beside c n k w z v = pick (at_last (refusal n k w z) (hinders c n v)) circuit_busy (refusal n k w z)

-- the same with the posts that it leaves
unfoldable pub work_on : ℕ → Head → ℕ → ℕ → Post → Post → ℕ → Worked
work_on c s n t p o w =
    pick (at_last (work_of s n t p o).told.answer (hinders c n w))
    (worked (told circuit_busy s) (pair p o))
    (work_of s n t p o)

-- ---- both tracks
-- what a call returns, and the two lines that it leaves
pub record AfterTwo : Type 0 where
  pub told : Told
  pub first : List Post
  pub second : List Post

abbrev pub after_two : Told → List Post → List Post → AfterTwo
after_two t l k = record { told = t; first = l; second = k }

-- what is done on a track beside the line k: the other row stays
abbrev pub beside : After → List Post → AfterTwo
beside a k = after_two a.told a.line k

-- the same with the tracks the other way round
abbrev pub turned : AfterTwo → AfterTwo
turned a = after_two a.told a.second a.first

-- an event on a track that is neither names no post: 3 for a number that is no event's, else 2
unfoldable pub no_track : ℕ → ℕ
no_track n = pick (not (numbered n)) noSuchEvent noSuchPlace

-- 1 before both
unfoldable pub nowhere : ℕ → List Post → List Post → Head → ℕ → ℕ
nowhere c l k s n = pick (not (valid_two c l k s)) notValid (no_track n)

-- 'the track (0 for track 1)', 1 for track 2
abbrev pub track_one : ℕ
track_one = 0

abbrev pub track_two : ℕ
track_two = 1

-- event n at i of a track, with stamp t
unfoldable pub event_two : ℕ → List Post → List Post → Head → ℕ → ℕ → ℕ → ℕ → AfterTwo
event_two c l k s track n i t =
    pick (eqb track track_one) (beside (event_on c l k s n i t) k)
    (pick (eqb track track_two) (turned (beside (event_on c k l s n i t) l))
    (after_two (told (nowhere c l k s n) s) l k))

-- ---- starting
-- the rows l and k may be started from the tables ks and js: each by itself, as many posts, and a circuit kind
unfoldable pub startable_two : ℕ → List Post → List Post → List ℕ → List ℕ → Bool
startable_two c l k ks js = circuit_ok c && (startable l ks && (startable k js && eqb (length ks) (length js)))

-- both lines fresh under one head; refused, both rows are as lent and the head is of zeros
unfoldable pub start_two : ℕ → List Post → List Post → List ℕ → List ℕ → ℕ → AfterTwo
start_two c l k ks js t =
    pick (startable_two c l k ks js)
    (after_two (told taken (head 0 t)) (fresh_line ks) (fresh_line js))
    (after_two (told notValid (head 0 0)) l k)

-- ---- what the public calls state: r is what is returned, l' and k' the lines as they are left
abbrev pub GivesTwo : AfterTwo → Told → List Post → List Post → Type 0
GivesTwo a r l' k' = (r ≡ a.told) × (l' ≡ a.first) × (k' ≡ a.second)
