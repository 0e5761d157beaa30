-- Events on two tracks with their answers, on polarised and on vibrated current. 02, item 7.
-- Which sections face each other is written out here, by the numbers. That the rules give these answers stands in proofs/Examples.antt.
-- Assumes nothing.
use Rattle.std.specs.Prelude.{ℕ, ◌+◌, ◌-◌, Bool, true, false, ◌&&◌, List, [], ◌∷◌, ◌++◌, eqb}
use Rattle.relay.specs.Examples.{ev, ev_at, blanks}
use Rattle.relay.specs.Posts.{at}
use Rattle.history.specs.Examples.{answers}
use Rattle.history.specs.History.{announcements_sent}
use Rattle.tracks.specs.Circuit.{polarised, vibrated, start_two, event_two}
use Rattle.tracks.specs.Desk.{Desk, Asked, Session, given, step, run, begun, only}

-- an event: its track, number and place, and its answer on polarised and on vibrated current
pub record Shown : Type 0 where
  pub track : ℕ
  pub number : ℕ
  pub post : ℕ
  pub on_polarised : ℕ
  pub on_vibrated : ℕ

abbrev pub row : ℕ → ℕ → ℕ → ℕ → ℕ → Shown
row a n i p v = record { track = a; number = n; post = i; on_polarised = p; on_vibrated = v }

-- taken on both
abbrev pub both : ℕ → ℕ → ℕ → Shown
both a n i = row a n i 0 0

abbrev pub asked : Shown → Asked
asked r = record { track = r.track; event = ev r.number r.post }

unfoldable pub all_asked : List Shown → List Asked
all_asked [] = []
all_asked (r ∷ rs) = asked r ∷ all_asked rs

-- a session on two fresh tracks of these kinds
abbrev pub fresh : ℕ → List ℕ → List ℕ → Session
fresh c ks js = begun c (blanks ks) (blanks js) ks js 0

-- each event of a list has the answer of the column
unfoldable pub all_right : (Shown → ℕ) → List Shown → Session → Bool
all_right column [] w = true
all_right column (r ∷ rs) w =
    eqb (given (asked r) w.desk).told.answer (column r) && all_right column rs (step (asked r) w)

-- ---- track a is met in its section s by a signal in the section f of the other track, b
pub record Place : Type 0 where
  pub a : ℕ
  pub s : ℕ
  pub f : ℕ

abbrev pub place : ℕ → ℕ → ℕ → Place
place a s f = record { a = a; s = s; f = f }

-- the other track
abbrev pub b : Place → ℕ
b x = 1 - x.a

-- an announcement of the other is under way; it arrives
abbrev pub coming : Place → List Shown
coming x = both (b x) 5 x.f ∷ []

abbrev pub gone : Place → List Shown
gone x = both (b x) 8 x.f ∷ []

-- 5 is given 10 while the lever is reversed, then 25 until the other's has arrived; on vibrated current it is taken at once, and a second finds RL down
abbrev pub announcing : Place → List Shown
announcing x =
    coming x
    ++ (both x.a 1 x.s ∷ row x.a 5 x.s 10 10 ∷ both x.a 2 x.s ∷ row x.a 5 x.s 25 0 ∷ gone x)
    ++ (row x.a 5 x.s 0 9 ∷ [])

-- the same of 5, met by the release that event n sends
abbrev pub announcing_back : ℕ → Place → List Shown
announcing_back n x =
    (both (b x) 5 x.f ∷ both (b x) 8 x.f ∷ both (b x) 3 (x.f + 1) ∷ both (b x) n (x.f + 1) ∷ [])
    ++ (row x.a 5 x.s 25 0 ∷ gone x)
    ++ (row x.a 5 x.s 0 9 ∷ [])

-- an announcement is recorded at the post downstream of section s
abbrev pub recorded : Place → List Shown
recorded x = both x.a 5 x.s ∷ both x.a 8 x.s ∷ []

-- between the ends 6 asks that the train be announced onward; nothing else is asked
abbrev pub onward : Place → List Shown
onward x = both x.a 5 (x.s + 1) ∷ both x.a 8 (x.s + 1) ∷ []

abbrev pub at_once : Place → List Shown
at_once x = []

-- the release n there is given 12 before the passage, then 25 until the other's announcement has arrived; on vibrated current it is taken at once, and a second finds An down
abbrev pub releasing : ℕ → (Place → List Shown) → Place → List Shown
releasing n before x =
    recorded x
    ++ before x
    ++ coming x
    ++ (row x.a n (x.s + 1) 12 12 ∷ both x.a 3 (x.s + 1) ∷ row x.a n (x.s + 1) 25 0 ∷ gone x)
    ++ (row x.a n (x.s + 1) 0 11 ∷ [])

-- ---- the tables
-- an example at each of some places is right on both currents, on fresh tracks of the kinds ks and js
unfoldable pub each_right : List ℕ → List ℕ → (Place → List Shown) → List Place → Bool
each_right ks js shown [] = true
each_right ks js shown (x ∷ xs) =
    all_right (λ r. r.on_polarised) (shown x) (fresh polarised ks js)
    && (all_right (λ r. r.on_vibrated) (shown x) (fresh vibrated ks js) && each_right ks js shown xs)

-- the places of each track: in its first section, between, in its last
pub record Places : Type 0 where
  pub first : List Place
  pub between : List Place
  pub last : List Place

-- four posts: sections 0 and 2 face each other, and 1 itself
abbrev pub four : Places
four =
    record {
      first = place 0 0 2 ∷ place 1 0 2 ∷ [];
      between = place 0 1 1 ∷ place 1 1 1 ∷ [];
      last = place 0 2 0 ∷ place 1 2 0 ∷ [];
    }

-- five posts: sections 0 and 3, 1 and 2
abbrev pub five : Places
five =
    record {
      first = place 0 0 3 ∷ place 1 0 3 ∷ [];
      between = place 0 1 2 ∷ place 0 2 1 ∷ place 1 1 2 ∷ place 1 2 1 ∷ [];
      last = place 0 3 0 ∷ place 1 3 0 ∷ [];
    }

-- two posts: section 0 faces itself
abbrev pub two : List Place
two = place 0 0 0 ∷ place 1 0 0 ∷ []

-- 5 and 6 everywhere, 7 at the stations, met by an announcement; and 5 met by a release, from the terminus or a station
unfoldable pub table_right : List ℕ → List ℕ → Places → Bool
table_right ks js x =
    each_right ks js announcing (x.first ++ x.between ++ x.last)
    && (each_right ks js (releasing 6 onward) (x.first ++ x.between)
    && (each_right ks js (releasing 6 at_once) x.last
    && (each_right ks js (releasing 7 at_once) (x.first ++ x.between)
    && (each_right ks js (announcing_back 6) x.first && each_right ks js (announcing_back 7) (x.between ++ x.last)))))

-- of two posts both are ends
unfoldable pub ends_right : List ℕ → List Place → Bool
ends_right ks xs =
    each_right ks ks announcing xs && (each_right ks ks (releasing 6 at_once) xs && each_right ks ks (announcing_back 6) xs)

-- the kinds of the two tracks of four posts, and of five
abbrev pub four_first : List ℕ
four_first = 0 ∷ 2 ∷ 3 ∷ 1 ∷ []

abbrev pub four_second : List ℕ
four_second = 0 ∷ 3 ∷ 18 ∷ 1 ∷ []

abbrev pub five_first : List ℕ
five_first = 0 ∷ 2 ∷ 3 ∷ 2 ∷ 17 ∷ []

abbrev pub five_second : List ℕ
five_second = 0 ∷ 3 ∷ 2 ∷ 19 ∷ 1 ∷ []

-- ---- what is answered 1, 3 and 2
-- the answer on starting tracks of two tables with a circuit kind
abbrev pub started : ℕ → List ℕ → List ℕ → ℕ
started c ks js = (start_two c (blanks ks) (blanks js) ks js 0).told.answer

-- on both circuits; with a circuit that is not 0 or 1, with tables of two lengths, and with either table wrong
abbrev pub starts : List ℕ
starts =
    started 0 four_first four_second
    ∷ started 1 four_first four_second
    ∷ started 2 four_first four_second
    ∷ started 0 four_first five_second
    ∷ started 1 (0 ∷ 0 ∷ []) (0 ∷ 1 ∷ [])
    ∷ started 1 (0 ∷ 1 ∷ []) (0 ∷ 0 ∷ [])
    ∷ []

abbrev pub starts_answers : List ℕ
starts_answers = 0 ∷ 0 ∷ 1 ∷ 1 ∷ 1 ∷ 1 ∷ []

-- the answer to event n at post 0 of track a, on a desk with circuit c in place of its own
abbrev pub answered : ℕ → ℕ → ℕ → Desk → ℕ
answered c a n d = (event_two c d.first d.second d.head a n 0 0).told.answer

-- both tracks have a signal under way between the same two posts, which vibrated current allows
abbrev pub crossing : List Asked
crossing = asked (both 0 5 1) ∷ asked (both 1 5 1) ∷ []

abbrev pub crossed : Desk
crossed = (run crossing (fresh vibrated four_first four_second)).desk

-- a track that is neither, and with a number that is no event's; with a circuit that is not 0 or 1, on a track that is neither and on one that is; and with signals
-- that cross, on vibrated and on polarised current
abbrev pub neither : List ℕ
neither =
    answered 0 2 1 (fresh 0 four_first four_second).desk
    ∷ answered 0 2 13 (fresh 0 four_first four_second).desk
    ∷ answered 2 2 13 (fresh 0 four_first four_second).desk
    ∷ answered 2 0 1 (fresh 0 four_first four_second).desk
    ∷ answered 1 0 1 crossed
    ∷ answered 0 0 1 crossed
    ∷ answered 0 1 1 crossed
    ∷ []

abbrev pub neither_answers : List ℕ
neither_answers = 2 ∷ 3 ∷ 1 ∷ 1 ∷ 0 ∷ 1 ∷ 1 ∷ []

-- ---- a session on vibrated current with events on both tracks and on neither, none answered 4 or 5
abbrev pub mixed : List Asked
mixed = all_asked (releasing 7 at_once (place 0 1 1) ++ (row 2 5 0 2 2 ∷ row 7 13 0 3 3 ∷ both 1 3 2 ∷ both 1 7 2 ∷ []))

abbrev pub mixed_end : Session
mixed_end = run mixed (fresh vibrated four_first four_second)

-- what each track of it sent in its section 1, by its entries and by its records
abbrev pub counted : List ℕ
counted =
    announcements_sent 1 (only false mixed_end.history)
    ∷ (at mixed_end.desk.first 1).a
    ∷ announcements_sent 1 (only true mixed_end.history)
    ∷ (at mixed_end.desk.second 1).a
    ∷ []

-- the same with a stamp of track 2 ahead of one of track 1: that is answered 4, and with track 2's left out it is taken
abbrev pub ahead : List Asked
ahead = record { track = 1; event = ev_at 1 0 5 } ∷ record { track = 0; event = ev_at 1 0 3 } ∷ []

-- the answers of track 1
abbrev pub first_answers : List Asked → List ℕ
first_answers xs = answers (only false (run xs (fresh vibrated four_first four_second)).history)
