-- Every event can be taken, with its effect, at each kind of post that has its device; and every number 2 to 17, 22 and 23 is given.
-- 01, 'Events' and 'Numbers returned', and 02, items 2 and 5, on a line that has a post of each ordinary kind and on one of their short forms: a table of histories
-- from the fresh line, each with one event more, its answer, and what it alters; one for both, and what is another at a short post beside it. That the rules
-- give these tables stands in proofs/Reached.antt.
-- Assumes nothing.
use Rattle.std.specs.Prelude.{ℕ, zero, suc, ◌+◌, ◌-◌, Bool, true, false, ◌&&◌, List, [], ◌∷◌, ◌++◌, eqb}
use Rattle.relay.specs.Choice.{pick}
use Rattle.relay.specs.Examples.{Event, ev, ev_at, then, fresh, after_all}
use Rattle.relay.specs.Line.{After, after, told, head}
use Rattle.relay.specs.Relays.{An, KPg, L, RL, lever, signal, W314, W241, jam, width, up, down}
use Rattle.relay.specs.Valid.{most_events}
use Rattle.relay.specs.declared.Post.{Post}

-- ---- what an event alters
-- the counts of a record by their places, and last its kind, which no event alters
abbrev pub numbers : Post → List ℕ
numbers p = p.a ∷ p.x ∷ p.y ∷ p.v ∷ p.g ∷ p.r ∷ p.q ∷ p.e ∷ p.c ∷ p.kind ∷ []

abbrev pub sent : ℕ
sent = 0

abbrev pub announcements_lost : ℕ
announcements_lost = 1

abbrev pub releases_lost : ℕ
releases_lost = 2

abbrev pub releases_received : ℕ
releases_received = 3

abbrev pub restorations : ℕ
restorations = 4

abbrev pub announcements_received : ℕ
announcements_received = 5

abbrev pub passages : ℕ
passages = 6

abbrev pub releases_sent : ℕ
releases_sent = 7

abbrev pub garage_releases : ℕ
garage_releases = 8

-- a number that is altered otherwise than by growing by 1: no row of the table has it
abbrev pub otherwise : ℕ
otherwise = 99

-- a post that is altered: the relays that rise, those that drop, the counts that grow by 1
pub record Altered : Type 0 where
  pub post : ℕ
  pub rises : List ℕ
  pub drops : List ℕ
  pub grows : List ℕ

abbrev pub altered : ℕ → List ℕ → List ℕ → List ℕ → Altered
altered i rs ds gs = record { post = i; rises = rs; drops = ds; grows = gs }

-- the numbers below n that pass a test, in order
unfoldable pub below : ℕ → (ℕ → Bool) → List ℕ
below zero f = []
below (suc n) f = below n f ++ pick (f n) (n ∷ []) []

-- which numbers of a list have grown in the next, from place k on
unfoldable pub grown : ℕ → List ℕ → List ℕ → List ℕ
grown k [] ys = []
grown k (x ∷ xs) [] = []
grown k (x ∷ xs) (y ∷ ys) = pick (eqb x y) [] (pick (eqb (x + 1) y) (k ∷ []) (otherwise ∷ [])) ++ grown (k + 1) xs ys

-- whether a list has nothing in it
abbrev pub none : List ℕ → Bool
none [] = true
none (x ∷ xs) = false

-- what became of post i
abbrev pub difference : ℕ → Post → Post → Altered
difference i p q =
    altered i (below width (λ k. down k p.word && up k q.word)) (below width (λ k. up k p.word && down k q.word))
    (grown 0 (numbers p) (numbers q))

-- the posts of a line that are altered, from post i on
unfoldable pub differences : ℕ → List Post → List Post → List Altered
differences i [] qs = []
differences i (p ∷ ps) [] = []
differences i (p ∷ ps) (q ∷ qs) =
    let d = difference i p q in
    pick (none d.rises && (none d.drops && none d.grows)) [] (d ∷ []) ++ differences (i + 1) ps qs

-- ---- the table
-- the answer to an event and the posts that it alters
pub record Outcome : Type 0 where
  pub answer : ℕ
  pub alters : List Altered

abbrev pub outcome : ℕ → List Altered → Outcome
outcome n ds = record { answer = n; alters = ds }

-- a history, with so many events taken before it, one event more, and its outcome
pub record Row : Type 0 where
  pub taken : ℕ
  pub before : List Event
  pub event : Event
  pub outcome : Outcome

abbrev pub row : List Event → Event → Outcome → Row
row es e o = record { taken = 0; before = es; event = e; outcome = o }

-- a row for each post or section of a list
unfoldable pub each : List ℕ → (ℕ → Row) → List Row
each [] f = []
each (i ∷ is) f = f i ∷ each is f

-- posts 0 to 4 are an origin, a station that blocks at the signal pedal, one that blocks at the announcement, an intermediate post and a terminus
abbrev pub line : List ℕ
line = 0 ∷ 2 ∷ 3 ∷ 4 ∷ 1 ∷ []

-- and the short forms of these
abbrev pub short_line : List ℕ
short_line = 0 ∷ 18 ∷ 19 ∷ 20 ∷ 17 ∷ []

abbrev pub every_post : List ℕ
every_post = 0 ∷ 1 ∷ 2 ∷ 3 ∷ 4 ∷ []

-- those with a section downstream, which is also every section
abbrev pub upstream : List ℕ
upstream = 0 ∷ 1 ∷ 2 ∷ 3 ∷ []

-- those with a section upstream
abbrev pub downstream : List ℕ
downstream = 1 ∷ 2 ∷ 3 ∷ 4 ∷ []

-- ---- histories
-- an announcement recorded at post i; a passage recorded there
abbrev pub recorded : ℕ → List Event
recorded i = ev 5 (i - 1) ∷ ev 8 (i - 1) ∷ []

abbrev pub passed : ℕ → List Event
passed i = recorded i ++ (ev 3 i ∷ [])

-- these events, and where post i is not the terminus an announcement sent onward from there
abbrev pub with_onward : ℕ → List Event → List Event
with_onward i es = pick (eqb i 4) es (es ++ (ev 5 i ∷ []))

-- what a release from there asks; a release from there under way
abbrev pub announced_on : ℕ → List Event
announced_on i = with_onward i (passed i)

abbrev pub released : ℕ → List Event
released i = announced_on i ++ (ev 6 i ∷ [])

-- ---- every event taken, at each kind that has its device
abbrev pub nothing : Outcome
nothing = outcome 0 []

-- one post altered
abbrev pub alters : ℕ → List ℕ → List ℕ → List ℕ → Outcome
alters i rs ds gs = outcome 0 (altered i rs ds gs ∷ [])

-- a release sent from post i, with these counts: 'An and KPg drop, W241 of the section upstream rises'
abbrev pub sends : ℕ → List ℕ → Outcome
sends i gs = outcome 0 (altered (i - 1) (W241 ∷ []) [] [] ∷ altered i [] (An ∷ KPg ∷ []) gs ∷ [])

-- in section i: an announcement received, a release received, an announcement lost
abbrev pub announcement_in : ℕ → Outcome
announcement_in i = outcome 0 (altered i [] (W314 ∷ []) [] ∷ altered (i + 1) (An ∷ []) [] (announcements_received ∷ []) ∷ [])

abbrev pub release_in : ℕ → Outcome
release_in i = alters i (L ∷ RL ∷ []) (W241 ∷ []) (releases_received ∷ [])

abbrev pub announcement_gone : ℕ → Outcome
announcement_gone i = alters i [] (W314 ∷ []) (announcements_lost ∷ [])

unfoldable pub taken : List Row
taken =
    -- 1. 'signal opens'
    each every_post (λ i. row [] (ev 1 i) (alters i (lever ∷ signal ∷ []) [] []))
    -- 2. 'signal closes'
    ++ each every_post (λ i. row (ev 1 i ∷ []) (ev 2 i) (alters i [] (lever ∷ signal ∷ []) []))
    -- 3. 'if An is up and KPg down, KPg rises and q grows by 1. Otherwise taken with no effect.'
    ++ each downstream (λ i. row (recorded i) (ev 3 i) (alters i (KPg ∷ []) [] (passages ∷ [])))
    ++ each downstream (λ i. row (passed i) (ev 3 i) nothing)
    -- 4. 'if the lever is reversed, the signal closes, and at kinds 0 and 2 L drops. With a normal lever, taken with no effect.'
    ++ each (0 ∷ 1 ∷ []) (λ i. row (ev 1 i ∷ []) (ev 4 i) (alters i [] (L ∷ signal ∷ []) []))
    ++ each (4 ∷ []) (λ i. row (ev 1 i ∷ []) (ev 4 i) (alters i [] (signal ∷ []) []))
    ++ each (0 ∷ 1 ∷ 4 ∷ []) (λ i. row [] (ev 4 i) nothing)
    -- 5. 'RL and L drop, W314 rises, a grows by 1.'
    ++ each upstream (λ i. row [] (ev 5 i) (alters i (W314 ∷ []) (L ∷ RL ∷ []) (sent ∷ [])))
    -- 6. 'An and KPg drop, W241 of the section upstream rises, e grows by 1.'
    ++ each downstream (λ i. row (announced_on i) (ev 6 i) (sends i (releases_sent ∷ [])))
    -- 7. 'As 6, and c grows by 1.'
    ++ each (1 ∷ 2 ∷ []) (λ i. row (passed i) (ev 7 i) (sends i (releases_sent ∷ garage_releases ∷ [])))
    -- 8. 'W314: it drops, An downstream rises, r grows by 1. W241: it drops, L and RL rise, v grows by 1.'
    ++ each upstream (λ i. row (ev 5 i ∷ []) (ev 8 i) (announcement_in i))
    ++ each upstream (λ i. row (released (i + 1)) (ev 8 i) (release_in i))
    -- 9. 'The signal under way drops; x or y grows by 1.'
    ++ each upstream (λ i. row (ev 5 i ∷ []) (ev 9 i) (announcement_gone i))
    ++ each upstream (λ i. row (released (i + 1)) (ev 9 i) (alters i [] (W241 ∷ []) (releases_lost ∷ [])))
    -- 10. 'L and RL rise, g grows by 1.'
    ++ each upstream (λ i. row (ev 5 i ∷ ev 9 i ∷ []) (ev 10 i) (alters i (L ∷ RL ∷ []) [] (restorations ∷ [])))
    ++ each upstream (λ i. row (released (i + 1) ++ (ev 9 i ∷ [])) (ev 10 i) (alters i (L ∷ RL ∷ []) [] (restorations ∷ [])))
    -- 11 and 12, 'the jam is bit 8 of the relay word': nothing else moves, An and KPg up or down
    ++ each downstream (λ i. row [] (ev 11 i) (alters i (jam ∷ []) [] []))
    ++ each downstream (λ i. row (passed i) (ev 11 i) (alters i (jam ∷ []) [] []))
    ++ each downstream (λ i. row (ev 11 i ∷ []) (ev 12 i) (alters i [] (jam ∷ []) []))
    -- 8. 'An announcement arriving at a jammed post clears from the circuit and is counted in x; An stays down.'
    ++ each upstream (λ i. row (ev 11 (i + 1) ∷ ev 5 i ∷ []) (ev 8 i) (announcement_gone i))
    -- a release that arrives is received, the button jammed or not
    ++ each upstream (λ i. row (released (i + 1) ++ (ev 11 (i + 1) ∷ [])) (ev 8 i) (release_in i))
    -- freed, the post releases what it had recorded, and records what arrives
    ++ each downstream (λ i. row (announced_on i ++ (ev 11 i ∷ ev 12 i ∷ [])) (ev 6 i) (sends i (releases_sent ∷ [])))
    ++ each upstream (λ i. row (ev 11 (i + 1) ∷ ev 12 (i + 1) ∷ ev 5 i ∷ []) (ev 8 i) (announcement_in i))

-- ---- every number 2 to 17, 22 and 23 given
abbrev pub refused : ℕ → Outcome
refused n = outcome n []

-- event n of a fresh line refused
abbrev pub at_once : ℕ → ℕ → ℕ → Row
at_once k n i = row [] (ev n i) (refused k)

unfoldable pub refusals : List Row
refusals =
    -- 'no such post, or no such section for 8, 9, 10'
    each (1 ∷ 2 ∷ 3 ∷ 4 ∷ 5 ∷ 6 ∷ 7 ∷ 11 ∷ 12 ∷ []) (λ n. at_once 2 n 5)
    ++ each (8 ∷ 9 ∷ 10 ∷ []) (λ n. at_once 2 n 4)
    -- 'event number not 1 to 10', and 'events 11 and 12 no longer get 3'
    ++ each (0 ∷ 13 ∷ []) (λ n. at_once 3 n 0)
    -- 'stamp behind the last'
    ++ (row (ev_at 1 0 1000 ∷ []) (ev_at 2 0 999) (refused 4) ∷ [])
    -- '1,000,000 events already taken': on a line with so many taken, since no history of that length is computed
    ++ (record { taken = most_events; before = []; event = ev 1 0; outcome = refused 5 } ∷ [])
    -- '3 at kind 0; 4 at kinds 3 and 4; 5 at kind 1; 6 at kind 0; 7 at kinds 0, 1 and 4', 11 and 12 'at the origin'
    ++ (at_once 6 3 0 ∷ at_once 6 4 2 ∷ at_once 6 4 3 ∷ at_once 6 5 4 ∷ at_once 6 6 0 ∷ at_once 6 7 0 ∷ at_once 6 7 4 ∷ at_once 6 7 3 ∷ at_once 6 11 0 ∷ at_once 6 12 0 ∷ [])
    -- '22 for events 6, 7 and 11 at a jammed post', with An down or up, '23 for 12 at a free one'; 6 goes before them
    ++ each downstream (λ i. row (ev 11 i ∷ []) (ev 6 i) (refused 22))
    ++ each (1 ∷ 2 ∷ []) (λ i. row (ev 11 i ∷ []) (ev 7 i) (refused 22))
    ++ each downstream (λ i. row (announced_on i ++ (ev 11 i ∷ [])) (ev 6 i) (refused 22))
    ++ each (1 ∷ 2 ∷ []) (λ i. row (passed i ++ (ev 11 i ∷ [])) (ev 7 i) (refused 22))
    ++ each downstream (λ i. row (ev 11 i ∷ []) (ev 11 i) (refused 22))
    ++ each downstream (λ i. at_once 23 12 i)
    ++ each (3 ∷ 4 ∷ []) (λ i. row (ev 11 i ∷ []) (ev 7 i) (refused 6))
    -- 'if already reversed', 'if already normal'
    ++ each every_post (λ i. row (ev 1 i ∷ []) (ev 1 i) (refused 7))
    ++ each every_post (λ i. at_once 7 2 i)
    -- 'if L is down'
    ++ each upstream (λ i. row (ev 5 i ∷ []) (ev 1 i) (refused 8))
    -- 'if RL is down'
    ++ each upstream (λ i. row (ev 5 i ∷ []) (ev 5 i) (refused 9))
    -- 'if the lever is reversed'
    ++ each upstream (λ i. row (ev 1 i ∷ []) (ev 5 i) (refused 10))
    ++ (row (passed 4 ++ (ev 1 4 ∷ [])) (ev 6 4) (refused 10) ∷ [])
    -- 'if An is down', 'if KPg is down'
    ++ each downstream (λ i. at_once 11 6 i)
    ++ each (1 ∷ 2 ∷ []) (λ i. at_once 11 7 i)
    ++ each downstream (λ i. row (recorded i) (ev 6 i) (refused 12))
    ++ each (1 ∷ 2 ∷ []) (λ i. row (recorded i) (ev 7 i) (refused 12))
    -- 'if RL is up (kinds 2, 3, 4)'
    ++ each (1 ∷ 2 ∷ 3 ∷ []) (λ i. row (passed i) (ev 6 i) (refused 13))
    -- 'if nothing is under way'
    ++ each upstream (λ i. at_once 14 8 i)
    ++ each upstream (λ i. at_once 14 9 i)
    -- 'if RL is up, 16 if a signal is under way, 17 if An downstream is up'
    ++ each upstream (λ i. at_once 15 10 i)
    ++ each upstream (λ i. row (ev 5 i ∷ []) (ev 10 i) (refused 16))
    ++ each upstream (λ i. row (released (i + 1)) (ev 10 i) (refused 16))
    ++ each upstream (λ i. row (recorded (i + 1)) (ev 10 i) (refused 17))

-- the table of both lines
abbrev pub table : List Row
table = taken ++ refusals

-- ---- an early strike
-- 'An early strike is lost': before the announcement is sent, and while it is under way; so a release is refused 12
unfoldable pub early_lost : List Row
early_lost =
    each downstream (λ i. row [] (ev 3 i) nothing)
    ++ each downstream (λ i. row (ev 5 (i - 1) ∷ []) (ev 3 i) nothing)
    ++ each downstream (λ i. row (ev 3 i ∷ recorded i) (ev 6 i) (refused 12))

-- but at a short post, where 'event 3 asks only that KPg be down'
unfoldable pub early_counts : List Row
early_counts =
    each downstream (λ i. row [] (ev 3 i) (alters i (KPg ∷ []) [] (passages ∷ [])))
    ++ each downstream (λ i. row (ev 5 (i - 1) ∷ []) (ev 3 i) (alters i (KPg ∷ []) [] (passages ∷ [])))
    -- a second strike is not counted, nor one after the announcement
    ++ each downstream (λ i. row (ev 3 i ∷ []) (ev 3 i) nothing)
    ++ each downstream (λ i. row (ev 3 i ∷ recorded i) (ev 3 i) nothing)
    -- 'refused 11 if An is down', also where KPg is up
    ++ each downstream (λ i. row (ev 3 i ∷ []) (ev 6 i) (refused 11))
    ++ each (1 ∷ 2 ∷ []) (λ i. row (ev 3 i ∷ []) (ev 7 i) (refused 11))
    -- the announcement arrives, or is lost to a jam, and the passage waits
    ++ each upstream (λ i. row (ev 3 (i + 1) ∷ ev 5 i ∷ []) (ev 8 i) (announcement_in i))
    ++ each upstream (λ i. row (ev 3 (i + 1) ∷ ev 11 (i + 1) ∷ ev 5 i ∷ []) (ev 8 i) (announcement_gone i))
    -- a release follows it
    ++ each downstream (λ i. row (with_onward i (ev 3 i ∷ recorded i)) (ev 6 i) (sends i (releases_sent ∷ [])))
    ++ each (1 ∷ 2 ∷ []) (λ i. row (ev 3 i ∷ recorded i) (ev 7 i) (sends i (releases_sent ∷ garage_releases ∷ [])))

-- ---- what the rules make of it
-- the fresh line of these kinds, with so many events taken
abbrev pub started : List ℕ → ℕ → After
started ks n = after (told 0 (head n 0)) (fresh ks).line

abbrev pub seen : After → Event → Outcome
seen a e = outcome (then e a).told.answer (differences 0 a.line (then e a).line)

-- the outcome that the rules give each row on a line of these kinds, and the one that it states
unfoldable pub outcomes : List ℕ → List Row → List Outcome
outcomes ks [] = []
outcomes ks (r ∷ rs) = seen (after_all r.before (started ks r.taken)) r.event ∷ outcomes ks rs

unfoldable pub stated : List Row → List Outcome
stated [] = []
stated (r ∷ rs) = r.outcome ∷ stated rs
