-- The numbers returned to an event and on starting, by the number. 01, 'Numbers returned': 'No. | Given exactly when', the refusals that 'Events' names, and 02, items 2 and 5.
-- A second reading of the paper: specs/Events.antt goes by the event and says which number it is given; this goes by the number and says
-- which events are given it, at which kinds and with which relays. It is typed from the paper's table and lists, with the paper's own numbers,
-- and cites none of the refusals there. That the two agree stands in proofs/Given.antt.
-- Assumes nothing.
use Rattle.std.specs.Prelude.{ℕ, ◌+◌, ◌-◌, ◌%◌, ◌^◌, Bool, false, not, ◌&&◌, ◌||◌, List, [], ◌∷◌, eqb, ltb, leb, length}
use Rattle.relay.specs.Choice.{pick}
use Rattle.relay.specs.Examples.{lacks_table, listed}
use Rattle.relay.specs.Posts.{at}
use Rattle.relay.specs.Relays.{An, KPg, L, RL, lever, W314, W241, jam, up, down}
use Rattle.relay.specs.Valid.{valid}
use Rattle.relay.specs.declared.Head.{Head}
use Rattle.relay.specs.declared.Post.{Post}

-- a number of the table, and whether its reason holds
pub record Row : Type 0 where
  pub number : ℕ
  pub reason : Bool

abbrev pub row : ℕ → Bool → Row
row k b = record { number = k; reason = b }

-- 02, item 5: 'Kinds 17, 18, 19 and 20 are the short forms of 1, 2, 3 and 4', 'Refusals: as those of the ordinary kind.' The kind by which kind k is refused
unfoldable pub refused_as : ℕ → ℕ
refused_as k = pick (eqb k 17) 1 (pick (eqb k 18) 2 (pick (eqb k 19) 3 (pick (eqb k 20) 4 k)))

-- 6, 22 and 23, and the numbers of the events' own lists: event n at a post refused as kind k with the relay word w; z is the word of the post downstream
unfoldable pub event_reasons : ℕ → ℕ → ℕ → ℕ → List Row
event_reasons n k w z =
    -- 'this kind of post lacks the device'
    row 6 (listed n k lacks_table)
    -- 'for events 6, 7 and 11 at a jammed post', '23 for 12 at a free one', 'both right after 6'
    ∷ row 22 ((eqb n 6 || eqb n 7 || eqb n 11) && up jam w)
    ∷ row 23 (eqb n 12 && down jam w)
    -- 1: 'if already reversed'; 2: 'if already normal'
    ∷ row 7 (eqb n 1 && up lever w || eqb n 2 && down lever w)
    -- 1: 'if L is down (8 not at the terminus)'
    ∷ row 8 (eqb n 1 && not (eqb k 1) && down L w)
    -- 5: 'if RL is down'
    ∷ row 9 (eqb n 5 && down RL w)
    -- 6 and 7: 'if An is down', 'then 12 if KPg is down'
    ∷ row 11 ((eqb n 6 || eqb n 7) && down An w)
    ∷ row 12 ((eqb n 6 || eqb n 7) && down KPg w)
    -- 6: 'if RL is up (kinds 2, 3, 4)'
    ∷ row 13 (eqb n 6 && (eqb k 2 || eqb k 3 || eqb k 4) && up RL w)
    -- 5: 'then 10 if the lever is reversed'; 6: 'or 10 if the lever is reversed (kind 1)'
    ∷ row 10 (eqb n 5 && up lever w || eqb n 6 && eqb k 1 && up lever w)
    -- 8 and 9: 'if nothing is under way'
    ∷ row 14 ((eqb n 8 || eqb n 9) && down W314 w && down W241 w)
    -- 10: 'if RL is up, 16 if a signal is under way, 17 if An downstream is up'
    ∷ row 15 (eqb n 10 && up RL w)
    ∷ row 16 (eqb n 10 && (up W314 w || up W241 w))
    ∷ row 17 (eqb n 10 && up An z)
    ∷ []

-- 'Order for an event: 1, 3, 2, 5, 4, 6, then the event's own list', with 22 and 23 'right after 6': event n, which names the post or section i, with stamp t
unfoldable pub reasons : List Post → Head → ℕ → ℕ → ℕ → List Row
reasons l s n i t =
    -- 'line not valid'
    row 1 (not (valid l s))
    -- 'event number not 1 to 10', and 'events 11 and 12 no longer get 3'
    ∷ row 3 (not (leb 1 n && leb n 12))
    -- 'no such post, or no such section for 8, 9, 10'
    ∷ row 2 (not (ltb i (length l)) || (eqb n 8 || eqb n 9 || eqb n 10) && not (ltb (i + 1) (length l)))
    -- '1,000,000 events already taken'
    ∷ row 5 (leb 1000000 s.taken)
    -- 'stamp behind the last': a difference round 2^32 that is below zero as a signed number has its highest bit up
    ∷ row 4 (leb (2 ^ 31) ((t + 2 ^ 32 - s.last) % 2 ^ 32))
    ∷ event_reasons n (refused_as (at l i).kind) (at l i).word (at l (i + 1)).word

-- number k is given by such a table: its reason holds and none before it does; 0 where no reason holds
unfoldable pub given_by : List Row → ℕ → Bool
given_by [] k = eqb k 0
given_by (r ∷ rs) k = pick (eqb k r.number) r.reason (not r.reason && given_by rs k)

-- number k is given to event n, which names the post or section i, with stamp t
abbrev pub given : ℕ → List Post → Head → ℕ → ℕ → ℕ → Bool
given k l s n i t = given_by (reasons l s n i t) k

-- ---- on starting
-- 'the last has kind 1', or 17
unfoldable pub last_right : ℕ → Bool
last_right k = eqb k 1 || eqb k 17

-- 'all others have 2, 3 or 4', or 18, 19 or 20
unfoldable pub other_right : ℕ → Bool
other_right k = eqb k 2 || eqb k 3 || eqb k 4 || eqb k 18 || eqb k 19 || eqb k 20

-- the kinds past the first
unfoldable pub others_right : List ℕ → Bool
others_right [] = false
others_right (k ∷ []) = last_right k
others_right (k ∷ j ∷ ks) = other_right k && others_right (j ∷ ks)

-- 'Post 0 has kind 0'
unfoldable pub kinds_right : List ℕ → Bool
kinds_right [] = false
kinds_right (k ∷ ks) = eqb k 0 && others_right ks

-- 'the table of kinds wrong or N outside 2 to 32'
unfoldable pub table_wrong : List ℕ → Bool
table_wrong ks = not (leb 2 (length ks) && leb (length ks) 32) || not (kinds_right ks)

-- 'on starting, row and table of different lengths'
unfoldable pub start_reasons : List Post → List ℕ → List Row
start_reasons l ks = row 1 (not (eqb (length l) (length ks)) || table_wrong ks) ∷ []
