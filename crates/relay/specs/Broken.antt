-- Each rule of a line that may be used, broken alone. 01, 'A line that may be used' and 'One post's relays', and 02, items 2 and 5: a table of lines, each a line that a
-- history left, with one or two posts altered by other hands so that one rule is broken and every other one still holds.
-- That each of them breaks one rule and may not be used stands in proofs/Broken.antt. Rules that others imply cannot be broken alone and have
-- no row: KPg at the origin (with An down it breaks 'KPg requires An'), and the counts but a within the events taken (none is greater than a).
-- Assumes nothing.
use Rattle.std.specs.Prelude.{ℕ, ◌+◌, ◌^◌, Bool, true, not, ◌&&◌, List, [], ◌∷◌, ◌++◌, eqb, leb, length, set, take}
use Rattle.std.specs.Int.Bits.{bit_or}
use Rattle.relay.specs.Choice.{one}
use Rattle.relay.specs.Examples.{Event, ev, after_all}
use Rattle.relay.specs.Kinds.{count_fits, kind_fits}
use Rattle.relay.specs.Line.{head, fresh_line}
use Rattle.relay.specs.Posts.{at, post, form, word_to, more_a, more_x, more_y, more_v, more_g, more_r, more_q, more_e, more_c}
use Rattle.relay.specs.Reached.{line, started, released}
use Rattle.relay.specs.Relays.{An, KPg, L, RL, lever, signal, W314, W241, jam, width, raise, lower}
use Rattle.relay.specs.Valid.{no_other_bits, stays_down, held_is_locked, pedal_blocks, announcement_blocks, open_is_reversed, passage_is_announced, stays_zero, counts_within, holds, announcements_agree, releases_agree, recorded_agree, passages_agree, garage_within, one_at_most, most_events, valid}
use Rattle.relay.specs.declared.Head.{Head}
use Rattle.relay.specs.declared.Post.{Post}

-- ---- other hands
-- a relay raised, dropped; a bit that is no relay; another kind
abbrev pub raised : ℕ → Post → Post
raised k p = word_to (raise k p.word) p

abbrev pub dropped : ℕ → Post → Post
dropped k p = word_to (lower k p.word) p

abbrev pub stray_bit : Post → Post
stray_bit p = word_to (bit_or p.word (2 ^ width)) p

abbrev pub kind_to : ℕ → Post → Post
kind_to k p = post p.word k p.a p.x p.y p.v p.g p.r p.q p.e p.c

abbrev pub same : Post → Post
same p = p

-- one more sent and restored: what keeps 'h equals a - v - g' where a grows
abbrev pub one_more : Post → Post
one_more p = more_g (more_a p)

-- ---- the table
-- a history from the fresh line of Reached, and what other hands make of post i and of the next one
pub record Row : Type 0 where
  pub before : List Event
  pub at : ℕ
  pub here : Post → Post
  pub next : Post → Post

abbrev pub row : List Event → ℕ → (Post → Post) → (Post → Post) → Row
row es i f g = record { before = es; at = i; here = f; next = g }

-- an announcement under way in section 0
abbrev pub sent : List Event
sent = ev 5 0 ∷ []

-- the rules of both forms
unfoldable pub table : List Row
table =
    -- 'Post 0 has kind 0, the last has kind 1, all others have 2, 3 or 4', or a short form; the origin has none
    row [] 0 (kind_to 2) same
    ∷ row [] 0 (kind_to 16) same
    ∷ row [] 3 same (kind_to 20)
    ∷ row [] 1 (kind_to 16) same
    ∷ row [] 1 (kind_to 21) same
    ∷ row [] 3 same (kind_to 4)
    ∷ row [] 1 (kind_to 0) same
    ∷ row [] 1 (kind_to 5) same
    -- 'All other bits are zero.'
    ∷ row [] 0 stray_bit same
    -- 'An and KPg stay down at the origin; L, RL and both W bits stay down at the terminus.' The jam is 'down .. at the origin'
    ∷ row [] 0 (raised An) same
    ∷ row [] 0 (raised jam) same
    ∷ row [] 3 same (raised L)
    ∷ row [] 3 same (raised RL)
    ∷ row [] 3 same (raised W314)
    ∷ row [] 3 same (raised W241)
    -- 'Counts that a post can't have are zero, c also at kinds 1 and 4.'
    ∷ row [] 0 more_r same
    ∷ row [] 0 more_q same
    ∷ row [] 0 more_e same
    ∷ row [] 0 more_c same
    ∷ row [] 3 same more_a
    ∷ row [] 3 same more_x
    ∷ row [] 3 same more_y
    ∷ row [] 3 same more_v
    ∷ row [] 3 same more_g
    ∷ row (released 4) 3 same more_c
    ∷ row (released 3) 2 same more_c
    -- 'h (1 if RL is down, else 0) equals a - v - g'
    ∷ row sent 0 more_g same
    -- 'a = r + x + W314'
    ∷ row sent 0 more_x same
    -- 'e = v + y + W241'
    ∷ row sent 0 more_y same
    -- 'r - e equals An of the downstream post'
    ∷ row sent 0 one_more more_r
    -- 'e = q - KPg'
    ∷ row sent 0 same more_q
    -- 'c is at most e'
    ∷ row sent 0 same more_c
    -- 'RL down requires L down and lever normal'
    ∷ row sent 0 (raised L) same
    ∷ row sent 0 (raised lever) same
    -- 'At kinds 0 and 2, a reversed lever has its signal open exactly when L is up.'
    ∷ row [] 0 (raised lever) same
    ∷ row [] 1 (raised lever) same
    -- 'At kinds 3 and 4, L equals RL and signal equals lever.'
    ∷ row [] 2 (dropped L) same
    ∷ row [] 3 (dropped L) same
    ∷ row [] 2 (raised lever) same
    ∷ row [] 3 (raised lever) same
    -- 'Everywhere, an open signal requires a reversed lever.'
    ∷ row [] 3 same (raised signal)
    -- 'At most one of An (downstream), W314, W241 is up in a section'
    ∷ row sent 0 one_more (λ p. more_r (raised An p))
    ∷ row sent 0 (λ p. one_more (raised W241 p)) (λ p. more_r (more_q (more_e p)))
    ∷ row (released 1) 0 one_more (λ p. more_r (raised An p))
    -- 'and each requires RL down'
    ∷ row [] 0 one_more (λ p. more_r (raised An p))
    ∷ row [] 0 (λ p. one_more (raised W314 p)) same
    ∷ row [] 0 (λ p. one_more (raised W241 p)) (λ p. more_r (more_q (more_e p)))
    ∷ []

-- a passage waiting, with An down, at the post downstream of each section
unfoldable pub passed_early : List Row
passed_early =
    row [] 0 same (λ p. more_q (raised KPg p))
    ∷ row [] 1 same (λ p. more_q (raised KPg p))
    ∷ row [] 2 same (λ p. more_q (raised KPg p))
    ∷ row [] 3 same (λ p. more_q (raised KPg p))
    ∷ []

-- ---- how many rules a line breaks
-- 1 for a rule that is broken
abbrev pub fault : Bool → ℕ
fault b = one (not b)

-- post i of n, with t events taken
abbrev pub post_faults : ℕ → ℕ → ℕ → Post → ℕ
post_faults n i t p =
    fault (kind_fits n i p.kind)
    + fault (no_other_bits p.word)
    + fault (stays_down (form p) p.word)
    + fault (held_is_locked (form p) p.word)
    + fault (pedal_blocks (form p) p.word)
    + fault (announcement_blocks (form p) p.word)
    + fault (open_is_reversed p.word)
    + fault (passage_is_announced p.kind p.word)
    + fault (stays_zero p)
    + fault (counts_within t p)

-- the section between the posts p and d
abbrev pub section_faults : Post → Post → ℕ
section_faults p d =
    fault (holds p)
    + fault (announcements_agree p d)
    + fault (releases_agree p d)
    + fault (recorded_agree d)
    + fault (passages_agree d)
    + fault (garage_within d)
    + fault (one_at_most p.word d.word)

-- a line, from post i of n on
unfoldable pub faults_from : ℕ → ℕ → ℕ → List Post → ℕ
faults_from n i t [] = 0
faults_from n i t (p ∷ []) = post_faults n i t p
faults_from n i t (p ∷ d ∷ ps) = post_faults n i t p + section_faults p d + faults_from n (i + 1) t (d ∷ ps)

unfoldable pub faults : List Post → Head → ℕ
faults l s = fault (count_fits (length l)) + fault (leb s.taken most_events) + faults_from (length l) 0 s.taken l

-- a line that breaks one rule, and may not be used
unfoldable pub refused_for_one : List Post → Head → Bool
refused_for_one l s = eqb (faults l s) 1 && not (valid l s)

-- a line as other hands leave it
abbrev pub left : Row → List Post → List Post
left r l = set (set l r.at (r.here (at l r.at))) (r.at + 1) (r.next (at l (r.at + 1)))

-- each row passes a test of its line as other hands leave it, on the line of the kinds ks and the head that its history left, which may be used;
-- with 1,000 events taken before it, so that no count is greater
unfoldable pub each_left : (List Post → Head → Bool) → List ℕ → List Row → Bool
each_left test ks [] = true
each_left test ks (r ∷ rs) =
    let a = after_all r.before (started ks 1000) in
    let b = valid a.line a.told.head && test (left r a.line) a.told.head in
    b && each_left test ks rs

-- ---- the rules of the whole line
-- thirty-three posts: the two ends and thirty-one between
abbrev pub seven : List ℕ
seven = 2 ∷ 3 ∷ 4 ∷ 2 ∷ 3 ∷ 4 ∷ 2 ∷ []

abbrev pub too_many : List ℕ
too_many = 0 ∷ (seven ++ (seven ++ (seven ++ (seven ++ (2 ∷ 3 ∷ 4 ∷ 1 ∷ [])))))

-- 'it has 2 to 32 records': one, and thirty-three; 'Events taken are at most 1,000,000': one more; 'no count is greater than the events taken': an
-- announcement sent, lost and restored with no event taken
unfoldable pub whole_alone : Bool
whole_alone =
    refused_for_one (take 1 (fresh_line line)) (head 0 0)
    && (refused_for_one (fresh_line too_many) (head 0 0)
    && (refused_for_one (fresh_line line) (head (most_events + 1) 0)
    && refused_for_one (set (fresh_line line) 0 (more_x (one_more (at (fresh_line line) 0)))) (head 0 0)))
