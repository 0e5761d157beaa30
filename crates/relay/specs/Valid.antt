-- A line that may be used. 01, 'A line that may be used' and 'One post's relays', and 02, items 2 and 5: one definition per rule, in the papers' words.
-- The rules as facts, and that they are these tests, stand in proofs/Facts.antt.
-- Assumes nothing.
use Rattle.std.specs.Prelude.{ℕ, ◌+◌, ◌^◌, Bool, true, not, ◌&&◌, ◌||◌, List, [], ◌∷◌, eqb, ltb, leb, length}
use Rattle.relay.specs.Choice.{requires, same, one}
use Rattle.relay.specs.Kinds.{origin, terminus, intermediate, is_short, ordinary, blocks_at_pedal, blocks_at_announcement, count_fits, kind_fits}
use Rattle.relay.specs.Posts.{form}
use Rattle.relay.specs.Relays.{An, KPg, L, RL, lever, signal, W314, W241, jam, width, up, down}
use Rattle.relay.specs.declared.Post.{Post}
use Rattle.relay.specs.declared.Head.{Head}

-- ---- one post's word w, at a kind of the ordinary form k
-- 'All other bits are zero.'
unfoldable pub no_other_bits : ℕ → Bool
no_other_bits w = ltb w (2 ^ width)

-- 'An and KPg stay down at the origin; L, RL and both W bits stay down at the terminus.' 02, item 2: the jam is 'down on a fresh line and at the origin'
unfoldable pub stays_down : ℕ → ℕ → Bool
stays_down k w =
    requires (eqb k origin) (down An w && (down KPg w && down jam w))
    && requires (eqb k terminus) (down L w && (down RL w && (down W314 w && down W241 w)))

-- 'For each post but the terminus: RL down requires L down and lever normal.'
unfoldable pub held_is_locked : ℕ → ℕ → Bool
held_is_locked k w = requires (not (eqb k terminus)) (requires (down RL w) (down L w && down lever w))

-- 'At kinds 0 and 2, a reversed lever has its signal open exactly when L is up.'
unfoldable pub pedal_blocks : ℕ → ℕ → Bool
pedal_blocks k w = requires (blocks_at_pedal k) (requires (up lever w) (same (up signal w) (up L w)))

-- 'At kinds 3 and 4, L equals RL and signal equals lever.'
unfoldable pub announcement_blocks : ℕ → ℕ → Bool
announcement_blocks k w =
    requires (blocks_at_announcement k) (same (up L w) (up RL w) && same (up signal w) (up lever w))

-- 'Everywhere, an open signal requires a reversed lever.'
unfoldable pub open_is_reversed : ℕ → Bool
open_is_reversed w = requires (up signal w) (up lever w)

-- 'KPg requires An.' 02, item 5: it 'now holds at ordinary posts only', here at a kind k of either form
unfoldable pub passage_is_announced : ℕ → ℕ → Bool
passage_is_announced k w = requires (not (is_short k)) (requires (up KPg w) (up An w))

-- every rule of one word, at a kind k
unfoldable pub word_ok : ℕ → ℕ → Bool
word_ok k w =
    no_other_bits w
    && (stays_down (ordinary k) w
    && (held_is_locked (ordinary k) w
    && (pedal_blocks (ordinary k) w
    && (announcement_blocks (ordinary k) w && (open_is_reversed w && passage_is_announced k w)))))

-- ---- one post's counts, with t events taken
-- 'Counts that a post can't have are zero, c also at kinds 1 and 4': none of a section upstream at the origin,
-- none of a section downstream at the terminus
unfoldable pub stays_zero : Post → Bool
stays_zero p =
    requires (eqb (form p) origin) (eqb p.r 0 && (eqb p.q 0 && (eqb p.e 0 && eqb p.c 0)))
    && (requires (eqb (form p) terminus)
    (eqb p.a 0 && (eqb p.x 0 && (eqb p.y 0 && (eqb p.v 0 && eqb p.g 0))))
    && requires (eqb (form p) terminus || eqb (form p) intermediate) (eqb p.c 0))

-- 'no count is greater than the events taken'
unfoldable pub counts_within : ℕ → Post → Bool
counts_within t p =
    leb p.a t
    && (leb p.x t
    && (leb p.y t
    && (leb p.v t
    && (leb p.g t && (leb p.r t && (leb p.q t && (leb p.e t && leb p.c t)))))))

-- post i of n
unfoldable pub post_ok : ℕ → ℕ → ℕ → Post → Bool
post_ok n i t p = kind_fits n i p.kind && (word_ok p.kind p.word && (stays_zero p && counts_within t p))

-- ---- the section between the posts p and d
-- h: '1 if RL is down, else 0'
abbrev pub h : ℕ → ℕ
h w = one (down RL w)

-- 'h equals a - v - g'
unfoldable pub holds : Post → Bool
holds p = eqb p.a (p.v + p.g + h p.word)

-- 'a = r + x + W314'
unfoldable pub announcements_agree : Post → Post → Bool
announcements_agree p d = eqb p.a (d.r + p.x + one (up W314 p.word))

-- 'e = v + y + W241'
unfoldable pub releases_agree : Post → Post → Bool
releases_agree p d = eqb d.e (p.v + p.y + one (up W241 p.word))

-- 'r - e equals An of the downstream post'
unfoldable pub recorded_agree : Post → Bool
recorded_agree d = eqb d.r (d.e + one (up An d.word))

-- 'e = q - KPg'
unfoldable pub passages_agree : Post → Bool
passages_agree d = eqb d.q (d.e + one (up KPg d.word))

-- 'c is at most e'
unfoldable pub garage_within : Post → Bool
garage_within d = leb d.c d.e

-- 'At most one of An (downstream), W314, W241 is up in a section, and each requires RL down.'
-- w is the word upstream, z the word downstream
unfoldable pub one_at_most : ℕ → ℕ → Bool
one_at_most w z =
    leb (one (up An z) + one (up W314 w) + one (up W241 w)) 1
    && requires (up An z || (up W314 w || up W241 w)) (down RL w)

unfoldable pub section_ok : Post → Post → Bool
section_ok p d =
    holds p
    && (announcements_agree p d
    && (releases_agree p d
    && (recorded_agree d && (passages_agree d && (garage_within d && one_at_most p.word d.word)))))

-- ---- the line
-- the rule of each post from post i on
unfoldable pub posts_ok : ℕ → ℕ → ℕ → List Post → Bool
posts_ok n i t [] = true
posts_ok n i t (p ∷ ps) = post_ok n i t p && posts_ok n (i + 1) t ps

-- the rule of each section, from a post to the next
unfoldable pub sections_from : Post → List Post → Bool
sections_from p [] = true
sections_from p (d ∷ ds) = section_ok p d && sections_from d ds

unfoldable pub sections_ok : List Post → Bool
sections_ok [] = true
sections_ok (p ∷ ps) = sections_from p ps

-- 'Events taken are at most 1,000,000'
abbrev pub most_events : ℕ
most_events = 1000000

-- a line that may be used
unfoldable pub valid : List Post → Head → Bool
valid l s =
    count_fits (length l)
    && (leb s.taken most_events && (posts_ok (length l) 0 s.taken l && sections_ok l))
