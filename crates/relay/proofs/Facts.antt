-- A line that may be used, as plain facts: one record for each part of the rule, and that it is the test of specs/Valid.antt, both ways.
-- `.0` of each law takes the test to the facts, `.1` takes the facts to the test; each holds test by test, and the line by going along it.
use Prim.Native.Nat.{ℕ, zero, suc, ◌+◌, ◌^◌, ◌≤◌, ◌<◌}
use mathlib.Core.Path.{◌≡◌, refl}
use mathlib.Core.Bool.{true, false, ◌||◌}
use mathlib.Core.List.{List, [], ◌∷◌}
use mathlib.Core.Logic.{◌↔◌}
use native.Mathlib.Nat.{add-zero, zero-add}
use native.Mathlib.Numerals.{add-one}
use native.Mathlib.Omega.{arith}
use borrow.Author.Tests.{eqb-true}
use lib.Dec.{eqb}
use lib.ListN.{length}
use Rattle.relay.specs.Choice.{one}
use Rattle.relay.specs.Kinds.{origin, terminus, intermediate, is_short, ordinary, blocks_at_pedal, blocks_at_announcement, between, count_fits, kind_fits}
use Rattle.relay.specs.Posts.{at, form}
use Rattle.relay.specs.Relays.{An, KPg, L, RL, lever, signal, W314, W241, jam, width, up}
use Rattle.relay.specs.Valid.{no_other_bits, stays_down, held_is_locked, pedal_blocks, announcement_blocks, open_is_reversed, passage_is_announced, word_ok, stays_zero, counts_within, post_ok, h, holds, announcements_agree, releases_agree, recorded_agree, passages_agree, garage_within, one_at_most, section_ok, posts_ok, sections_from, sections_ok, most_events, valid}
use Rattle.relay.specs.declared.Head.{Head}
use Rattle.relay.specs.declared.Post.{Post}
use Rattle.relay.proofs.Truth.{facts, and_facts, or_facts, held_iff, up_or_down, equal_or_not}

-- ZeroOk, Within and SectionOk are written out and not declared, so that a record with other fields altered has the very same facts.

-- ---- the kind of post i of n, by its ordinary form k
pub record KindOk (n i k : ℕ) : Type 0 where
  -- 'Post 0 has kind 0'
  pub first : i ≡ 0 → k ≡ origin
  -- 'the last has kind 1'
  pub last : (i ≡ 0 → ⊥) → i + 1 ≡ n → k ≡ terminus
  -- 'all others have 2, 3 or 4'
  pub middle : (i ≡ 0 → ⊥) → (i + 1 ≡ n → ⊥) → (2 ≤ k) × (k ≤ 4)

-- kinds 2, 3 and 4 are those from 2 to 4
pub between_iff : (k : ℕ) → (between k ≡ true) ↔ ((2 ≤ k) × (k ≤ 4))
unfolding between
between_iff k = (
  or_facts (eqb k 2) (eqb k 3 || eqb k 4) (λ e. omega (arith, eqb-true))
      (or_facts (eqb k 3) (eqb k 4) (λ e. omega (arith, eqb-true)) (λ e. omega (arith, eqb-true))),
  λ r. equal_or_not k 2 (λ e. rw e) (λ e. equal_or_not k 3 (λ f. rw f) (λ f. let z : k ≡ 4 = omega arith in rw z)),
)

-- the test of a kind is these facts
pub kind_iff : (n i k : ℕ) → (kind_fits n i k ≡ true) ↔ KindOk n i (ordinary k)
unfolding kind_fits
kind_iff n i k = (
  λ t. let f = simp (facts, between_iff) at t in record { first = f.0; last = λ z. (f.1 z).0; middle = λ z. (f.1 z).1 },
  λ r. simp (facts, between_iff) (r.first, λ z. (r.last z, r.middle z)),
)

-- ---- one post's word w, at a kind k
pub record WordOk (k w : ℕ) : Type 0 where
  -- 'All other bits are zero.'
  pub no_others : w < 2 ^ width
  -- 'An and KPg stay down at the origin', and the jam
  pub origin_down : ordinary k ≡ origin → (up An w ≡ false) × ((up KPg w ≡ false) × (up jam w ≡ false))
  -- 'L, RL and both W bits stay down at the terminus'
  pub terminus_down : ordinary k ≡ terminus → (up L w ≡ false) × (up RL w ≡ false) × (up W314 w ≡ false) × (up W241 w ≡ false)
  -- 'For each post but the terminus: RL down requires L down and lever normal.'
  pub held-locked : (ordinary k ≡ terminus → ⊥) → up RL w ≡ false → (up L w ≡ false) × (up lever w ≡ false)
  -- 'At kinds 0 and 2, a reversed lever has its signal open exactly when L is up.'
  pub pedal_blocks_lem : blocks_at_pedal (ordinary k) ≡ true → up lever w ≡ true → up signal w ≡ up L w
  -- 'At kinds 3 and 4, L equals RL and signal equals lever.'
  pub announcement-blocks : blocks_at_announcement (ordinary k) ≡ true → (up L w ≡ up RL w) × (up signal w ≡ up lever w)
  -- 'Everywhere, an open signal requires a reversed lever.'
  pub open_reversed : up signal w ≡ true → up lever w ≡ true
  -- 'KPg requires An.', at ordinary posts
  pub passage-announced : is_short k ≡ false → up KPg w ≡ true → up An w ≡ true

-- the test of a word is these facts
pub word_iff : (k w : ℕ) → (word_ok k w ≡ true) ↔ WordOk k w
unfolding word_ok no_other_bits stays_down held_is_locked pedal_blocks announcement_blocks open_is_reversed passage_is_announced
word_iff k w = (
  λ t.
      let f = simp facts at t in
      record {
        no_others = f.0;
        origin_down = f.1.0.0;
        terminus_down = λ e. ((f.1.0.1 e).0, (f.1.0.1 e).1.0, (f.1.0.1 e).1.1.0, (f.1.0.1 e).1.1.1);
        held-locked = f.1.1.0;
        pedal_blocks_lem = f.1.1.1.0;
        announcement-blocks = f.1.1.1.1.0;
        open_reversed = f.1.1.1.1.1.0;
        passage-announced = f.1.1.1.1.1.1;
      },
  λ r.
      simp facts (
        r.no_others,
        (
          (r.origin_down, λ e. ((r.terminus_down e).0, ((r.terminus_down e).1, ((r.terminus_down e).2, (r.terminus_down e).3)))),
          (r.held-locked, (r.pedal_blocks_lem, (r.announcement-blocks, (r.open_reversed, r.passage-announced)))),
        ),
      ),
)

-- ---- one post's counts, with t events taken
-- 'Counts that a post can't have are zero'
abbrev pub ZeroOk : Post → Type 0
ZeroOk p =
    record {
      -- none of a section upstream at the origin
      origin-zero : form p ≡ origin → (p.r ≡ 0) × ((p.q ≡ 0) × ((p.e ≡ 0) × (p.c ≡ 0)));
      -- none of a section downstream at the terminus
      terminus-zero : form p ≡ terminus → (p.a ≡ 0) × ((p.x ≡ 0) × ((p.y ≡ 0) × ((p.v ≡ 0) × (p.g ≡ 0))));
      -- 'c also at kinds 1 and 4'
      terminus-garage : form p ≡ terminus → p.c ≡ 0;
      intermediate-garage : form p ≡ intermediate → p.c ≡ 0;
    }

-- the test that counts stay zero is these facts
pub zero_iff : (p : Post) → (stays_zero p ≡ true) ↔ ZeroOk p
unfolding stays_zero
zero_iff p = (
  λ t.
      let f = simp facts at t in
      record { origin-zero = f.0; terminus-zero = f.1.0; terminus-garage = f.1.1.0; intermediate-garage = f.1.1.1 },
  λ r. simp facts (r.origin-zero, (r.terminus-zero, (r.terminus-garage, r.intermediate-garage))),
)

-- 'no count is greater than the events taken'
abbrev pub Within : ℕ → Post → Type 0
Within t p =
    record {
      a-within : p.a ≤ t;
      x-within : p.x ≤ t;
      y-within : p.y ≤ t;
      v_within : p.v ≤ t;
      g_within : p.g ≤ t;
      r-within : p.r ≤ t;
      q_within : p.q ≤ t;
      e-within : p.e ≤ t;
      c-within : p.c ≤ t;
    }

-- the test of a post's counts is these facts
pub within_iff : (t : ℕ) (p : Post) → (counts_within t p ≡ true) ↔ Within t p
unfolding counts_within
within_iff t p = (
  λ b. let f = simp facts at b in omega arith,
  λ r. simp facts (omega arith),
)

-- ---- post i of n, with t events taken
pub record PostOk (n i t : ℕ) (p : Post) : Type 0 where
  -- 'its kinds are right'
  pub kind : KindOk n i (form p)
  -- the rules of one word
  pub word : WordOk p.kind p.word
  -- 'every bit and count said above to stay down or zero does so'
  pub zeros : ZeroOk p
  -- 'no count is greater than the events taken'
  pub counts : Within t p

-- the test of a post is these facts
pub post_iff : (n i t : ℕ) (p : Post) → (post_ok n i t p ≡ true) ↔ PostOk n i t p
unfolding post_ok
post_iff n i t p = (
  λ b.
      let f = simp (and_facts, kind_iff, word_iff, zero_iff, within_iff) at b in
      record { kind = f.0; word = f.1.0; zeros = f.1.1.0; counts = f.1.1.1 },
  λ r. simp (and_facts, kind_iff, word_iff, zero_iff, within_iff) (r.kind, (r.word, (r.zeros, r.counts))),
)

-- ---- the section between the posts p and d
abbrev pub SectionOk : Post → Post → Type 0
SectionOk p d =
    record {
      -- 'h (1 if RL is down, else 0) equals a - v - g'
      holds : p.a ≡ p.v + p.g + h p.word;
      -- 'a = r + x + W314'
      announcements : p.a ≡ d.r + p.x + one (up W314 p.word);
      -- 'e = v + y + W241'
      releases : d.e ≡ p.v + p.y + one (up W241 p.word);
      -- 'r - e equals An of the downstream post'
      recorded : d.r ≡ d.e + one (up An d.word);
      -- 'e = q - KPg'
      passages : d.q ≡ d.e + one (up KPg d.word);
      -- 'c is at most e'
      garages : d.c ≤ d.e;
      -- 'At most one of An (downstream), W314, W241 is up in a section, and each requires RL down.'
      alone : one (up An d.word) + one (up W314 p.word) + one (up W241 p.word) ≤ h p.word;
    }

-- the test of a section is these facts
pub section_iff : (p d : Post) → (section_ok p d ≡ true) ↔ SectionOk p d
unfolding section_ok holds announcements_agree releases_agree recorded_agree passages_agree garage_within one_at_most
section_iff p d = (
  λ t. let f = simp (facts, held_iff) at t in omega arith,
  λ r. simp (facts, held_iff) (omega (arith, up_or_down (up RL p.word))),
)

-- ---- the line
pub record ValidLine (l : List Post) (s : Head) : Type 0 where
  -- 'it has 2 to 32 records'
  pub least : 2 ≤ length l
  pub most : length l ≤ 32
  -- 'Events taken are at most 1,000,000'
  pub session : s.taken ≤ most_events
  -- each post
  pub each : (i : ℕ) → i < length l → PostOk (length l) i s.taken (at l i)
  -- each section
  pub sections : (i : ℕ) → i + 1 < length l → SectionOk (at l i) (at l (i + 1))

-- the rule of each post from post i on, by index
posts-each : (n i t : ℕ) (l : List Post) → posts_ok n i t l ≡ true → (j : ℕ) → j < length l → PostOk n (i + j) t (at l j)
unfolding posts_ok
posts-each n i t [] e j k = absurd (omega arith)
posts-each n i t (p ∷ l) e zero k = rw add-zero (simp (and_facts, post_iff) at e).0
posts-each n i t (p ∷ l) e (suc j) k =
    let next : i + suc j ≡ i + 1 + j = omega arith in
    rw next (posts-each n (i + 1) t l (simp and_facts at e).1 j (omega arith))

-- and back
each-posts : (n i t : ℕ) (l : List Post) → ((j : ℕ) → j < length l → PostOk n (i + j) t (at l j)) → posts_ok n i t l ≡ true
unfolding posts_ok
each-posts n i t [] f = refl
each-posts n i t (p ∷ l) f =
    simp (and_facts, post_iff) (
      rw add-zero at (f 0 (omega arith)),
      each-posts n (i + 1) t l
          (λ j k. let next : i + suc j ≡ i + 1 + j = omega arith in rw next at (f (suc j) (omega arith))),
    )

-- the rule of each section, by index
from_each : (p : Post) (l : List Post) → sections_from p l ≡ true → (i : ℕ) → i < length l → SectionOk (at (p ∷ l) i) (at l i)
unfolding sections_from
from_each p [] e i k = absurd (omega arith)
from_each p (d ∷ l) e zero k = (simp (and_facts, section_iff) at e).0
from_each p (d ∷ l) e (suc i) k = from_each d l (simp and_facts at e).1 i (omega arith)

-- and back
each_from : (p : Post) (l : List Post) → ((i : ℕ) → i < length l → SectionOk (at (p ∷ l) i) (at l i)) → sections_from p l ≡ true
unfolding sections_from
each_from p [] f = refl
each_from p (d ∷ l) f =
    simp (and_facts, section_iff) (f 0 (omega arith), each_from d l (λ i k. f (suc i) (omega arith)))

-- the test of every section, by index
sections_iff : (l : List Post) → (sections_ok l ≡ true) ↔ ((i : ℕ) → i + 1 < length l → SectionOk (at l i) (at l (i + 1)))
unfolding sections_ok
sections_iff [] = (λ e i k. absurd (omega arith), λ f. refl)
sections_iff (p ∷ l) = (
  λ e i k. rw add-one (from_each p l e i (omega arith)),
  λ f. each_from p l (λ i k. rw add-one at (f i (omega arith))),
)

-- the test of a line is these facts
pub valid_iff : (l : List Post) (s : Head) → (valid l s ≡ true) ↔ ValidLine l s
unfolding valid count_fits
valid_iff l s = (
  λ t.
      let f = simp (facts, sections_iff) at t in
      record {
        least = f.0.0;
        most = f.0.1;
        session = f.1.0;
        each = λ i k. rw zero-add at (posts-each (length l) 0 s.taken l f.1.1.0 i k);
        sections = f.1.1.1;
      },
  λ r.
      simp (facts, sections_iff) (
        (r.least, r.most),
        (r.session, (each-posts (length l) 0 s.taken l (λ j k. rw zero-add (r.each j k)), r.sections)),
      ),
)
