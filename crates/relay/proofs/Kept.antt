-- 'Every event keeps a valid line valid', and a start that is taken leaves a valid line and head.
-- An event keeps the line because it keeps the two posts that it may alter and the sections beside them (proofs/KeptPosts.antt), and all else stays; a fresh line is valid because every fresh post and section passes the test.
use Prim.Native.Nat.{ℕ, ◌+◌, ◌≤◌, ◌<◌}
use mathlib.Core.Path.{◌≡◌, refl, sym}
use mathlib.Core.Bool.{true, not, ◌&&◌}
use mathlib.Core.List.{List, [], ◌∷◌}
use mathlib.Core.Logic.{◌⊎◌, ⊎_elim}
use native.Mathlib.Omega.{arith}
use lib.Dec.{eqb}
use lib.ListN.{length}
use Rattle.relay.specs.Choice.{requires}
use Rattle.relay.specs.Kinds.{terminus, ordinary, kind_fits, kinds_fit, table_ok}
use Rattle.relay.specs.Line.{head, fresh_line, startable, start_of, event_of}
use Rattle.relay.specs.Posts.{fresh_word, fresh_post, at}
use Rattle.relay.specs.Valid.{word_ok, stays_zero, counts_within, post_ok, section_ok, posts_ok, sections_from, sections_ok, most_events, valid}
use Rattle.relay.specs.declared.Head.{Head}
use Rattle.relay.specs.declared.Pair.{Pair}
use Rattle.relay.specs.declared.Post.{Post}
use Rattle.relay.proofs.Accepted.{event_cases}
use Rattle.relay.proofs.Cases.{accepted-case}
use Rattle.relay.proofs.Facts.{PostOk, SectionOk, ValidLine, valid_iff, kind_iff}
use Rattle.relay.proofs.Forms.{every_kind, every-kind}
use Rattle.relay.proofs.Frame.{Replaced, swapped, taken_replaces, neighbour-beside, neighbour-within}
use Rattle.relay.proofs.Fresh.{length-fresh}
use Rattle.relay.proofs.KeptPosts.{kind-small, not_terminus, Two, later}
use Rattle.relay.proofs.KeptEvents.{Kept, single, back, onward, keeps}
use Rattle.relay.proofs.Rules.{rules}
use Rattle.relay.proofs.Truth.{facts, and_facts, requires_facts, every, equal_or_not, split}

-- ---- the line
-- the section between two neighbours
section : {l : List Post} {h : Head} → ValidLine l h → (i j : ℕ) → j ≡ i + 1 → j < length l → SectionOk (at l i) (at l j)
section r i j e k = rw e (r.sections i (omega arith))

module _ {l l' : List Post} {h h' : Head} (r : ValidLine l h) (room : h.taken < most_events) (more : h'.taken ≡ h.taken + 1) where
  -- two neighbours are replaced, and kept
  two_valid : {i j : ℕ} {u d : Post} → j ≡ i + 1 → Replaced l l' i j u d → Two (length l) i j h.taken (at l i) (at l j) u d
      → ValidLine l' h'
  two_valid {i} {j} next R T =
      record {
        least = rw R.same_length r.least;
        most = rw R.same_length r.most;
        session = rw more (omega arith);
        each = rw (R.same_length, more) each;
        sections = rw R.same_length sections;
      }
    where
      each : (k : ℕ) → k < length l → PostOk (length l) k (h.taken + 1) (at l' k)
      each k m =
          equal_or_not k i
          (λ e. rw (e, R.first) T.upper)
          (λ e. equal_or_not k j (λ f. rw (f, R.second) T.lower) (λ f. rw (R.rest k e f) (later (omega arith) (r.each k m))))

      sections : (k : ℕ) → k + 1 < length l → SectionOk (at l' k) (at l' (k + 1))
      sections k m =
          equal_or_not k i
          (λ e. rw (e, ← next, R.first, R.second) T.between)
          (λ e.
          equal_or_not (k + 1) i
          (λ f. rw (f, R.first, R.rest k e (omega arith)) (T.above (at l k) (section r k i (sym f) (omega arith))))
          (λ f.
          equal_or_not k j
          (λ g. rw (g, R.second, R.rest (j + 1) (omega arith) (omega arith)) (T.below (at l (j + 1)) (r.sections j (omega arith))))
          (λ g. rw (R.rest k e g, R.rest (k + 1) f (omega arith)) (r.sections k m))))

  -- post i and its neighbour j are replaced, as an event keeps them
  kept_valid : {i j : ℕ} {b : Pair} → (j ≡ i + 1) ⊎ (i ≡ j + 1)
      → i < length l → j < length l → Kept (length l) i j h.taken (at l i) (at l j) b → Replaced l l' i j b.here b.other
      → ValidLine l' h'
  kept_valid {i} {j} {b} k x y (single z o) R =
      let other : PostOk (length l) j (h.taken + 1) b.other = rw z (later (omega arith) (r.each j y)) in
      ⊎_elim
      (λ e.
      two_valid e R
      (record { upper = o.post; lower = other; above = o.above; between = rw z (o.below (at l j) (section r i j e y)); below = λ d s. rw z s }))
      (λ e.
      two_valid e (swapped R)
      (record { upper = other; lower = o.post; above = λ u s. rw z s; between = rw z (o.above (at l j) (section r j i e x)); below = o.below }))
      k
  kept_valid {i} {j} k x y (back e two) R = two_valid e (swapped R) (two x (r.each j y) (section r j i e x))
  kept_valid {i} {j} k x y (onward e two) R = two_valid e R (two y (r.each j y) (section r i j e y))

-- 'Every event keeps a valid line valid.'
pub event-keeps : (l : List Post) (s : Head) (n i t : ℕ) → valid l s ≡ true
    → valid (event_of l s n i t).line (event_of l s n i t).told.head ≡ true
event-keeps l s n i t v =
    event_cases (λ a. valid a.line a.told.head ≡ true) l s n i t
    (λ r.
    (valid_iff _ _).1
    (kept_valid r.valid r.room (omega (arith, r.room)) (neighbour-beside n i) r.place (neighbour-within l s n i t r)
    (keeps r.room (r.valid.each i r.place) (accepted-case l s n i t r))
    (taken_replaces l s n i t r)))
    (λ e. v)

-- a valid line stays valid while events are taken elsewhere, up to 1,000,000
pub later-valid : (l : List Post) (s s' : Head) → s.taken ≤ s'.taken → s'.taken ≤ most_events → valid l s ≡ true → valid l s' ≡ true
later-valid l s s' k m v =
    let r = (valid_iff l s).0 v in
    (valid_iff l s').1
    (record { least = r.least; most = r.most; session = m; each = λ i f. later k (r.each i f); sections = r.sections })

-- ---- a fresh line
-- a fresh post keeps the rules of a post
fresh-post : (n i k : ℕ) → kind_fits n i k ≡ true → post_ok n i 0 (fresh_post k) ≡ true
unfolding post_ok fresh_post
fresh-post n i k e =
    (and_facts _ _).1 (
      e,
      every-kind (λ k. word_ok k (fresh_word k) && (stays_zero (fresh_post k) && counts_within 0 (fresh_post k))) (unfold rules every_kind every in refl) k
          (kind-small n i (ordinary k) ((kind_iff n i k).0 e)),
    )

-- two fresh posts keep the rules of the section between them
fresh-section : (n i k j : ℕ) → i + 1 < n → kind_fits n i k ≡ true → kind_fits n (i + 1) j ≡ true → section_ok (fresh_post k) (fresh_post j) ≡ true
fresh-section n i k j h e f =
    let r = (kind_iff n i k).0 e in
    (requires_facts (not (eqb (ordinary k) terminus)) (section_ok (fresh_post k) (fresh_post j))).0
    (every-kind _
    (every-kind (λ k. every_kind (λ j. requires (not (eqb (ordinary k) terminus)) (section_ok (fresh_post k) (fresh_post j)))) (unfold rules every_kind every in refl) k
    (kind-small n i (ordinary k) r))
    j
    (kind-small n (i + 1) (ordinary j) ((kind_iff n (i + 1) j).0 f)))
    (simp facts (not_terminus n i (ordinary k) r h))

-- the posts of a fresh line, from post i on
fresh-posts : (n i : ℕ) (ks : List ℕ) → kinds_fit n i ks ≡ true → posts_ok n i 0 (fresh_line ks) ≡ true
unfolding kinds_fit posts_ok fresh_line
fresh-posts n i [] e = refl
fresh-posts n i (k ∷ ks) e =
    let f = (and_facts (kind_fits n i k) (kinds_fit n (i + 1) ks)).0 e in
    (and_facts _ _).1 (fresh-post n i k f.0, fresh-posts n (i + 1) ks f.1)

-- its sections, from post i on
fresh_from : (n i k : ℕ) (ks : List ℕ) → i + 1 + length ks ≤ n → kind_fits n i k ≡ true → kinds_fit n (i + 1) ks ≡ true
    → sections_from (fresh_post k) (fresh_line ks) ≡ true
unfolding kinds_fit sections_from fresh_line
fresh_from n i k [] h e f = refl
fresh_from n i k (j ∷ ks) h e f =
    let g = (and_facts (kind_fits n (i + 1) j) (kinds_fit n (i + 1 + 1) ks)).0 f in
    (and_facts _ _).1 (fresh-section n i k j (omega arith) e g.0, fresh_from n (i + 1) j ks (omega arith) g.0 g.1)

-- all its sections
fresh-sections : (ks : List ℕ) → kinds_fit (length ks) 0 ks ≡ true → sections_ok (fresh_line ks) ≡ true
unfolding kinds_fit sections_ok fresh_line
fresh-sections [] e = refl
fresh-sections (k ∷ ks) e =
    let f = (and_facts _ _).0 e in
    fresh_from (length (k ∷ ks)) 0 k ks (omega arith) f.0 f.1

-- a line started from a right table is valid, with no event taken
pub fresh-valid : (l : List Post) (ks : List ℕ) (t : ℕ) → startable l ks ≡ true → valid (fresh_line ks) (head 0 t) ≡ true
unfolding startable table_ok valid
fresh-valid l ks t e =
    let f = simp and_facts at e in
    rw length-fresh (simp and_facts (f.1.0, (fresh-posts (length ks) 0 ks f.1.1, fresh-sections ks f.1.1)))

-- a start that is taken leaves a valid line and head; one that is refused 'leaves the row as lent and returns a head of zeros'
pub start_leaves : (l : List Post) (ks : List ℕ) (t : ℕ)
    → ((start_of l ks t).told.answer ≡ 0 → valid (start_of l ks t).line (start_of l ks t).told.head ≡ true)
    × (((start_of l ks t).told.answer ≡ 0 → ⊥) → ((start_of l ks t).line ≡ l) × ((start_of l ks t).told.head ≡ head 0 0))
unfolding start_of
start_leaves l ks t =
    split (startable l ks)
    (λ e. rw e (λ z. fresh-valid l ks t e, λ k. absurd (k refl)))
    (λ e. rw e (λ z. absurd (omega (arith, z)), λ k. (refl, refl)))
