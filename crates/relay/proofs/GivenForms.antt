-- A table of refusals as a list of numbers with their reasons: where no number stands twice, the first whose reason holds is k exactly when the table gives k. And both readings of the two forms of a kind agree, for every number.
-- By going down the list; the forms are computed up to 20, past which there is no kind.
use Prim.Native.Nat.{ℕ}
use mathlib.Core.Path.{◌≡◌, refl, sym, ◌∙◌}
use mathlib.Core.Bool.{Bool, true, false, not, ◌&&◌}
use mathlib.Core.List.{List, [], ◌∷◌}
use mathlib.Core.Logic.{◌↔◌}
use native.Mathlib.Omega.{arith}
use borrow.Author.Tests.{eq-eqb, ne_eqb, le-leb, lt-leb, ltb-true}
use lib.Dec.{eqb, ltb}
use Rattle.relay.specs.Choice.{pick, same}
use Rattle.relay.specs.Given.{Row, refused_as, given_by, last_right, other_right}
use Rattle.relay.specs.Kinds.{is_short, ordinary, between}
use Rattle.relay.proofs.Truth.{facts, and_facts, not_facts, eqb_facts, split, equal_or_not, least_or_below, every, every_one}

-- ---- the table as a list of refusals
-- the number of the first reason that holds, 0 where none does
unfoldable pub first : List Row → ℕ
first [] = 0
first (r ∷ rs) = pick r.reason r.number (first rs)

-- k stands in no row, and is not 0
unfoldable pub absent : ℕ → List Row → Bool
absent k [] = not (eqb k 0)
absent k (r ∷ rs) = not (eqb k r.number) && absent k rs

-- no number stands in two rows, nor 0 in any
unfoldable pub once : List Row → Bool
once [] = true
once (r ∷ rs) = absent r.number rs && once rs

eqb-sym : (m n : ℕ) → eqb m n ≡ eqb n m
eqb-sym m n = equal_or_not m n (λ e. rw e) (λ e. rw (ne_eqb m n e) (sym (ne_eqb n m (λ f. e (sym f)))))

-- a number that stands in no row is not the first
not_first : (k : ℕ) (rs : List Row) → absent k rs ≡ true → eqb (first rs) k ≡ false
unfolding first absent
not_first k [] e = eqb-sym 0 k ∙ (not_facts (eqb k 0)).0 e
not_first k (r ∷ rs) e =
    let f = (and_facts (not (eqb k r.number)) (absent k rs)).0 e in
    split r.reason (λ b. rw b (eqb-sym r.number k ∙ (not_facts (eqb k r.number)).0 f.0)) (λ b. rw b (not_first k rs f.1))

chosen : (b : Bool) → b ≡ pick b true false
chosen true = refl
chosen false = refl

-- the first number is k exactly when k is given
first_test : (k : ℕ) (rs : List Row) → once rs ≡ true → eqb (first rs) k ≡ given_by rs k
unfolding first once given_by
first_test k [] e = eqb-sym 0 k
first_test k (r ∷ rs) e =
    let f = (and_facts (absent r.number rs) (once rs)).0 e in
    split r.reason
    (λ b. rw b (eqb-sym r.number k ∙ chosen (eqb k r.number)))
    (λ b.
    rw b
    (equal_or_not k r.number
    (λ e. rw (eq-eqb k r.number e) (rw e (not_first r.number rs f.0)))
    (λ e. rw (ne_eqb k r.number e) (first_test k rs f.1))))

-- a number that is the first of a table is k exactly when the table gives k
pub first_given : {n : ℕ} (k : ℕ) (rs : List Row) → once rs ≡ true → n ≡ first rs → (n ≡ k) ↔ (given_by rs k ≡ true)
first_given {n} k rs e f = rw (← first_test k rs e, ← f) ((eqb_facts n k).1, (eqb_facts n k).0)

-- ---- the row of a number, wherever it stands
-- the reason beside a number, false where it stands in no row
unfoldable pub beside : ℕ → List Row → Bool
beside k [] = false
beside k (r ∷ rs) = pick (eqb k r.number) r.reason (beside k rs)

-- a number that is given has its reason
pub given_beside : (k : ℕ) (rs : List Row) → eqb k 0 ≡ false → given_by rs k ≡ true → beside k rs ≡ true
unfolding beside given_by
given_beside k [] z e = sym z ∙ e
given_beside k (r ∷ rs) z e =
    split (eqb k r.number)
    (λ b. rw b (rw b at e))
    (λ b. rw b (given_beside k rs z ((and_facts (not r.reason) (given_by rs k)).0 (rw b at e)).1))

-- number j stands in a row ahead of k's
unfoldable pub ahead : ℕ → ℕ → List Row → Bool
ahead j k [] = false
ahead j k (r ∷ rs) = not (eqb k r.number) && pick (eqb j r.number) true (ahead j k rs)

-- where k is given the reason beside such a number does not hold
pub given_ahead : (j k : ℕ) (rs : List Row) → ahead j k rs ≡ true → given_by rs k ≡ true → beside j rs ≡ false
unfolding beside ahead given_by
given_ahead j k [] a e = refl
given_ahead j k (r ∷ rs) a e =
    let f = (and_facts (not (eqb k r.number)) (pick (eqb j r.number) true (ahead j k rs))).0 a in
    let g = (and_facts (not r.reason) (given_by rs k)).0 (rw ((not_facts (eqb k r.number)).0 f.0) at e) in
    split (eqb j r.number)
    (λ b. rw b ((not_facts r.reason).0 g.0))
    (λ b. rw b (given_ahead j k rs (rw b at f.1) g.1))

-- ---- the two forms of a kind
-- both readings of them, and of which may stand last and between, agree
abbrev read_alike : ℕ → Bool
read_alike k =
    eqb (ordinary k) (refused_as k)
    && (same (eqb (ordinary k) 1) (last_right k) && same (between (ordinary k)) (other_right k))

-- on the numbers up to 20, which is computed; past them there is no kind
pub forms : (k : ℕ) → (ordinary k ≡ refused_as k) × ((eqb (ordinary k) 1 ≡ last_right k) × (between (ordinary k) ≡ other_right k))
unfolding ordinary is_short between refused_as last_right other_right every
forms k =
    least_or_below 21 k
    (λ h.
    let none : (c : ℕ) → ltb c 21 ≡ true → eqb k c ≡ false = λ c e. ne_eqb k c (λ z. omega (arith, ltb-true c 21 e)) in
    rw (le-leb 17 k (omega arith), lt-leb k 20 (omega arith)) (simp none (refl, (refl, refl))))
    (λ h. simp facts at (every_one 21 read_alike refl k h))
