-- The answer to an event on two tracks is the number that the table by the number gives it, and the table gives exactly one. So is the answer on starting.
-- A row appended to a table speaks only where the table gives 0; the rest is the table of one line.
use Prim.Native.Nat.{ℕ, ◌+◌, ◌-◌}
use mathlib.Core.Path.{◌≡◌, refl, sym, ap, ◌∙◌}
use mathlib.Core.Bool.{Bool, true, false, not, ◌&&◌, ◌||◌, or-false, or-true}
use mathlib.Core.List.{List, [], ◌∷◌, ◌++◌}
use mathlib.Core.Logic.{◌↔◌}
use native.Mathlib.Omega.{arith}
use borrow.Author.Tests.{eqb-true, ne_eqb}
use lib.Dec.{eqb}
use lib.ListN.{length}
use Rattle.relay.specs.Choice.{pick}
use Rattle.relay.specs.Events.{lacks, refusal}
use Rattle.relay.specs.Given.{Row, row, event_reasons, reasons, given_by, start_reasons, table_wrong}
use Rattle.relay.specs.Kinds.{has_garage_release, table_ok}
use Rattle.relay.specs.Line.{numbered, answer_of, startable}
use Rattle.relay.specs.declared.Head.{Head}
use Rattle.relay.specs.declared.Post.{Post}
use Rattle.relay.proofs.Accepted.{Accepted, accepted_iff}
use Rattle.relay.proofs.Given.{one_given, table-wrong, not_both}
use Rattle.relay.proofs.GivenForms.{first, absent, once, first_given}
use Rattle.relay.proofs.Truth.{and_facts, not_facts, split, equal_or_not}
use Rattle.tracks.specs.Circuit.{circuit_ok, on_wire, facing, valid_two, sends, sends_in, facing_of, hinders, met, at_last, answer_on, no_track, nowhere, AfterTwo, event_two, startable_two, start_two}
use Rattle.tracks.specs.Given.{also, other_way, wire, circuit_reason, reasons_two, given_two, start_reasons_two}
use Rattle.tracks.proofs.Answers.{on-answer-is}
use Rattle.tracks.proofs.Kept.{two_cases}
use Rattle.tracks.proofs.Together.{two_iff, either_way}

-- ---- tables
-- a reason that does not hold adds nothing
also_none : (k : ℕ) (rs ys : List Row) → first (also k false rs ++ ys) ≡ first (rs ++ ys)
unfolding first also
also_none k [] ys = refl
also_none k (r ∷ rs) ys =
    split (eqb k r.number) (λ e. rw (e, or-false)) (λ e. rw e (ap (pick r.reason r.number) (also_none k rs ys)))

-- a row at the end speaks where the table gives 0
appended : (rs : List Row) (j : ℕ) (b : Bool) → once rs ≡ true → first (rs ++ (row j b ∷ [])) ≡ pick (eqb (first rs) 0 && b) j (first rs)
unfolding first once absent
appended [] j b e = refl
appended (r ∷ rs) j b e =
    let f = (and_facts (absent r.number rs) (once rs)).0 e in
    split r.reason
    (λ z. rw (z, not_zero r.number rs f.0))
    (λ z. rw z (appended rs j b f.1))
  where
    not_zero : (m : ℕ) (rs : List Row) → absent m rs ≡ true → eqb m 0 ≡ false
    not_zero m [] e = unfold absent in (not_facts (eqb m 0)).0 e
    not_zero m (r ∷ rs) e = unfold absent in not_zero m rs ((and_facts (not (eqb m r.number)) (absent m rs)).0 e).1

-- the first number of one line's table is its answer
answer_first : (l : List Post) (s : Head) (n i t : ℕ) → first (reasons l s n i t) ≡ answer_of l s n i t
unfolding reasons event_reasons once absent
answer_first l s n i t = (first_given (answer_of l s n i t) (reasons l s n i t) refl refl).1 (one_given l s n i t).0

-- ---- 25
-- 6 and 7 are not taken at the first post
not_first : (l : List Post) (s : Head) (n i t : ℕ) → Accepted l s n i t → i ≡ 0 → (n ≡ 6 → ⊥) × (n ≡ 7 → ⊥)
unfolding refusal lacks has_garage_release
not_first l s n i t r z =
    let k = (r.valid.each i r.place).kind.first z in
    let own = r.own in
    (λ e. omega (arith, rw (e, k) at own), λ e. omega (arith, rw (e, k) at own))

-- the two readings of the section agree where the event is taken
same_section : (k : List Post) (c n i : ℕ) → (i ≡ 0 → (n ≡ 6 → ⊥) × (n ≡ 7 → ⊥)) → circuit_reason c k n i ≡ met c k n i
unfolding circuit_reason wire other_way met hinders facing_of sends sends_in facing on_wire
same_section k c n i f =
    equal_or_not n 5
    (λ e. let z : length k - 1 - (i + 1) ≡ length k - 2 - i = omega arith in rw (e, z) (simp or-false))
    (λ e.
    equal_or_not n 6
    (λ d. let z : length k - 1 - i ≡ length k - 2 - (i - 1) = equal_or_not i 0 (λ g. absurd ((f g).0 d)) (λ g. omega arith) in rw (d, z))
    (λ d.
    equal_or_not n 7
    (λ b. let z : length k - 1 - i ≡ length k - 2 - (i - 1) = equal_or_not i 0 (λ g. absurd ((f g).1 b)) (λ g. omega arith) in rw (b, z))
    (λ b. rw (ne_eqb n 5 e, ne_eqb n 6 d, ne_eqb n 7 b))))

-- ---- on a track: l is its line, k the other's
-- the table where the two may be used together
together : (c : ℕ) (l k : List Post) (s : Head) (n i t : ℕ)
    → pick (eqb (answer_of l s n i t) 0 && met c k n i) 25 (answer_of l s n i t)
    ≡ first (reasons l s n i t ++ (row 25 (circuit_reason c k n i) ∷ []))
together c l k s n i t =
    let A = answer_of l s n i t in
    let whole : once (reasons l s n i t) ≡ true = unfold reasons event_reasons once absent in refl in
    rw (appended (reasons l s n i t) 25 (circuit_reason c k n i) whole, answer_first l s n i t)
    (split (eqb A 0)
    (λ e. rw (same_section k c n i (not_first l s n i t ((accepted_iff l s n i t).0 (eqb-true _ _ e)))))
    (λ e. rw e))

-- the whole table, where the event names this track
pub on_first : (c : ℕ) (l k : List Post) (s : Head) (n i t : ℕ)
    → answer_on c l k s n i t
    ≡ first (also 1 (not (valid_two c l k s)) (also 2 false (reasons l s n i t)) ++ (row 25 (circuit_reason c k n i) ∷ []))
on_first c l k s n i t =
    split (valid_two c l k s)
    (λ v.
    let rest : answer_on c l k s n i t ≡ pick (eqb (answer_of l s n i t) 0 && met c k n i) 25 (answer_of l s n i t) = unfold answer_on at_last in rw v in
    rw (v, also_none 1 (also 2 false (reasons l s n i t)), also_none 2 (reasons l s n i t)) (rest ∙ together c l k s n i t))
    (λ v. unfold answer_on first also reasons in simp (v, or-true))

-- and where it names neither
none_first : (c : ℕ) (l k : List Post) (s : Head) (n i t : ℕ) (ys : List Row)
    → nowhere c l k s n ≡ first (also 1 (not (valid_two c l k s)) (also 2 true (reasons l s n i t)) ++ ys)
unfolding nowhere no_track numbered first also reasons
none_first c l k s n i t ys =
    split (valid_two c l k s)
    (λ v. simp (v, ((two_iff c l k s).0 v).own, or-true))
    (λ v. simp (v, or-true))

-- ---- by the number
-- the answer is the first number of the table whose reason holds
two_first : (c : ℕ) (l k : List Post) (s : Head) (track n i t : ℕ)
    → (event_two c l k s track n i t).told.answer ≡ first (reasons_two c l k s track n i t)
unfolding reasons_two
two_first c l k s track n i t =
    two_cases (λ a. a.told.answer ≡ first (reasons_two c l k s track n i t)) c l k s track n i t
    (λ e. rw e (on-answer-is c l k s n i t ∙ on_first c l k s n i t))
    (λ e. rw (e, either_way c l k s) (on-answer-is c k l s n i t ∙ on_first c k l s n i t))
    (λ d e. rw (ne_eqb track 0 d, ne_eqb track 1 e) (none_first c l k s n i t _))

-- 'Given exactly when': the answer is m exactly when the table gives m
pub two_given : (c : ℕ) (l k : List Post) (s : Head) (track n i t m : ℕ)
    → ((event_two c l k s track n i t).told.answer ≡ m) ↔ (given_two m c l k s track n i t ≡ true)
two_given c l k s track n i t m =
    let whole : once (reasons_two c l k s track n i t) ≡ true = unfold reasons_two also reasons event_reasons once absent in refl in
    first_given m (reasons_two c l k s track n i t) whole (two_first c l k s track n i t)

-- exactly one number is given
pub two_one_given : (c : ℕ) (l k : List Post) (s : Head) (track n i t : ℕ)
    → (given_two (event_two c l k s track n i t).told.answer c l k s track n i t ≡ true)
    × ((m : ℕ) → given_two m c l k s track n i t ≡ true → m ≡ (event_two c l k s track n i t).told.answer)
two_one_given c l k s track n i t = (
  (two_given c l k s track n i t (event_two c l k s track n i t).told.answer).0 refl,
  λ m e. sym ((two_given c l k s track n i t m).1 e),
)

-- the order of the numbers
abbrev pub numbers : List Row → List ℕ
numbers [] = []
numbers (r ∷ rs) = r.number ∷ numbers rs

pub in_order : (c : ℕ) (l k : List Post) (s : Head) (track n i t : ℕ)
    → numbers (reasons_two c l k s track n i t)
    ≡ 1 ∷ 3 ∷ 2 ∷ 5 ∷ 4 ∷ 6 ∷ 22 ∷ 23 ∷ 7 ∷ 8 ∷ 9 ∷ 11 ∷ 12 ∷ 13 ∷ 10 ∷ 14 ∷ 15 ∷ 16 ∷ 17 ∷ 25 ∷ []
unfolding reasons_two also reasons event_reasons
in_order c l k s track n i t = refl

-- ---- on starting
-- one row and table are wrong exactly when the paper's sentence says so
one_wrong : (l : List Post) (ks : List ℕ) → (not (eqb (length l) (length ks)) || table_wrong ks) ≡ not (startable l ks)
unfolding startable
one_wrong l ks = rw (← table-wrong ks) (sym (not_both (eqb (length l) (length ks)) (table_ok ks)))

-- the answer by four tests that must all pass
all_pass : (a b d e : Bool) (x y : AfterTwo)
    → (pick (a && (b && (d && e))) x y).told.answer
    ≡ pick (((not b || not d) || not e) || not a) y.told.answer x.told.answer
all_pass true true true true x y = refl
all_pass true true true false x y = refl
all_pass true true false e x y = refl
all_pass true false d e x y = refl
all_pass false b d e x y = rw (or-true ((not b || not d) || not e))

-- the answer is m exactly when the table gives m
pub start_two_given : (c : ℕ) (l k : List Post) (ks js : List ℕ) (t m : ℕ)
    → ((start_two c l k ks js t).told.answer ≡ m) ↔ (given_by (start_reasons_two c l k ks js) m ≡ true)
unfolding start_reasons_two also start_reasons given_by once absent first start_two startable_two circuit_ok
start_two_given c l k ks js t m =
    first_given m (start_reasons_two c l k ks js) refl
    (rw (one_wrong l ks, one_wrong k js)
    (all_pass (eqb c 0 || eqb c 1) (startable l ks) (startable k js) (eqb (length ks) (length js)) _ _))
