-- What the other track alters of a track's answers: nothing with vibrated current; with polarised current it turns some 0 into 25, and nothing else. And when 25 is given.
-- The answer is the base's, unless that is 0 and the other's signal is under way where the event sends.
use Prim.Native.Nat.{ℕ}
use mathlib.Core.Path.{◌≡◌, refl, sym, ◌∙◌}
use mathlib.Core.Bool.{Bool, true, false, ◌&&◌, ◌||◌}
use mathlib.Core.List.{List}
use mathlib.Core.Logic.{◌↔◌, ◌⊎◌, inl, inr, ⊎_elim}
use native.Mathlib.Omega.{arith}
use borrow.Author.Tests.{eqb-true}
use lib.Dec.{eqb, leb}
use lib.ListN.{length}
use Rattle.relay.specs.Choice.{pick}
use Rattle.relay.specs.Clock.{behind}
use Rattle.relay.specs.Line.{After, numbered, present, gate, answer_of, event_of}
use Rattle.relay.specs.Valid.{valid, most_events}
use Rattle.relay.specs.declared.Head.{Head}
use Rattle.relay.specs.declared.Post.{Post}
use Rattle.relay.proofs.Accepted.{Accepted, accepted_iff}
use Rattle.relay.proofs.Frame.{answer_is, answer-small}
use Rattle.relay.proofs.Truth.{facts, or_facts, split}
use Rattle.history.proofs.Agrees.{and-false}
use Rattle.tracks.specs.Circuit.{polarised, vibrated, circuit_busy, busy, facing, valid_two, sends, sends_in, facing_of, hinders, met, at_last, answer_on, event_on, no_track, nowhere, event_two}
use Rattle.tracks.proofs.Kept.{on_cases, two_cases}
use Rattle.tracks.proofs.Together.{two_iff}
use Rattle.tracks.proofs.CircuitKinds.{ValidTwo}

-- ---- the answer
-- on a track it is that of the order of refusals
pub on-answer-is : (c : ℕ) (l k : List Post) (s : Head) (n i t : ℕ) → (event_on c l k s n i t).told.answer ≡ answer_on c l k s n i t
on-answer-is c l k s n i t =
    on_cases (λ a. a.told.answer ≡ answer_on c l k s n i t) c l k s n i t
    (λ v r m. answer_is l s n i t ∙ (accepted_iff l s n i t).1 r ∙ sym (taken-again v r m))
    (λ e. refl)
  where
    taken-again : ValidTwo c l k s → Accepted l s n i t → met c k n i ≡ false → answer_on c l k s n i t ≡ 0
    taken-again v r m = unfold answer_on at_last in rw ((two_iff c l k s).1 v, (accepted_iff l s n i t).1 r, m)

-- ---- 25
-- no event of one line is given it
pub never-busy : (l : List Post) (s : Head) (n i t : ℕ) → answer_of l s n i t ≡ circuit_busy → ⊥
never-busy l s n i t e = omega (arith, answer-small l s n i t)

-- what is known of an event that is given 25: it is one of 5, 6 and 7 on polarised current, which its own list would take, and the other track's signal is
-- under way between the same two posts
pub record Busy (c : ℕ) (l k : List Post) (s : Head) (n i t : ℕ) : Type 0 where
  pub valid : ValidTwo c l k s
  pub polar : c ≡ polarised
  pub number : (n ≡ 5) ⊎ ((n ≡ 6) ⊎ (n ≡ 7))
  pub accepted : Accepted l s n i t
  pub under-way : busy k (facing (length k) (sends_in n i)) ≡ true

sends-iff : (n : ℕ) → (sends n ≡ true) ↔ ((n ≡ 5) ⊎ ((n ≡ 6) ⊎ (n ≡ 7)))
unfolding sends
sends-iff n = (
  or_facts (eqb n 5) (eqb n 6 || eqb n 7) (λ e. inl (eqb-true n 5 e))
      (or_facts (eqb n 6) (eqb n 7) (λ e. inr (inl (eqb-true n 6 e))) (λ e. inr (inr (eqb-true n 7 e)))),
  ⊎_elim (λ e. rw e) (⊎_elim (λ e. rw e) (λ e. rw e)),
)

met-iff : (c : ℕ) (k : List Post) (n i : ℕ)
    → (met c k n i ≡ true) ↔ ((c ≡ polarised) × ((sends n ≡ true) × (busy k (facing (length k) (sends_in n i)) ≡ true)))
unfolding met hinders facing_of busy
met-iff c k n i = (
  λ e. let f = simp facts at e in (f.0, (f.1.0, rw f.1.0 at f.1.1)),
  λ f. simp facts (f.0, (f.1.0, rw f.1.0 f.1.1)),
)

-- the answer is 25 exactly then
pub busy-iff : (c : ℕ) (l k : List Post) (s : Head) (n i t : ℕ) → (answer_on c l k s n i t ≡ circuit_busy) ↔ Busy c l k s n i t
unfolding answer_on at_last
busy-iff c l k s n i t = (λ e. from-answer e, λ r. to-answer r)
  where
    from-answer : answer_on c l k s n i t ≡ circuit_busy → Busy c l k s n i t
    from-answer e =
        split (valid_two c l k s)
        (λ v.
        split (at_last (answer_of l s n i t) (met c k n i))
        (λ b.
        let f = simp facts at b in
        let m = (met-iff c k n i).0 f.1 in
        record {
          valid = (two_iff c l k s).0 v;
          polar = m.0;
          number = (sends-iff n).0 m.1.0;
          accepted = (accepted_iff l s n i t).0 f.0;
          under-way = m.1.1;
        })
        (λ b. absurd (never-busy l s n i t (rw (v, b) at e))))
        (λ v. absurd (omega (arith, rw v at e)))

    to-answer : Busy c l k s n i t → answer_on c l k s n i t ≡ circuit_busy
    to-answer r =
        rw ((two_iff c l k s).1 r.valid, (accepted_iff l s n i t).1 r.accepted, (met-iff c k n i).1 (r.polar, ((sends-iff n).1 r.number, r.under-way)))

-- ---- vibrated current
vibrated-answer : (l k : List Post) (s : Head) (n i t : ℕ) → ValidTwo vibrated l k s → answer_on vibrated l k s n i t ≡ answer_of l s n i t
unfolding answer_on at_last met hinders
vibrated-answer l k s n i t v = simp ((two_iff vibrated l k s).1 v, and-false)

-- an event is the base's own: answer, head and line are those of the track alone
pub vibrated-alone : (l k : List Post) (s : Head) (n i t : ℕ) → ValidTwo vibrated l k s → event_on vibrated l k s n i t ≡ event_of l s n i t
unfolding event_on event_of
vibrated-alone l k s n i t v =
    rw (vibrated-answer l k s n i t v) (split (eqb (answer_of l s n i t) 0) (λ e. rw e) (λ e. rw e))

-- 'stamps and the event limit aside': the answer is neither 4 nor 5
abbrev pub Timely : ℕ → Type 0
Timely a = (a ≡ 4 → ⊥) × (a ≡ 5 → ⊥)

-- two gates that give neither give the same
gate_same : (m : ℕ) (s s' : Head) (n i t : ℕ) → Timely (gate m s n i t) → Timely (gate m s' n i t) → gate m s n i t ≡ gate m s' n i t
unfolding gate
gate_same m s s' n i t a b =
    split (numbered n)
    (λ e.
    split (present m n i)
    (λ f.
    split (leb most_events s.taken)
    (λ g. absurd (a.1 (rw (e, f, g))))
    (λ g.
    split (behind s.last t)
    (λ h. absurd (a.0 (rw (e, f, g, h))))
    (λ h.
    split (leb most_events s'.taken)
    (λ x. absurd (b.1 (rw (e, f, x))))
    (λ x. split (behind s'.last t) (λ y. absurd (b.0 (rw (e, f, x, y)))) (λ y. rw (e, f, g, h, x, y))))))
    (λ f. rw (e, f)))
    (λ e. rw e)

-- an answer that is neither comes from a gate that is neither
gate-timely : (l : List Post) (s : Head) (n i t : ℕ) → valid l s ≡ true → Timely (answer_of l s n i t) → Timely (gate (length l) s n i t)
unfolding answer_of
gate-timely l s n i t v a =
    split (eqb (gate (length l) s n i t) 0)
    (λ e. let z : gate (length l) s n i t ≡ 0 = eqb-true _ _ e in (λ f. omega arith, λ f. omega arith))
    (λ e. rw (v, e) at a)

answer-same : (l : List Post) (s s' : Head) (n i t : ℕ) → valid l s ≡ true → valid l s' ≡ true
    → Timely (answer_of l s n i t) → Timely (answer_of l s' n i t)
    → answer_of l s n i t ≡ answer_of l s' n i t
unfolding answer_of
answer-same l s s' n i t v v' a a' =
    let g = gate_same (length l) s s' n i t (gate-timely l s n i t v a) (gate-timely l s' n i t v' a') in
    rw (v, v', g)

line_same : (l : List Post) (s s' : Head) (n i t : ℕ) → answer_of l s n i t ≡ answer_of l s' n i t
    → (event_of l s n i t).line ≡ (event_of l s' n i t).line
unfolding event_of
line_same l s s' n i t e = rw e (split (eqb (answer_of l s' n i t) 0) (λ z. rw z) (λ z. rw z))

-- two events give the same answer and leave the same line
abbrev pub Alike : After → After → Type 0
Alike a b = (a.told.answer ≡ b.told.answer) × (a.line ≡ b.line)

-- so they do under two heads, where neither gives 4 or 5
pub head-aside : (l : List Post) (s s' : Head) (n i t : ℕ) → valid l s ≡ true → valid l s' ≡ true
    → Timely (event_of l s n i t).told.answer → Timely (event_of l s' n i t).told.answer
    → Alike (event_of l s n i t) (event_of l s' n i t)
head-aside l s s' n i t v v' a a' =
    let e = answer-same l s s' n i t v v' (rw (answer_is l s n i t) at a) (rw (answer_is l s' n i t) at a') in
    (answer_is l s n i t ∙ e ∙ sym (answer_is l s' n i t), line_same l s s' n i t e)

-- 'With vibrated current the other track's events alter none of a track's answers, stamps and the event limit aside': whatever the other line and the head are
pub vibrated-same : (l k k' : List Post) (s s' : Head) (n i t : ℕ) → ValidTwo vibrated l k s → ValidTwo vibrated l k' s'
    → Timely (event_on vibrated l k s n i t).told.answer → Timely (event_on vibrated l k' s' n i t).told.answer
    → Alike (event_on vibrated l k s n i t) (event_on vibrated l k' s' n i t)
vibrated-same l k k' s s' n i t v v' a a' =
    let z = vibrated-alone l k s n i t v in
    let y = vibrated-alone l k' s' n i t v' in
    rw (z, y) (head-aside l s s' n i t v.own v'.own (rw z at a) (rw y at a'))

-- ---- polarised current
-- equal, or 0 on one side and 25 on the other
abbrev pub Turned : ℕ → ℕ → Type 0
Turned a b = (a ≡ b) ⊎ (((a ≡ 0) × (b ≡ circuit_busy)) ⊎ ((a ≡ circuit_busy) × (b ≡ 0)))

turned_by : (x y : Bool) (a : ℕ) → Turned (pick (eqb a 0 && x) circuit_busy a) (pick (eqb a 0 && y) circuit_busy a)
turned_by x y a =
    split (eqb a 0)
    (λ e.
    split x
    (λ f. split y (λ g. rw (e, f, g) (inl refl)) (λ g. rw (e, f, g) (inr (inr (refl, eqb-true a 0 e)))))
    (λ f. split y (λ g. rw (e, f, g) (inr (inl (eqb-true a 0 e, refl)))) (λ g. rw (e, f, g) (inl refl))))
    (λ e. rw e (inl refl))

-- 'for one state of a track and one event on it, the other track's state, where the two together are valid, can only turn 0 into 25'
pub only-turns : (c : ℕ) (l k k' : List Post) (s : Head) (n i t : ℕ) → ValidTwo c l k s → ValidTwo c l k' s
    → Turned (answer_on c l k s n i t) (answer_on c l k' s n i t)
unfolding answer_on at_last
only-turns c l k k' s n i t v v' =
    rw ((two_iff c l k s).1 v, (two_iff c l k' s).1 v') (turned_by (met c k n i) (met c k' n i) (answer_of l s n i t))

-- so that it is the answer of the track alone, or 25 where that is 0
pub on-or-busy : (c : ℕ) (l k : List Post) (s : Head) (n i t : ℕ) → ValidTwo c l k s
    → (answer_on c l k s n i t ≡ answer_of l s n i t) ⊎ ((answer_of l s n i t ≡ 0) × (answer_on c l k s n i t ≡ circuit_busy))
unfolding answer_on at_last
on-or-busy c l k s n i t v =
    rw ((two_iff c l k s).1 v)
    (split (at_last (answer_of l s n i t) (met c k n i))
    (λ e. rw e (inr ((simp facts at e).0, refl)))
    (λ e. rw e (inl refl)))

-- ---- whichever track the event names
-- 25 is given to 5, 6 and 7 alone, on polarised current, and on a track that is one of the two
pub two-busy : (c : ℕ) (l k : List Post) (s : Head) (track n i t : ℕ) → (event_two c l k s track n i t).told.answer ≡ circuit_busy
    → ((track ≡ 0) × Busy c l k s n i t) ⊎ ((track ≡ 1) × Busy c k l s n i t)
two-busy c l k s track n i t =
    two_cases (λ a. a.told.answer ≡ circuit_busy → ((track ≡ 0) × Busy c l k s n i t) ⊎ ((track ≡ 1) × Busy c k l s n i t)) c l k s track n i t
    (λ z e. inl (z, (busy-iff c l k s n i t).0 (sym (on-answer-is c l k s n i t) ∙ e)))
    (λ z e. inr (z, (busy-iff c k l s n i t).0 (sym (on-answer-is c k l s n i t) ∙ e)))
    (λ y z e. absurd (nowhere-small e))
  where
    nowhere-small : nowhere c l k s n ≡ circuit_busy → ⊥
    nowhere-small e =
        unfold nowhere no_track in
        split (valid_two c l k s)
        (λ v. split (numbered n) (λ f. omega (arith, rw (v, f) at e)) (λ f. omega (arith, rw (v, f) at e)))
        (λ v. omega (arith, rw v at e))
