-- An event on a line, by what the tests before its own say: 1, then 3, 2, 5 and 4, then the two posts alone.
--     event_invalid    1: the line is as it was
--     event_gated      3, 2, 5 or 4: the line is as it was
--     event-worked     past them: what the by-value core makes of the two posts, stored over them. A refused core gives them back as they were
--     core-refused, core-taken     that core by the two outcomes of `step::gate::attempt`
--     gate_open        what the gate has tested when it gives 0
--     in_row           past them, the post named and its neighbour are two posts of the line
-- Assumes nothing.
use mathlib.Core.Path.{◌≡◌, refl, sym, ◌∙◌, ap}
use Prim.Native.Nat.{ℕ, zero, suc, ◌<◌, ◌≤◌, ◌+◌, ◌-◌}
use native.Mathlib.Omega.{arith}
use mathlib.Core.Bool.{Bool, true, false, not, ◌&&◌, ◌||◌}
use mathlib.Core.List.{List, [], ◌∷◌}
use lib.Dec.{eqb, leb, ltb}
use lib.ListN.{length, set}
use borrow.Author.Tests.{ne_eqb, leb-true, ltb-true, eqb-true, eqb-false, not-false}
use Rattle.relay.specs.Answers.{taken, notValid, noSuchEvent, noSuchPlace, sessionFull, stampBehind}
use Rattle.relay.specs.Choice.{pick, grown}
use Rattle.relay.specs.Clock.{behind}
use Rattle.relay.specs.Events.{pair, refusal, changed}
use Rattle.relay.specs.Kinds.{count_fits}
use Rattle.relay.specs.Line.{after, head, told, numbered, names_section, present, neighbour, gate, answer_of, changed_line, event_of, worked, work_of, Worked}
use Rattle.relay.specs.Posts.{at}
use Rattle.relay.specs.Valid.{most_events, valid}
use Rattle.relay.specs.declared.Head.{Head}
use Rattle.relay.specs.declared.Post.{Post}

-- ---- what the event is
module _ (l : List Post) (s : Head) (n i t : ℕ) where
  pub event_invalid : valid l s ≡ false → event_of l s n i t ≡ after (told notValid s) l
  unfolding event_of answer_of
  event_invalid e = rw e

  pub event_gated : (m : ℕ) → valid l s ≡ true → gate (length l) s n i t ≡ m → (m ≡ 0 → ⊥) → event_of l s n i t ≡ after (told m s) l
  unfolding event_of answer_of
  event_gated m e eg ne = let h : eqb m 0 ≡ false = ne_eqb m 0 ne in rw (e, eg, h) (rw h)

-- a post stored over itself
again : (l : List Post) (i : ℕ) → set l i (at l i) ≡ l
again [] i = refl
again (p ∷ l) zero = refl
again (p ∷ l) (suc i) = ap (λ (k : List Post). p ∷ k) (again l i)

-- what the by-value core makes of the post named and its neighbour
abbrev pub core : List Post → Head → ℕ → ℕ → ℕ → Worked
core l s n i t = work_of s n t (at l i) (at l (neighbour n i))

-- the line with that stored over the two
abbrev pub stored : List Post → ℕ → ℕ → Worked → List Post
stored l n i w = set (set l i w.here) (neighbour n i) w.other

module _ (l : List Post) (s : Head) (n i t : ℕ) where
  -- the event's own answer
  abbrev own : ℕ
  own = refusal n (at l i).kind (at l i).word (at l (neighbour n i)).word

  kept : stored l n i (worked (told own s) (pair (at l i) (at l (neighbour n i)))) ≡ l
  kept = ap (λ (k : List Post). set k (neighbour n i) (at l (neighbour n i))) (again l i) ∙ again l (neighbour n i)

  by_own : (b : Bool) → eqb own 0 ≡ b → answer_of l s n i t ≡ own → event_of l s n i t ≡ after (core l s n i t).told (stored l n i (core l s n i t))
  unfolding event_of work_of changed_line
  by_own true e ea = rw ea (rw e refl)
  by_own false e ea = rw ea (rw e (ap (after (told own s)) (sym kept)))

  pub event-worked : valid l s ≡ true → gate (length l) s n i t ≡ 0 → event_of l s n i t ≡ after (core l s n i t).told (stored l n i (core l s n i t))
  unfolding answer_of
  event-worked e eg = by_own (eqb own 0) refl (rw (e, eg))

-- what the by-value core returns says it whole: refused, by its number; taken, with the two posts that the event makes
module _ (s : Head) (n t : ℕ) (p o : Post) where
  pub core-refused : (m : ℕ) → m ≡ refusal n p.kind p.word o.word → (m ≡ 0 → ⊥) → work_of s n t p o ≡ worked (told m s) (pair p o)
  unfolding work_of
  core-refused m e ne = let h : eqb m 0 ≡ false = ne_eqb m 0 ne in rw (← e, h) refl

  pub core-taken : 0 ≡ refusal n p.kind p.word o.word → work_of s n t p o ≡ worked (told taken (head (grown s.taken) t)) (changed n p o)
  unfolding work_of
  core-taken e = rw (← e) refl

-- ---- past the gate
-- 3, 2, 5 and 4 are not given
pub record Open (m : ℕ) (s : Head) (n i t : ℕ) : Type 0 where
  pub known : numbered n ≡ true
  pub there : present m n i ≡ true
  pub room : leb most_events s.taken ≡ false
  pub timely : behind s.last t ≡ false

passes : (b : Bool) (k x : ℕ) → (k ≡ 0 → ⊥) → pick b k x ≡ 0 → (b ≡ false) × (x ≡ 0)
passes true k x ne e = absurd (ne e)
passes false k x ne e = (refl, e)

pub gate_open : (m : ℕ) (s : Head) (n i t : ℕ) → gate m s n i t ≡ 0 → Open m s n i t
unfolding gate
gate_open m s n i t e =
    let a = passes (not (numbered n)) noSuchEvent _ (λ z. omega (arith, z)) e in
    let b = passes (not (present m n i)) noSuchPlace _ (λ z. omega (arith, z)) a.1 in
    let c = passes (leb most_events s.taken) sessionFull _ (λ z. omega (arith, z)) b.1 in
    let d = passes (behind s.last t) stampBehind 0 (λ z. omega (arith, z)) c.1 in
    record { known = not-false (numbered n) a.0; there = not-false (present m n i) b.0; room = c.0; timely = d.0 }

-- the post named and its neighbour are two posts of a line of m
pub record InRow (m n i : ℕ) : Type 0 where
  pub here : i < m
  pub other : neighbour n i < m
  pub apart : i ≡ neighbour n i → ⊥

placed : (b z : Bool) (m i : ℕ) → eqb i 0 ≡ z → 2 ≤ m → pick b (ltb (i + 1) m) (ltb i m) ≡ true → (i < m) × ((pick (b || z) (i + 1) (i - 1) < m) × (i ≡ pick (b || z) (i + 1) (i - 1) → ⊥))
placed true z m i ez two h = let l : i + 1 < m = ltb-true (i + 1) m h in (omega arith, (l, λ e. omega arith))
placed false true m i ez two h = let z : i ≡ 0 = eqb-true i 0 ez in (omega arith, (omega arith, λ e. omega arith))
placed false false m zero ez two h = absurd (eqb-false 0 0 ez refl)
placed false false m (suc i) ez two h = let l : suc i < m = ltb-true (suc i) m h in (l, (omega arith, λ e. omega arith))

first : (a b : Bool) → (a && b) ≡ true → a ≡ true
first true b e = refl
first false b e = e

two_posts : (l : List Post) (s : Head) → valid l s ≡ true → 2 ≤ length l
unfolding valid count_fits
two_posts l s e = leb-true 2 (length l) (first _ _ (first _ _ e))

pub in_row : (l : List Post) (s : Head) (n i t : ℕ) → valid l s ≡ true → gate (length l) s n i t ≡ 0 → InRow (length l) n i
unfolding present neighbour
in_row l s n i t e eg =
    let h = placed (names_section n) (eqb i 0) (length l) i refl (two_posts l s e) (gate_open (length l) s n i t eg).there in
    record { here = h.0; other = h.1.0; apart = h.1.1 }
