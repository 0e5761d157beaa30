-- An event on a track, by what the tests before its own say: 1, then 3, 2, 5 and 4, then the two posts and the word of the facing post alone; and the event on two tracks, by the track.
--     on_invalid       1: the line is as it was
--     on_gated         3, 2, 5 or 4: the line is as it was
--     on-worked        past them: what the by-value core makes of the two posts, stored over them. A refused core gives them back as they were
--     beside-refused, beside-taken     that core by the two outcomes of `circuit::attempt_beside`
--     facing_in_row    the facing post is one of the other line
--     answer_gated, answer_own, stays, changes, told_on    the answer, the line and the head by themselves
--     two_first        track 0: the event on the first line beside the second
--     two_second       track 1: the event on the second line beside the first
--     two_neither      any other: both lines are as they were
--     two_invalid      1, whichever track is named
-- Assumes nothing.
use Prim.Native.Nat.{ℕ, zero, suc, ◌≤◌, ◌<◌}
use mathlib.Core.Path.{◌≡◌, refl, sym, ap, ◌∙◌}
use mathlib.Core.Bool.{Bool, true, false}
use mathlib.Core.List.{List, [], ◌∷◌}
use native.Mathlib.Omega.{arith}
use borrow.Author.Tests.{ne_eqb, eqb-true}
use lib.Dec.{eqb}
use lib.ListN.{length, set}
use Rattle.relay.specs.Answers.{taken, notValid}
use Rattle.relay.specs.Choice.{pick, grown}
use Rattle.relay.specs.Events.{pair, refusal, changed}
use Rattle.relay.specs.Line.{After, after, told, head, gate, neighbour, answer_of, changed_line, event_of, worked, work_of, Worked}
use Rattle.relay.specs.Posts.{at}
use Rattle.relay.specs.declared.Head.{Head}
use Rattle.relay.specs.declared.Pair.{Pair}
use Rattle.relay.specs.declared.Post.{Post}
use Rattle.relay.proofs.Frame.{answer_is}
use Rattle.relay.proofs.Steps.{event-worked, core, stored, core-refused, core-taken}
use Rattle.relay.proofs.Truth.{split, equal_or_not}
use Rattle.relay.proofs.Accepted.{accepted_iff}
use Rattle.tracks.specs.Circuit.{circuit_busy, valid_two, sends, sends_in, facing, facing_of, hinders, met, at_last, refusal_beside, answer_on, event_on, work_on, after_two, beside, turned, nowhere, event_two}
use Rattle.tracks.proofs.Kept.{two_cases, on-taken}
use Rattle.tracks.proofs.Together.{two_iff, either_way}

-- ---- the by-value core: x is what the base makes of the two posts p and o, w the word of the facing post
module _ (c : ℕ) (s : Head) (n t : ℕ) (p o : Post) (w : ℕ) (x : Worked) (e : x ≡ work_of s n t p o) where
  -- what it takes is refused where the circuit is busy
  pub core-busy : at_last x.told.answer (hinders c n w) ≡ true → worked (told circuit_busy s) (pair p o) ≡ work_on c s n t p o w
  unfolding work_on
  core-busy b = rw (← e, b)

  -- all else is as the base makes it
  pub core-free : at_last x.told.answer (hinders c n w) ≡ false → x ≡ work_on c s n t p o w
  unfolding work_on
  core-free b = rw (← e, b)

-- what the by-value core returns says it whole: refused, by its number; taken, with the two posts that the event makes
module _ (c : ℕ) (s : Head) (n t : ℕ) (p o : Post) (w : ℕ) where
  -- the base answers by its own list
  answer-own : (work_of s n t p o).told.answer ≡ refusal n p.kind p.word o.word
  unfolding work_of
  answer-own = split (eqb (refusal n p.kind p.word o.word) 0) (λ e. rw e (sym (eqb-true (refusal n p.kind p.word o.word) 0 e))) (λ e. rw e refl)

  pub beside-refused : (m : ℕ) → m ≡ refusal_beside c n p.kind p.word o.word w → (m ≡ 0 → ⊥) → work_on c s n t p o w ≡ worked (told m s) (pair p o)
  unfolding work_on refusal_beside work_of
  beside-refused m e f =
      split (at_last (refusal n p.kind p.word o.word) (hinders c n w))
      (λ b. let q : m ≡ circuit_busy = e ∙ rw b refl in rw (answer-own, b, q) refl)
      (λ b. let q : m ≡ refusal n p.kind p.word o.word = e ∙ rw b refl in rw (answer-own, b) (core-refused s n t p o m q f))

  pub beside-taken : 0 ≡ refusal_beside c n p.kind p.word o.word w → work_on c s n t p o w ≡ worked (told taken (head (grown s.taken) t)) (changed n p o)
  unfolding work_on refusal_beside work_of
  beside-taken e =
      split (at_last (refusal n p.kind p.word o.word) (hinders c n w))
      (λ b. let q : 0 ≡ 25 = e ∙ rw b refl in absurd (omega arith))
      (λ b. let q : 0 ≡ refusal n p.kind p.word o.word = e ∙ rw b refl in rw (answer-own, b) (core-taken s n t p o q))

-- below the first post there is no section
pub none_below : (n i : ℕ) → (n ≡ 5 → ⊥) → i ≡ 0 → 0 ≡ sends_in n i
unfolding sends_in
none_below n i f e = rw (ne_eqb n 5 f, e)

-- the facing post of an event that sends, and of one that does not
pub faces : (m n i j r : ℕ) → sends n ≡ true → j ≡ sends_in n i → r ≡ facing m j → r ≡ facing_of m n i
unfolding facing_of
faces m n i j r e f g = rw e (g ∙ ap (facing m) f)

pub faces_none : (m n i : ℕ) → sends n ≡ false → 0 ≡ facing_of m n i
unfolding facing_of
faces_none m n i e = rw e

-- it is one of the other line
pub facing_in_row : (m n i : ℕ) → 1 ≤ m → facing_of m n i < m
unfolding facing_of facing
facing_in_row m n i h = split (sends n) (λ e. rw e (omega arith)) (λ e. rw e (omega arith))

-- two posts stored over themselves
again : (l : List Post) (i : ℕ) → set l i (at l i) ≡ l
again [] i = refl
again (p ∷ l) zero = refl
again (p ∷ l) (suc i) = ap (λ (k : List Post). p ∷ k) (again l i)

restored : (l : List Post) (n i : ℕ) → set (set l i (at l i)) (neighbour n i) (at l (neighbour n i)) ≡ l
restored l n i = ap (λ (k : List Post). set k (neighbour n i) (at l (neighbour n i))) (again l i) ∙ again l (neighbour n i)

-- ---- what the event is: l is the line of the track, k the other's
module _ (c : ℕ) (l k : List Post) (s : Head) (n i t : ℕ) where
  pub on_invalid : valid_two c l k s ≡ false → event_on c l k s n i t ≡ after (told notValid s) l
  unfolding event_on answer_on
  on_invalid e = rw e

  -- an answer of the line's own that is not 0 is given, and alters nothing
  refused-alone : (m : ℕ) → valid_two c l k s ≡ true → answer_of l s n i t ≡ m → (m ≡ 0 → ⊥) → event_on c l k s n i t ≡ after (told m s) l
  unfolding event_on answer_on at_last
  refused-alone m v e f = let z : eqb m 0 ≡ false = ne_eqb m 0 f in rw (v, e, z) (rw z)

  pub on_gated : (m : ℕ) → valid_two c l k s ≡ true → gate (length l) s n i t ≡ m → (m ≡ 0 → ⊥) → event_on c l k s n i t ≡ after (told m s) l
  unfolding answer_of
  on_gated m v e f =
      let own = ((two_iff c l k s).0 v).own in
      let z : eqb m 0 ≡ false = ne_eqb m 0 f in
      refused-alone m v (rw (own, e, z)) f

  -- what the by-value core makes of the post named, its neighbour and the word of the facing post
  abbrev pub core_on : Worked
  core_on = work_on c s n t (at l i) (at l (neighbour n i)) (at k (facing_of (length k) n i)).word

  -- unless the line would take it and the circuit is busy, it is the line's own event
  pub on-alone : valid_two c l k s ≡ true → at_last (answer_of l s n i t) (met c k n i) ≡ false → event_on c l k s n i t ≡ event_of l s n i t
  unfolding event_on answer_on event_of
  on-alone v b = rw (v, b) (split (eqb (answer_of l s n i t) 0) (λ e. rw e) (λ e. rw e))

  -- else it is refused
  pub on-busy : valid_two c l k s ≡ true → at_last (answer_of l s n i t) (met c k n i) ≡ true → event_on c l k s n i t ≡ after (told circuit_busy s) l
  unfolding event_on answer_on
  on-busy v b = rw (v, b)

  -- and so is the core
  core_is : (b : Bool) → at_last (answer_of l s n i t) (met c k n i) ≡ b → answer_of l s n i t ≡ (core l s n i t).told.answer
      → core_on ≡ pick b (worked (told circuit_busy s) (pair (at l i) (at l (neighbour n i)))) (core l s n i t)
  unfolding work_on met
  core_is b e same = rw (← e, same)

  pub on-worked : valid_two c l k s ≡ true → gate (length l) s n i t ≡ 0
      → event_on c l k s n i t ≡ after core_on.told (stored l n i core_on)
  on-worked v e =
      let alone = event-worked l s n i t ((two_iff c l k s).0 v).own e in
      let same = sym (answer_is l s n i t) ∙ ap (λ (a : After). a.told.answer) alone in
      split (at_last (answer_of l s n i t) (met c k n i))
      (λ b. rw (core_is true b same) (on-busy v b ∙ ap (after (told circuit_busy s)) (sym (restored l n i))))
      (λ b. rw (core_is false b same) (on-alone v b ∙ alone))

  -- ---- the same by the answer alone, and the line and the head that it leaves
  pub answer_gated : (m : ℕ) → valid_two c l k s ≡ true → m ≡ gate (length l) s n i t → (m ≡ 0 → ⊥) → m ≡ answer_on c l k s n i t
  unfolding answer_on answer_of at_last
  answer_gated m v e f =
      let own = ((two_iff c l k s).0 v).own in
      let z : eqb m 0 ≡ false = ne_eqb m 0 f in
      rw (v, own, ← e, z) (rw z refl)

  pub answer_own : valid_two c l k s ≡ true → gate (length l) s n i t ≡ 0 → (j f : ℕ) → j ≡ neighbour n i → f ≡ facing_of (length l) n i
      → refusal_beside c n (at l i).kind (at l i).word (at l j).word (at k f).word ≡ answer_on c l k s n i t
  unfolding answer_on answer_of refusal_beside met
  answer_own v e j f ej ef =
      let two = (two_iff c l k s).0 v in
      let g : f ≡ facing_of (length k) n i = ef ∙ ap (λ (m : ℕ). facing_of m n i) two.long in
      rw (v, two.own, e, ej, g) refl

  pub stays : (m : ℕ) → m ≡ answer_on c l k s n i t → (m ≡ 0 → ⊥) → l ≡ (event_on c l k s n i t).line
  unfolding event_on
  stays m e f = let z : eqb m 0 ≡ false = ne_eqb m 0 f in rw (← e, z) refl

  answer_alone : answer_on c l k s n i t ≡ 0 → answer_of l s n i t ≡ 0
  answer_alone e = (accepted_iff l s n i t).1 (on-taken c l k s n i t e).1.0

  pub changes : (j : ℕ) (b : Pair) → j ≡ neighbour n i → b ≡ changed n (at l i) (at l j) → 0 ≡ answer_on c l k s n i t
      → set (set l i b.here) j b.other ≡ (event_on c l k s n i t).line
  unfolding event_on event_of changed_line
  changes j b ej eb e = rw (eb, ej, sym e, answer_alone (sym e)) refl

  pub told_on : pick (eqb (answer_on c l k s n i t) taken) (told taken (head (grown s.taken) t)) (told (answer_on c l k s n i t) s) ≡ (event_on c l k s n i t).told
  unfolding event_on event_of
  told_on =
      equal_or_not (answer_on c l k s n i t) 0
      (λ e. rw (e, answer_alone e) refl)
      (λ f. let z : eqb (answer_on c l k s n i t) 0 ≡ false = ne_eqb (answer_on c l k s n i t) 0 f in rw z refl)

-- ---- by the track
module _ (c : ℕ) (l k : List Post) (s : Head) (n i t : ℕ) where
  pub two_first : event_two c l k s 0 n i t ≡ beside (event_on c l k s n i t) k
  unfolding event_two
  two_first = refl

  pub two_second : event_two c l k s 1 n i t ≡ turned (beside (event_on c k l s n i t) l)
  unfolding event_two
  two_second = refl

  pub two_neither : (track : ℕ) → (track ≡ 0 → ⊥) → (track ≡ 1 → ⊥) → event_two c l k s track n i t ≡ after_two (told (nowhere c l k s n) s) l k
  unfolding event_two
  two_neither track e f = rw (ne_eqb track 0 e, ne_eqb track 1 f)

  -- so where the two may not be used together it is 1, whichever it names
  pub two_invalid : (track : ℕ) → valid_two c l k s ≡ false → event_two c l k s track n i t ≡ after_two (told notValid s) l k
  two_invalid track e =
      two_cases (λ a. a ≡ after_two (told notValid s) l k) c l k s track n i t
      (λ z. rw (on_invalid c l k s n i t e))
      (λ z. rw (on_invalid c k l s n i t (sym (either_way c l k s) ∙ e)))
      (λ y z. unfold nowhere in rw e)
