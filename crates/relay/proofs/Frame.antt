-- What an event leaves alone: a refused event alters nothing, one that is taken moves the session head by 1 and alters at most two neighbours; and a call has one outcome.
-- Each holds because an event is a choice by its answer between the line and head as they were and the line with two records set.
use Prim.Native.Nat.{ℕ, ◌+◌, ◌≤◌, ◌<◌}
use mathlib.Core.Path.{◌≡◌, refl, sym, ◌∙◌}
use mathlib.Core.Bool.{Bool, true, false, ◌||◌}
use mathlib.Core.List.{List}
use mathlib.Core.Logic.{◌↔◌, ◌⊎◌, inl, inr, ⊎_elim}
use native.Mathlib.Omega.{arith}
use borrow.Author.Tests.{leb-true, eqb-true, ne_eqb}
use lib.Dec.{eqb, leb}
use lib.ListN.{length, length-set}
use lib.Seq.{get_or-set_same, get_or-set_other, lt-length-set}
use Rattle.relay.specs.Choice.{pick, same, grown}
use Rattle.relay.specs.Events.{reverse_refusal, normal_refusal, announce_refusal, release_refusal, garage_refusal, under_way_refusal, restore_refusal, lacks, own_refusal, refusal, changed}
use Rattle.relay.specs.Examples.{lacks_table, listed}
use Rattle.relay.specs.Line.{head, After, last_event, names_section, neighbour, gate, answer_of, changed_line, event_of, Gives}
use Rattle.relay.specs.Posts.{at, blank}
use Rattle.relay.specs.Valid.{valid}
use Rattle.relay.specs.declared.Head.{Head}
use Rattle.relay.specs.declared.Post.{Post}
use Rattle.relay.specs.declared.Told.{Told}
use Rattle.relay.proofs.Accepted.{Accepted, accepted_iff, event_cases}
use Rattle.relay.proofs.Rules.{rules}
use Rattle.relay.proofs.Truth.{every, split, equal_or_not, pick_same, or_facts}

-- ---- the answer
-- an event's answer is that of the order of refusals
pub answer_is : (l : List Post) (s : Head) (n i t : ℕ) → (event_of l s n i t).told.answer ≡ answer_of l s n i t
answer_is l s n i t =
    event_cases (λ a. a.told.answer ≡ answer_of l s n i t) l s n i t (λ r. sym ((accepted_iff l s n i t).1 r)) (λ e. refl)

-- the numbers that an event can be given
abbrev pub an_events : ℕ → Bool
an_events k = leb k 17 || eqb k 22 || eqb k 23

-- a list of refusals gives no other if neither its first nor its rest does
first_known : (b : Bool) (m x : ℕ) → an_events (pick b m x) ≡ pick b (an_events m) (an_events x)
first_known true m x = refl
first_known false m x = refl

-- an event's answer is one of 0 to 17, 22 and 23
pub answer_known : (l : List Post) (s : Head) (n i t : ℕ) → an_events (answer_of l s n i t) ≡ true
unfolding answer_of gate refusal own_refusal reverse_refusal normal_refusal announce_refusal release_refusal garage_refusal under_way_refusal restore_refusal
answer_known l s n i t = simp (first_known, pick_same)

-- so that it is at most 23
pub answer-small : (l : List Post) (s : Head) (n i t : ℕ) → answer_of l s n i t ≤ 23
answer-small l s n i t =
    let k = answer_of l s n i t in
    or_facts (leb k 17 || eqb k 22) (eqb k 23)
    (or_facts (leb k 17) (eqb k 22) (λ e. omega (arith, leb-true k 17 e)) (λ e. omega (arith, eqb-true k 22 e)))
    (λ e. omega (arith, eqb-true k 23 e))
    (answer_known l s n i t)

-- ---- the session head
-- 'A refused event leaves every record and the session head unaltered.'
pub refused-alters-nothing : (l : List Post) (s : Head) (n i t : ℕ) → ((event_of l s n i t).told.answer ≡ 0 → ⊥)
    → ((event_of l s n i t).line ≡ l) × ((event_of l s n i t).told.head ≡ s)
refused-alters-nothing l s n i t =
    event_cases (λ a. (a.told.answer ≡ 0 → ⊥) → (a.line ≡ l) × (a.told.head ≡ s)) l s n i t
    (λ r k. absurd (k refl))
    (λ e k. (refl, refl))

-- 'An event taken adds 1 to the events taken and sets the last stamp.'
pub head-moves : (l : List Post) (s : Head) (n i t : ℕ) → (event_of l s n i t).told.answer ≡ 0
    → (event_of l s n i t).told.head ≡ head (s.taken + 1) t
head-moves l s n i t =
    event_cases (λ a. a.told.answer ≡ 0 → a.told.head ≡ head (s.taken + 1) t) l s n i t
    (λ r k. let one_more : grown s.taken ≡ s.taken + 1 = omega (arith, r.room) in rw one_more)
    (λ e k. absurd (e k))

-- the events taken grow by 1 exactly when the answer is 0
pub session-moves : (l : List Post) (s : Head) (n i t : ℕ)
    → ((event_of l s n i t).told.head.taken ≡ s.taken + 1) ↔ ((event_of l s n i t).told.answer ≡ 0)
session-moves l s n i t =
    event_cases (λ a. (a.told.head.taken ≡ s.taken + 1) ↔ (a.told.answer ≡ 0)) l s n i t
    (λ r. (λ k. refl, λ k. omega (arith, r.room)))
    (λ e. (λ k. absurd (omega arith), λ k. absurd (e k)))

-- ---- the two posts
-- the neighbour of a section's upstream post is downstream
pub neighbour-section : (n i : ℕ) → names_section n ≡ true → neighbour n i ≡ i + 1
unfolding neighbour
neighbour-section n i h = rw h

-- post 0 has its neighbour downstream
pub neighbour_first : (n : ℕ) → neighbour n 0 ≡ 1
unfolding neighbour
neighbour_first n = split (names_section n) (λ e. rw e) (λ e. rw e)

-- every other post has its neighbour upstream, for the events that name a post
pub neighbour-post : (n i : ℕ) → names_section n ≡ false → (i ≡ 0 → ⊥) → i ≡ neighbour n i + 1
unfolding neighbour
neighbour-post n i h k = rw (h, ne_eqb i 0 k) (omega arith)

-- an event's neighbour is the post before or after
pub neighbour-beside : (n i : ℕ) → (neighbour n i ≡ i + 1) ⊎ (i ≡ neighbour n i + 1)
neighbour-beside n i =
    split (names_section n)
    (λ e. inl (neighbour-section n i e))
    (λ e. equal_or_not i 0 (λ f. inl (rw f (neighbour_first n))) (λ f. inr (neighbour-post n i e f)))

-- no post is its own neighbour
not_itself : (n i : ℕ) → i ≡ neighbour n i → ⊥
not_itself n i e = ⊎_elim (λ f. omega arith) (λ f. omega arith) (neighbour-beside n i)

-- the neighbour of an event that is taken is a post of the line
pub neighbour-within : (l : List Post) (s : Head) (n i t : ℕ) → Accepted l s n i t → neighbour n i < length l
neighbour-within l s n i t r =
    split (names_section n)
    (λ e. omega (arith, neighbour-section n i e, r.section e))
    (λ e.
    equal_or_not i 0
    (λ f. rw (f, neighbour_first) r.valid.least)
    (λ f. omega (arith, neighbour-post n i e f, r.place)))

-- the line l with p for post i and q for post j
pub record Replaced (l l' : List Post) (i j : ℕ) (p q : Post) : Type 0 where
  pub same_length : length l' ≡ length l
  pub first : at l' i ≡ p
  pub second : at l' j ≡ q
  pub rest : (k : ℕ) → (k ≡ i → ⊥) → (k ≡ j → ⊥) → at l' k ≡ at l k

-- the same, whichever of the two is said first
pub swapped : {l l' : List Post} {i j : ℕ} {p q : Post} → Replaced l l' i j p q → Replaced l l' j i q p
swapped r = record { same_length = r.same_length; first = r.second; second = r.first; rest = λ k f g. r.rest k g f }

-- an event that is taken replaces the post named and its neighbour, and no other
pub taken_replaces : (l : List Post) (s : Head) (n i t : ℕ) → Accepted l s n i t
    → Replaced l (changed_line l n i) i (neighbour n i) (changed n (at l i) (at l (neighbour n i))).here
    (changed n (at l i) (at l (neighbour n i))).other
unfolding changed_line
taken_replaces l s n i t r =
    let within = lt-length-set l i (changed n (at l i) (at l (neighbour n i))).here (neighbour-within l s n i t r) in
    record {
      same_length = simp length-set;
      first = rw (get_or-set_other _ (neighbour n i) i _ blank (not_itself n i), get_or-set_same l i _ blank r.place);
      second = rw get_or-set_same;
      rest = λ k f g. rw (get_or-set_other _ (neighbour n i) k _ blank g, get_or-set_other l i k _ blank f);
    }

-- 'An event names one post and alters at most that post and one neighbour.'
pub alters_two : (l : List Post) (s : Head) (n i t j : ℕ) → (j ≡ i → ⊥) → (j ≡ neighbour n i → ⊥)
    → at (event_of l s n i t).line j ≡ at l j
alters_two l s n i t j f g =
    event_cases (λ a. at a.line j ≡ at l j) l s n i t (λ r. (taken_replaces l s n i t r).rest j f g) (λ e. refl)

-- no event alters the number of posts
pub length-stays : (l : List Post) (s : Head) (n i t : ℕ) → length (event_of l s n i t).line ≡ length l
length-stays l s n i t =
    event_cases (λ a. length a.line ≡ length l) l s n i t (λ r. (taken_replaces l s n i t r).same_length) (λ e. refl)

-- ---- one outcome
-- two outcomes of a call that both satisfy its statement are equal
pub gives_one : (a : After) (r r' : Told) (l l' : List Post) → Gives a r l → Gives a r' l' → (r ≡ r') × (l ≡ l')
gives_one a r r' l l' f g = (f.0 ∙ sym g.0, f.1 ∙ sym g.1)

-- the same of the test of a line
pub valid_one : (l : List Post) (s : Head) (b b' : Bool) → b ≡ valid l s → b' ≡ valid l s → b ≡ b'
valid_one l s b b' f g = f ∙ sym g

-- ---- devices
-- '6 is given for 3 at kind 0; 4 at kinds 3 and 4; 5 at kind 1; 6 at kind 0; 7 at kinds 0, 1 and 4', 11 and 12 'get 6 at the origin', and for no other event at a kind 0 to 4
pub devices : every (last_event + 1) (λ n. every 5 (λ k. same (lacks n k) (listed n k lacks_table))) ≡ true
unfolding rules every
devices = refl
