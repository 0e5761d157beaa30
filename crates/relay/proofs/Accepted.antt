-- An event that is taken: its answer is 0 exactly when the line may be used and none of the refusals 2 to 17, 22 and 23 is given; and what an event is then, and else.
-- Each holds by going down the order of the refusals.
use Prim.Native.Nat.{ℕ, ◌+◌, ◌≤◌, ◌<◌}
use mathlib.Core.Path.{◌≡◌, refl}
use mathlib.Core.Bool.{true, false}
use mathlib.Core.List.{List}
use mathlib.Core.Logic.Iff
use mathlib.Core.Logic.{◌↔◌}
use native.Mathlib.Omega.{arith}
use borrow.Author.Tests.{eqb-true, eqb-false}
use lib.Dec.{eqb}
use lib.ListN.{length}
use Rattle.relay.specs.Choice.{grown}
use Rattle.relay.specs.Clock.{behind}
use Rattle.relay.specs.Events.{refusal, reverse_refusal, normal_refusal, announce_refusal, release_refusal, garage_refusal, under_way_refusal, restore_refusal}
use Rattle.relay.specs.Kinds.{terminus}
use Rattle.relay.specs.Line.{head, told, After, after, last_event, numbered, names_section, present, neighbour, gate, answer_of, changed_line, event_of}
use Rattle.relay.specs.Posts.{at}
use Rattle.relay.specs.Relays.{An, KPg, L, RL, lever, W314, W241, up}
use Rattle.relay.specs.Valid.{most_events}
use Rattle.relay.specs.declared.Head.{Head}
use Rattle.relay.specs.declared.Post.{Post}
use Rattle.relay.proofs.Facts.{ValidLine, valid_iff}
use Rattle.relay.proofs.Truth.{refusals, facts, unless_facts, then_facts, split, by}

-- what is known of an event that is taken
pub record Accepted (l : List Post) (s : Head) (n i t : ℕ) : Type 0 where
  -- not 1: the line may be used
  pub valid : ValidLine l s
  -- not 3: the event number is one of the events'
  pub least : 1 ≤ n
  pub most : n ≤ last_event
  -- not 2: there is such a post, and such a section for 8, 9, 10
  pub place : i < length l
  pub section : names_section n ≡ true → i + 1 < length l
  -- not 5: fewer than 1,000,000 events are taken
  pub room : s.taken < most_events
  -- not 4: the stamp is not behind the last
  pub stamp : behind s.last t ≡ false
  -- neither 6, 22 or 23 nor one of the event's own list
  pub own : refusal n (at l i).kind (at l i).word (at l (neighbour n i)).word ≡ 0

-- the answer is 0 exactly when these are known
pub accepted_iff : (l : List Post) (s : Head) (n i t : ℕ) → (answer_of l s n i t ≡ 0) ↔ Accepted l s n i t
unfolding answer_of gate numbered present
accepted_iff l s n i t = (
  λ e.
      let f = simp (then_facts, unless_facts, facts, valid_iff) at e in
      record {
        valid = f.0;
        least = f.1.0.0.0;
        most = f.1.0.0.1;
        place = split (names_section n) (λ k. omega (arith, f.1.0.1.0.0 k)) (λ k. f.1.0.1.0.1 k);
        section = f.1.0.1.0.0;
        room = f.1.0.1.1.0;
        stamp = f.1.0.1.1.1.0;
        own = f.1.1;
      },
  λ r.
      simp (then_facts, unless_facts, facts, valid_iff) (
        r.valid,
        (((r.least, r.most), ((r.section, λ k. r.place), (r.room, (r.stamp, refl)))), r.own),
      ),
)

-- what holds of an event taken and of an event refused holds of the event
pub event_cases : (P : After → Type 0) (l : List Post) (s : Head) (n i t : ℕ)
    → (Accepted l s n i t → P (after (told 0 (head (grown s.taken) t)) (changed_line l n i)))
    → ((answer_of l s n i t ≡ 0 → ⊥) → P (after (told (answer_of l s n i t) s) l))
    → P (event_of l s n i t)
unfolding event_of
event_cases P l s n i t f g =
    by P (eqb (answer_of l s n i t) 0)
    (λ e. f ((accepted_iff l s n i t).0 (eqb-true _ _ e)))
    (λ e. g (eqb-false _ _ e))

-- ---- the event's own list gives none exactly when
-- 1. 'Refused 7 if already reversed, then 8 if L is down (8 not at the terminus).'
pub reverse_iff : (k w : ℕ) → (reverse_refusal k w ≡ 0) ↔ ((up lever w ≡ false) × ((k ≡ terminus → ⊥) → up L w ≡ true))
unfolding reverse_refusal
reverse_iff k w = simp refusals Iff.rfl

-- 2. 'Refused 7 if already normal.'
pub normal_iff : (w : ℕ) → (normal_refusal w ≡ 0) ↔ (up lever w ≡ true)
unfolding normal_refusal
normal_iff w = simp refusals Iff.rfl

-- 5. 'refused 9 if RL is down (house), then 10 if the lever is reversed'
pub announce_iff : (w : ℕ) → (announce_refusal w ≡ 0) ↔ ((up RL w ≡ true) × (up lever w ≡ false))
unfolding announce_refusal
announce_iff w = simp refusals Iff.rfl

-- 6. 'refused 11 if An is down, then 12 if KPg is down, then 13 if RL is up (kinds 2, 3, 4) or 10 if the lever is reversed (kind 1)'
pub release_iff : (k w : ℕ)
    → (release_refusal k w ≡ 0)
    ↔ ((up An w ≡ true) × ((up KPg w ≡ true) × ((k ≡ terminus → up lever w ≡ false) × ((k ≡ terminus → ⊥) → up RL w ≡ false))))
unfolding release_refusal
release_iff k w = simp refusals Iff.rfl

-- 7. 'refused 11, then 12, as above and on nothing else'
pub garage_iff : (w : ℕ) → (garage_refusal w ≡ 0) ↔ ((up An w ≡ true) × (up KPg w ≡ true))
unfolding garage_refusal
garage_iff w = simp refusals Iff.rfl

-- 8 and 9. 'refused 14 if nothing is under way'
pub under_way_iff : (w : ℕ) → (under_way_refusal w ≡ 0) ↔ (up W314 w ≡ false → up W241 w ≡ true)
unfolding under_way_refusal
under_way_iff w = simp refusals Iff.rfl

-- 10. 'refused 15 if RL is up, 16 if a signal is under way, 17 if An downstream is up'
pub restore_iff : (w z : ℕ)
    → (restore_refusal w z ≡ 0) ↔ ((up RL w ≡ false) × (((up W314 w ≡ false) × (up W241 w ≡ false)) × (up An z ≡ false)))
unfolding restore_refusal
restore_iff w z = simp refusals Iff.rfl
