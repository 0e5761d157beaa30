-- The reasons of the paper's table beside the lists by event: 6 and the event's own list at each kind; the order of 1, 3, 2, 5 and 4; the place; the stamp.
-- Event by event and kind by kind, where all but the relays computes; the place and the stamp are arithmetic.
use Prim.Native.Nat.{ℕ, ◌+◌, ◌-◌, ◌%◌, ◌^◌, ◌≤◌, ◌<◌}
use mathlib.Core.Path.{◌≡◌, refl, sym}
use mathlib.Core.Bool.{Bool, true, false, not, ◌&&◌, ◌||◌, or-false, or-true}
use mathlib.Core.List.{List}
use native.Mathlib.Omega.{arith}
use borrow.Author.Tests.{eq-eqb, ne_eqb, le-leb, lt-leb, lt-ltb, le-ltb}
use lib.Dec.{eqb, leb, ltb}
use Rattle.relay.specs.Choice.{pick}
use Rattle.relay.specs.Clock.{apart, behind}
use Rattle.relay.specs.Events.{refusal, lacks, jam_hinders, nothing_to_free, own_refusal, reverse_refusal, normal_refusal, announce_refusal, release_refusal, garage_refusal, under_way_refusal, restore_refusal}
use Rattle.relay.specs.Given.{refused_as, event_reasons}
use Rattle.relay.specs.Kinds.{is_short, ordinary, has_signal_pedal, has_passage_pedal, has_garage_release}
use Rattle.relay.specs.Line.{last_event, names_section, present, neighbour}
use Rattle.relay.specs.Posts.{at}
use Rattle.relay.specs.declared.Post.{Post}
use Rattle.relay.proofs.Forms.{small-form, origin-alone}
use Rattle.relay.proofs.Truth.{equal_or_not, least_or_below, from}
use Rattle.relay.proofs.GivenForms.{first, forms}

-- only 0 may stand first
pub first_form : (k : ℕ) → eqb (ordinary k) 0 ≡ eqb k 0
first_form k =
    equal_or_not k 0
    (λ e. rw e (eq-eqb (ordinary 0) 0 (small-form 0 (omega arith))))
    (λ e. rw (ne_eqb k 0 e) (ne_eqb (ordinary k) 0 (λ z. e (origin-alone k z))))

-- ---- 6 and the event's own list
-- what holds of each kind 0 to 4
kinds : (P : ℕ → Type 0) → P 0 → P 1 → P 2 → P 3 → P 4 → (k : ℕ) → k < 5 → P k
kinds P a b c d e k h =
    from P 4 0 a (from P 4 1 b (from P 4 2 c (from P 4 3 d (from P 4 4 e (λ n x y. absurd (omega arith)))))) k (omega arith) (omega arith)

module _ (l : List Post) (i w : ℕ) where
  -- at kind k event n is given the first number of the table
  abbrev At : ℕ → ℕ → Type 0
  At n k = refusal n k w (at l (neighbour n i)).word ≡ first (event_reasons n k w (at l (i + 1)).word)

  -- at every kind
  abbrev AtAll : ℕ → Type 0
  AtAll n = (k : ℕ) → k < 5 → At n k

  -- every event number
  own : (n : ℕ) → 1 ≤ n → n ≤ last_event → AtAll n
  unfolding first event_reasons refusal ordinary is_short lacks jam_hinders nothing_to_free own_refusal reverse_refusal normal_refusal announce_refusal release_refusal garage_refusal under_way_refusal restore_refusal has_passage_pedal has_signal_pedal has_garage_release neighbour names_section
  own =
      from AtAll last_event 1 (kinds (At 1) (simp or-false) (simp or-false) (simp or-false) (simp or-false) (simp or-false))
      (from AtAll last_event 2 (kinds (At 2) refl refl refl refl refl)
      (from AtAll last_event 3 (kinds (At 3) refl refl refl refl refl)
      (from AtAll last_event 4 (kinds (At 4) refl refl refl refl refl)
      (from AtAll last_event 5 (kinds (At 5) (simp or-false) refl (simp or-false) (simp or-false) (simp or-false))
      (from AtAll last_event 6 (kinds (At 6) refl refl refl refl refl)
      (from AtAll last_event 7 (kinds (At 7) refl refl refl refl refl)
      (from AtAll last_event 8 (kinds (At 8) refl refl refl refl refl)
      (from AtAll last_event 9 (kinds (At 9) refl refl refl refl refl)
      (from AtAll last_event 10 (kinds (At 10) refl refl refl refl refl)
      (from AtAll last_event 11 (kinds (At 11) refl refl refl refl refl)
      (from AtAll last_event 12 (kinds (At 12) refl refl refl refl refl) (λ n x y. absurd (omega arith)))))))))))))

  -- and every kind, by its ordinary form
  pub own-form : (n : ℕ) → 1 ≤ n → n ≤ last_event → (k : ℕ) → ordinary k < 5
      → refusal n k w (at l (neighbour n i)).word ≡ first (event_reasons n (refused_as k) w (at l (i + 1)).word)
  unfolding refusal
  own-form n a b k h = rw (← (forms k).0) (rw (small-form (ordinary k) h) at (own n a b (ordinary k) h))

-- ---- 1, 3, 2, 5 and 4
-- one list, then another: the first's numbers go first
pub gate_first : (b : Bool) (m x y : ℕ) → eqb m 0 ≡ false → pick (not (eqb (pick b m x) 0)) (pick b m x) y ≡ pick b m (pick (not (eqb x 0)) x y)
gate_first true m x y e = rw e
gate_first false m x y e = refl

-- past a reason that does not hold
pub past : (b : Bool) (m : ℕ) {x y : ℕ} → (b ≡ false → x ≡ y) → pick b m x ≡ pick b m y
past true m f = refl
past false m f = f refl

-- 'no such post, or no such section for 8, 9, 10'
abbrev Place : ℕ → ℕ → ℕ → Type 0
Place m i n = not (present m n i) ≡ (not (ltb i m) || (eqb n 8 || eqb n 9 || eqb n 10) && not (ltb (i + 1) m))

no_section : (m i : ℕ) → not (ltb (i + 1) m) ≡ (not (ltb i m) || not (ltb (i + 1) m))
no_section m i =
    least_or_below m (i + 1)
    (λ h. rw (le-ltb (i + 1) m h) (sym (or-true (not (ltb i m)))))
    (λ h. rw (lt-ltb (i + 1) m h, lt-ltb i m (omega arith)))

pub place : (m i n : ℕ) → Place m i n
unfolding present names_section
place m i n =
    by_section (eqb n 8 || eqb n 9 || eqb n 10)
  where
    by_section : (b : Bool) → not (pick b (ltb (i + 1) m) (ltb i m)) ≡ (not (ltb i m) || b && not (ltb (i + 1) m))
    by_section true = no_section m i
    by_section false = sym (or-false (not (ltb i m)))

-- 'its difference from the last, taken round 2^32 and read as a signed number, is below zero'
pub stamp : (u t : ℕ) → behind u t ≡ leb (2 ^ 31) ((t + 2 ^ 32 - u) % 2 ^ 32)
unfolding behind
stamp u t =
    least_or_below (2 ^ 31) (apart u t)
    (λ h. rw (le-ltb (apart u t) (2 ^ 31) h, le-leb (2 ^ 31) (apart u t) h))
    (λ h. rw (lt-ltb (apart u t) (2 ^ 31) h, lt-leb (2 ^ 31) (apart u t) h) (le-ltb (apart u t) 0 (omega arith)))
