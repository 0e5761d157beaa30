-- The events by cases: for an event that is taken, which of its outcomes it has, what is known there, and the two records that it makes.
-- A theorem over events goes by these eighteen cases, unfolds no rule and asks for no number: a case says itself where the neighbour lies that it alters. Each holds because no refusal of the event's own list is given.
use Prim.Native.Nat.{ℕ, ◌+◌, ◌≤◌}
use mathlib.Core.Path.{◌≡◌, refl, sym, ◌∙◌}
use mathlib.Core.Logic.{◌↔◌}
use mathlib.Core.Bool.{true, false, not, ◌&&◌, ◌||◌, false≢true}
use mathlib.Core.List.{List}
use native.Mathlib.Omega.{arith}
use borrow.Author.Tests.{eqb-true}
use lib.Dec.{eqb}
use Rattle.relay.specs.Choice.{grown}
use Rattle.relay.specs.Events.{pair, reversed, normal, may_record, passed, struck, announced, released, garaged, release_under_way, arrived, lost, restored, jammed, freed, lacks, jam_hinders, nothing_to_free, own_refusal, refusal, changed}
use Rattle.relay.specs.Kinds.{origin, terminus, has_signal_pedal, has_passage_pedal, has_garage_release, blocks_at_pedal}
use Rattle.relay.specs.Line.{last_event, names_section, neighbour}
use Rattle.relay.specs.Posts.{at, post, form, word_to, more_a, more_x, more_y, more_v, more_g, more_r, more_q}
use Rattle.relay.specs.Relays.{An, KPg, L, RL, lever, signal, W314, W241, jam, up, raise, lower}
use Rattle.relay.specs.declared.Head.{Head}
use Rattle.relay.specs.declared.Pair.{Pair}
use Rattle.relay.specs.declared.Post.{Post}
use Rattle.relay.proofs.Accepted.{Accepted, reverse_iff, normal_iff, announce_iff, release_iff, garage_iff, under_way_iff, restore_iff}
use Rattle.relay.proofs.Frame.{neighbour-section, neighbour-post}
use Rattle.relay.proofs.Truth.{facts, not_false_facts, unless_facts, or_facts, from, by}

-- 6 and 7 at the post named: 'An and KPg drop, e grows by 1', with c afterwards
abbrev pub sent_back : ℕ → Post → Post
sent_back c p =
    post (lower KPg (lower An p.word)) p.kind p.a p.x p.y p.v p.g p.r p.q (grown p.e) c

-- and upstream: 'W241 of the section upstream rises'
abbrev pub under_way : Post → Post
under_way o = word_to (raise W241 o.word) o

-- ---- the cases: p, post i, is named, and o, post j, is its neighbour; the event's number, and the two as it leaves them
-- A case that alters its neighbour, or asks for what stands there, says where it lies
pub data Taken (i j : ℕ) (p o : Post) : ℕ → Pair → Type 0 where
  -- 1. Reverse the lever: 'signal opens'
  reverse : up lever p.word ≡ false → ((form p ≡ terminus → ⊥) → up L p.word ≡ true)
      → Taken i j p o 1 (pair (word_to (raise signal (raise lever p.word)) p) o)
  -- 2. Lever to normal: 'signal closes'
  normalise : up lever p.word ≡ true → Taken i j p o 2 (pair (word_to (lower signal (lower lever p.word)) p) o)
  -- 3. Passage pedal: 'if An is up and KPg down, KPg rises and q grows by 1'; at a short post 'event 3 asks only that KPg be down'
  pass : (form p ≡ origin → ⊥) → may_record p.kind p.word ≡ true → up KPg p.word ≡ false
      → Taken i j p o 3 (pair (more_q (word_to (raise KPg p.word) p)) o)
  -- 'Otherwise taken with no effect.'
  pass-idle : (form p ≡ origin → ⊥) → (may_record p.kind p.word ≡ true → up KPg p.word ≡ true) → Taken i j p o 3 (pair p o)
  -- 4. Signal pedal: 'if the lever is reversed, the signal closes, and at kinds 0 and 2 L drops'
  strike_block : blocks_at_pedal (form p) ≡ true → up lever p.word ≡ true
      → Taken i j p o 4 (pair (word_to (lower L (lower signal p.word)) p) o)
  -- the same at the terminus, where L does not drop
  strike_close : form p ≡ terminus → up lever p.word ≡ true → Taken i j p o 4 (pair (word_to (lower signal p.word) p) o)
  -- 'With a normal lever, taken with no effect.'
  strike_idle : has_signal_pedal (form p) ≡ true → up lever p.word ≡ false → Taken i j p o 4 (pair p o)
  -- 5. Announce: 'RL and L drop, W314 rises, a grows by 1.'
  announce : (form p ≡ terminus → ⊥) → up RL p.word ≡ true → up lever p.word ≡ false
      → Taken i j p o 5 (pair (more_a (word_to (raise W314 (lower L (lower RL p.word))) p)) o)
  -- 6. Release: 'An and KPg drop, W241 of the section upstream rises, e grows by 1.'
  release : i ≡ j + 1 → (form p ≡ origin → ⊥) → up jam p.word ≡ false → up An p.word ≡ true → up KPg p.word ≡ true
      → (form p ≡ terminus → up lever p.word ≡ false)
      → ((form p ≡ terminus → ⊥) → up RL p.word ≡ false)
      → Taken i j p o 6 (pair (sent_back p.c p) (under_way o))
  -- 7. Garage release: 'As 6, and c grows by 1.'
  garage : i ≡ j + 1 → has_garage_release (form p) ≡ true → up jam p.word ≡ false → up An p.word ≡ true → up KPg p.word ≡ true
      → Taken i j p o 7 (pair (sent_back (grown p.c) p) (under_way o))
  -- 8. Arrival: 'W314: it drops, An downstream rises, r grows by 1.'
  announcement_arrives : j ≡ i + 1 → up W314 p.word ≡ true → up jam o.word ≡ false
      → Taken i j p o 8 (pair (word_to (lower W314 p.word) p) (more_r (word_to (raise An o.word) o)))
  -- 'An announcement arriving at a jammed post clears from the circuit and is counted in x'
  announcement-jammed : j ≡ i + 1 → up W314 p.word ≡ true → up jam o.word ≡ true
      → Taken i j p o 8 (pair (more_x (word_to (lower W314 p.word) p)) o)
  -- 'W241: it drops, L and RL rise, v grows by 1.'
  release_arrives : j ≡ i + 1 → up W314 p.word ≡ false → up W241 p.word ≡ true
      → Taken i j p o 8 (pair (more_v (word_to (raise RL (raise L (lower W241 p.word))) p)) o)
  -- 9. Loss: 'The signal under way drops; x or y grows by 1.'
  announcement-lost : j ≡ i + 1 → up W314 p.word ≡ true → Taken i j p o 9 (pair (more_x (word_to (lower W314 p.word) p)) o)
  release-lost : j ≡ i + 1 → up W314 p.word ≡ false → up W241 p.word ≡ true
      → Taken i j p o 9 (pair (more_y (word_to (lower W241 p.word) p)) o)
  -- 10. Restoration: 'L and RL rise, g grows by 1.'
  restore : j ≡ i + 1 → up RL p.word ≡ false → up W314 p.word ≡ false → up W241 p.word ≡ false → up An o.word ≡ false
      → Taken i j p o 10 (pair (more_g (word_to (raise RL (raise L p.word)) p)) o)
  -- 11. The button jams
  button_jams : (form p ≡ origin → ⊥) → up jam p.word ≡ false → Taken i j p o 11 (pair (word_to (raise jam p.word) p) o)
  -- 12. It is freed
  button_freed : (form p ≡ origin → ⊥) → up jam p.word ≡ true → Taken i j p o 12 (pair (word_to (lower jam p.word) p) o)

-- ---- each event that is taken is in one of its cases
-- a garage release is at kind 2 or 3
pub garage-kind : (k : ℕ) → has_garage_release k ≡ true → (2 ≤ k) × (k ≤ 3)
unfolding has_garage_release
garage-kind k = or_facts (eqb k 2) (eqb k 3) (λ e. omega (arith, eqb-true)) (λ e. omega (arith, eqb-true))

-- what is known of event n where neither 6, 22 or 23 nor one of its own list is given
abbrev Unrefused : Post → Post → ℕ → Type 0
Unrefused p o n =
    (lacks n (form p) ≡ false) × (own_refusal n (form p) p.word o.word ≡ 0)
    × (jam_hinders n p.word ≡ false)
    × (nothing_to_free n p.word ≡ false)

own_iff : (p o : Post) (n : ℕ) → (refusal n p.kind p.word o.word ≡ 0) ↔ Unrefused p o n
unfolding refusal
own_iff p o n = (
  λ e. let f = simp unless_facts at e in (f.0, f.1.1.1, f.1.0, f.1.1.0),
  λ f. simp unless_facts (f.0, (f.2, (f.3, f.1))),
)

-- event by event, p being post i: here alone the event's number tells where its neighbour lies
module _ (i : ℕ) (p o : Post) (first : i ≡ 0 → form p ≡ origin) where
  -- event n there, in a case that leaves the two as b
  abbrev Case : ℕ → Pair → Type 0
  Case n b = Taken i (neighbour n i) p o n b

  -- event n, not refused, is in one of its cases
  abbrev Is : ℕ → Type 0
  Is n = Unrefused p o n → Case n (changed n p o)

  is_reverse : Is 1
  unfolding changed own_refusal reversed
  is_reverse e = let f = (reverse_iff (form p) p.word).0 e.1 in reverse f.0 f.1

  is_normal : Is 2
  unfolding changed own_refusal normal
  is_normal e = normalise ((normal_iff p.word).0 e.1)

  is_pass : Is 3
  unfolding changed lacks passed has_passage_pedal
  is_pass e =
      let f = simp facts at e.0 in
      by (λ q. Case 3 (pair q o)) (may_record p.kind p.word && not (up KPg p.word))
      (λ b. let g = simp facts at b in pass f g.0 g.1)
      (λ b. pass-idle f (simp facts at b))

  -- the signal pedal of a post that does not block at it is the terminus's
  closes : has_signal_pedal (form p) ≡ true → blocks_at_pedal (form p) ≡ false → form p ≡ terminus
  unfolding has_signal_pedal blocks_at_pedal
  closes e c =
      let g = simp facts at c in
      or_facts (eqb (form p) 0) (eqb (form p) 1 || eqb (form p) 2) (λ z. omega (arith, eqb-true))
      (or_facts (eqb (form p) 1) (eqb (form p) 2) (λ z. omega (arith, eqb-true)) (λ z. omega (arith, eqb-true)))
      e

  is_strike : Is 4
  unfolding changed lacks struck
  is_strike e =
      let f = simp facts at e.0 in
      by (λ q. Case 4 (pair q o)) (up lever p.word)
      (λ b.
      by (λ q. Case 4 (pair q o)) (blocks_at_pedal (form p))
      (λ c. strike_block c b)
      (λ c. strike_close (closes f c) b))
      (λ b. strike_idle f b)

  is_announce : Is 5
  unfolding changed lacks own_refusal announced
  is_announce e =
      let f = (announce_iff p.word).0 e.1 in
      announce (simp facts at e.0) f.0 f.1

  is_release : Is 6
  unfolding changed lacks jam_hinders own_refusal released release_under_way names_section
  is_release e =
      let f = (release_iff (form p) p.word).0 e.1 in
      let k = simp facts at e.0 in
      release (neighbour-post 6 i refl (λ z. k (first z))) k e.2 f.0 f.1.0 f.1.1.0 f.1.1.1

  is_garage : Is 7
  unfolding changed lacks jam_hinders own_refusal garaged released release_under_way names_section
  is_garage e =
      let f = (garage_iff p.word).0 e.1 in
      let k = simp facts at e.0 in
      garage (neighbour-post 7 i refl (λ z. omega (arith, first z, garage-kind (form p) k))) k e.2 f.0 f.1

  is_arrival : Is 8
  unfolding changed own_refusal arrived names_section
  is_arrival e =
      by (λ b. Case 8 b) (up W314 p.word)
      (λ a.
      by (λ b. Case 8 b) (up jam o.word) (announcement-jammed (neighbour-section 8 i refl) a)
      (announcement_arrives (neighbour-section 8 i refl) a))
      (λ b. release_arrives (neighbour-section 8 i refl) b ((under_way_iff p.word).0 e.1 b))

  is_loss : Is 9
  unfolding changed own_refusal lost names_section
  is_loss e =
      by (λ q. Case 9 (pair q o)) (up W314 p.word) (announcement-lost (neighbour-section 9 i refl))
      (λ b. release-lost (neighbour-section 9 i refl) b ((under_way_iff p.word).0 e.1 b))

  is_restore : Is 10
  unfolding changed own_refusal restored names_section
  is_restore e =
      let f = (restore_iff p.word o.word).0 e.1 in
      restore (neighbour-section 10 i refl) f.0 f.1.0.0 f.1.0.1 f.1.1

  is_jam : Is 11
  unfolding changed lacks jam_hinders jammed
  is_jam e = button_jams (simp facts at e.0) e.2

  is_freeing : Is 12
  unfolding changed lacks nothing_to_free freed
  is_freeing e = button_freed (simp facts at e.0) ((not_false_facts (up jam p.word)).0 e.3)

  -- every event number
  pub taken_cases : (n : ℕ) → 1 ≤ n → n ≤ last_event → refusal n p.kind p.word o.word ≡ 0 → Case n (changed n p o)
  taken_cases n h k e =
      from Is last_event 1 is_reverse
      (from Is last_event 2 is_normal
      (from Is last_event 3 is_pass
      (from Is last_event 4 is_strike
      (from Is last_event 5 is_announce
      (from Is last_event 6 is_release
      (from Is last_event 7 is_garage
      (from Is last_event 8 is_arrival
      (from Is last_event 9 is_loss
      (from Is last_event 10 is_restore
      (from Is last_event 11 is_jam (from Is last_event 12 is_freeing (λ n h k. absurd (omega arith)))))))))))))
      n h k ((own_iff p o n).0 e)

-- an event that is taken on a line is in one of its cases
pub accepted-case : (l : List Post) (s : Head) (n i t : ℕ) → Accepted l s n i t
    → Taken i (neighbour n i) (at l i) (at l (neighbour n i)) n (changed n (at l i) (at l (neighbour n i)))
accepted-case l s n i t r =
    taken_cases i (at l i) (at l (neighbour n i)) (r.valid.each i r.place).kind.first n r.least r.most r.own

-- ---- an event in one of its cases is taken, and makes what the case says
-- what an event makes where nothing is refused
abbrev Made : Post → Post → ℕ → Pair → Type 0
Made p o n b = (refusal n p.kind p.word o.word ≡ 0) × (changed n p o ≡ b)

-- a post that blocks at the signal pedal has one
pedal_there : (k : ℕ) → blocks_at_pedal k ≡ true → lacks 4 k ≡ false
unfolding lacks has_signal_pedal blocks_at_pedal
pedal_there k = or_facts (eqb k 0) (eqb k 2) (λ e. rw (eqb-true k 0 e)) (λ e. rw (eqb-true k 2 e))

-- each case
pub case-taken : {p o : Post} {i j n : ℕ} {b : Pair} → Taken i j p o n b → Made p o n b
unfolding changed lacks jam_hinders nothing_to_free own_refusal reversed normal passed struck announced released garaged release_under_way arrived lost restored jammed freed has_passage_pedal has_signal_pedal blocks_at_pedal
case-taken {p} {o} (reverse a b) = ((own_iff p o 1).1 (refl, (reverse_iff (form p) p.word).1 (a, b), refl, refl), refl)
case-taken {p} {o} (normalise a) = ((own_iff p o 2).1 (refl, (normal_iff p.word).1 a, refl, refl), refl)
case-taken {p} {o} (pass a b c) = ((own_iff p o 3).1 (simp facts a, refl, refl, refl), rw (b, c))
case-taken {p} {o} (pass-idle a b) =
    let z : (may_record p.kind p.word && not (up KPg p.word)) ≡ false = simp facts b in
    ((own_iff p o 3).1 (simp facts a, refl, refl, refl), rw z)
case-taken {p} {o} (strike_block a b) = ((own_iff p o 4).1 (pedal_there (form p) a, refl, refl, refl), rw (b, a))
case-taken {p} {o} (strike_close a b) = ((own_iff p o 4).1 (rw a, refl, refl, refl), rw (b, a))
case-taken {p} {o} (strike_idle a b) = ((own_iff p o 4).1 (simp facts a, refl, refl, refl), rw b)
case-taken {p} {o} (announce a b c) = ((own_iff p o 5).1 (simp facts a, (announce_iff p.word).1 (b, c), refl, refl), refl)
case-taken {p} {o} (release k a m b c d e) =
    ((own_iff p o 6).1 (simp facts a, (release_iff (form p) p.word).1 (b, (c, (d, e))), m, refl), refl)
case-taken {p} {o} (garage k a m b c) = ((own_iff p o 7).1 (simp facts a, (garage_iff p.word).1 (b, c), m, refl), refl)
case-taken {p} {o} (announcement_arrives k a b) =
    ((own_iff p o 8).1 (refl, (under_way_iff p.word).1 (λ z. absurd (false≢true (sym z ∙ a))), refl, refl), rw (a, b))
case-taken {p} {o} (announcement-jammed k a b) =
    ((own_iff p o 8).1 (refl, (under_way_iff p.word).1 (λ z. absurd (false≢true (sym z ∙ a))), refl, refl), rw (a, b))
case-taken {p} {o} (release_arrives k a b) = ((own_iff p o 8).1 (refl, (under_way_iff p.word).1 (λ z. b), refl, refl), rw a)
case-taken {p} {o} (announcement-lost k a) =
    ((own_iff p o 9).1 (refl, (under_way_iff p.word).1 (λ z. absurd (false≢true (sym z ∙ a))), refl, refl), rw a)
case-taken {p} {o} (release-lost k a b) = ((own_iff p o 9).1 (refl, (under_way_iff p.word).1 (λ z. b), refl, refl), rw a)
case-taken {p} {o} (restore k a b c d) = ((own_iff p o 10).1 (refl, (restore_iff p.word o.word).1 (a, ((b, c), d)), refl, refl), refl)
case-taken {p} {o} (button_jams a b) = ((own_iff p o 11).1 (simp facts a, refl, b, refl), refl)
case-taken {p} {o} (button_freed a b) = ((own_iff p o 12).1 (simp facts a, refl, refl, (not_false_facts (up jam p.word)).1 b), refl)
