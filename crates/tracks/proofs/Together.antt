-- Two tracks that may be used together, as plain facts: that they are the test of specs/Circuit.antt, both ways, and that what is said of one track beside the other holds the other way round.
-- The test goes along the sections; the section that faces the facing one is the first.
use Prim.Native.Nat.{ℕ, zero, suc, ◌+◌, ◌-◌, ◌<◌}
use mathlib.Core.Path.{◌≡◌, refl, sym, ◌∙◌}
use mathlib.Core.Bool.{Bool, true, false, ◌&&◌, false≢true}
use mathlib.Core.List.{List, [], ◌∷◌}
use mathlib.Core.Logic.{◌↔◌, ◌⊎◌}
use native.Mathlib.Omega.{arith}
use lib.Dec.{eqb}
use lib.ListN.{length}
use Rattle.relay.specs.Choice.{requires}
use Rattle.relay.specs.Line.{head, fresh_line, startable}
use Rattle.relay.specs.Kinds.{terminus, ordinary}
use Rattle.relay.specs.Posts.{fresh_word, fresh_post}
use Rattle.relay.specs.Relays.{up, raise}
use Rattle.relay.specs.Valid.{valid}
use Rattle.relay.specs.declared.Head.{Head}
use Rattle.relay.specs.declared.Post.{Post}
use Rattle.relay.proofs.Fresh.{length-fresh}
use Rattle.relay.proofs.Kept.{fresh-valid}
use Rattle.relay.proofs.Truth.{facts, split, equal_or_not}
use Rattle.tracks.specs.Circuit.{polarised, vibrated, on_wire, busy, facing, circuit_ok, clear, apart, beside_ok, valid_two, startable_two}
use Rattle.tracks.proofs.CircuitKinds.{ValidTwo, circuit_iff}

-- no two sections that face each other both have a signal under way
pub apart-each : (l k : List Post) (n : ℕ) → apart l k n ≡ true → (i : ℕ) → i < n → busy l i ≡ true → busy k (facing (length l) i) ≡ false
unfolding apart clear busy
apart-each l k zero e i h = absurd (omega arith)
apart-each l k (suc n) e i h =
    let f = simp facts at e in
    equal_or_not i n (λ z. rw z f.0) (λ z. apart-each l k n f.1 i (omega arith))

each-apart : (l k : List Post) (n : ℕ) → ((i : ℕ) → i < n → busy l i ≡ true → busy k (facing (length l) i) ≡ false) → apart l k n ≡ true
unfolding apart clear busy
each-apart l k zero f = refl
each-apart l k (suc n) f = simp facts (f n (omega arith), each-apart l k n (λ i h. f i (omega arith)))

pub two_iff : (c : ℕ) (l k : List Post) (s : Head) → (valid_two c l k s ≡ true) ↔ ValidTwo c l k s
unfolding valid_two
two_iff c l k s = (
  λ e.
      let f = simp facts at e in
      record {
        circuit = (circuit_iff c).0 f.0;
        own = f.1.0;
        other = f.1.1.0;
        long = f.1.1.1.0;
        alone = λ z i h. apart-each l k (length l - 1) (f.1.1.1.1 z) i (omega arith);
      },
  λ r.
      simp facts (
        (circuit_iff c).1 r.circuit,
        (r.own, (r.other, (r.long, λ z. each-apart l k (length l - 1) (λ i h. r.alone z i (omega arith))))),
      ),
)

-- ---- the other way round
-- the section that faces one of m posts is one of them, and faces it back
facing-within : (m i : ℕ) → i + 1 < m → facing m i + 1 < m
unfolding facing
facing-within m i h = omega arith

facing-back : (m i : ℕ) → i + 1 < m → facing m (facing m i) ≡ i
unfolding facing
facing-back m i h = omega arith

-- what holds of one track beside the other holds of the other beside it
pub swapped : {c : ℕ} {l k : List Post} {s : Head} → ValidTwo c l k s → ValidTwo c k l s
swapped {c} {l} {k} {s} r =
    record {
      circuit = r.circuit;
      own = r.other;
      other = r.own;
      long = sym r.long;
      alone = λ z i h b.
          split (busy l (facing (length k) i))
          (λ e.
          let f : busy k (facing (length l) (facing (length k) i)) ≡ false = r.alone z (facing (length k) i) (rw r.long (facing-within (length k) i h)) e in
          absurd (false≢true (sym (rw (r.long, facing-back (length k) i h) at f) ∙ b)))
          (λ e. e);
    }

-- so that the test does not ask which is which
pub either_way : (c : ℕ) (l k : List Post) (s : Head) → valid_two c l k s ≡ valid_two c k l s
either_way c l k s =
    split (valid_two c l k s)
    (λ e. e ∙ sym ((two_iff c k l s).1 (swapped ((two_iff c l k s).0 e))))
    (λ e.
    split (valid_two c k l s)
    (λ f. absurd (false≢true (sym e ∙ (two_iff c l k s).1 (swapped ((two_iff c k l s).0 f)))))
    (λ f. e ∙ sym f))

-- ---- two lines just started
-- nothing is under way on a fresh line
fresh-quiet : (ks : List ℕ) (i : ℕ) → busy (fresh_line ks) i ≡ false
unfolding busy on_wire fresh_line fresh_post fresh_word up raise
fresh-quiet [] i = refl
fresh-quiet (k ∷ ks) zero = split (eqb (ordinary k) terminus) (λ e. rw e) (λ e. rw e)
fresh-quiet (k ∷ ks) (suc i) = fresh-quiet ks i

-- what the test of starting asks
pub record Startable (c : ℕ) (l k : List Post) (ks js : List ℕ) : Type 0 where
  pub circuit : (c ≡ polarised) ⊎ (c ≡ vibrated)
  pub own : startable l ks ≡ true
  pub other : startable k js ≡ true
  pub long : length ks ≡ length js

pub startable_iff : (c : ℕ) (l k : List Post) (ks js : List ℕ) → (startable_two c l k ks js ≡ true) ↔ Startable c l k ks js
unfolding startable_two
startable_iff c l k ks js = (
  λ e.
      let f = simp facts at e in
      record { circuit = (circuit_iff c).0 f.0; own = f.1.0; other = f.1.1.0; long = f.1.1.1 },
  λ r. simp facts ((circuit_iff c).1 r.circuit, (r.own, (r.other, r.long))),
)

-- they may be used together
pub fresh_two : (c : ℕ) (l k : List Post) (ks js : List ℕ) (t : ℕ) → startable_two c l k ks js ≡ true
    → ValidTwo c (fresh_line ks) (fresh_line js) (head 0 t)
fresh_two c l k ks js t e =
    let f = (startable_iff c l k ks js).0 e in
    record {
      circuit = f.circuit;
      own = fresh-valid l ks t f.own;
      other = fresh-valid k js t f.other;
      long = length-fresh ks ∙ f.long ∙ sym (length-fresh js);
      alone = λ z i h b. fresh-quiet js _;
    }

-- ---- the test of both, by the own line and the rest
pub two_parts : (c : ℕ) (l k : List Post) (s : Head) → (valid l s && beside_ok c l k s) ≡ valid_two c l k s
unfolding valid_two beside_ok
two_parts c l k s =
    turned (circuit_ok c) (valid l s) (valid k s && (eqb (length l) (length k) && requires (eqb c polarised) (apart l k (length l - 1))))
  where
    turned : (a b d : Bool) → (b && (a && d)) ≡ (a && (b && d))
    turned true true d = refl
    turned true false d = refl
    turned false true d = refl
    turned false false d = refl
