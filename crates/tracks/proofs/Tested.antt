-- The test of two tracks, as a caller makes it: the circuit, each line by itself, the lengths, then section after section.
--     not_circuit, not_own, not_other, not_long     any of them fails: the two may not be used together
--     clear_more       the sections below s are clear and so is s: the sections below s + 1 are
--     not_clear        a section is not: on polarised current the two may not be used together
--     may_vibrated     all but the sections hold, on vibrated current: they may
--     may_polarised    all hold: they may
-- Assumes nothing.
use Prim.Native.Nat.{ℕ, zero, suc, ◌+◌, ◌-◌, ◌≤◌, ◌<◌}
use mathlib.Core.Path.{◌≡◌, refl, sym, ◌∙◌}
use mathlib.Core.Bool.{Bool, true, false, ◌&&◌, false≢true}
use mathlib.Core.List.{List}
use mathlib.Core.Logic.{inl, inr}
use native.Mathlib.Numerals.{add-one}
use native.Mathlib.Omega.{arith}
use lib.Dec.{eqb}
use lib.ListN.{length}
use Rattle.relay.specs.Posts.{at}
use Rattle.relay.specs.Valid.{valid}
use Rattle.relay.specs.declared.Head.{Head}
use Rattle.relay.specs.declared.Post.{Post}
use Rattle.relay.proofs.Truth.{and_facts, split, equal_or_not}
use Rattle.tracks.specs.Circuit.{polarised, vibrated, circuit_ok, facing, clear, apart, valid_two}
use Rattle.tracks.proofs.Together.{two_iff, apart-each}
use Rattle.tracks.proofs.CircuitKinds.{ValidTwo, circuit_iff}

-- the words at the heads of section s of a line and of the one that faces it
abbrev pub clear_at : List Post → List Post → ℕ → Bool
clear_at l k s = clear (at l s).word (at k (facing (length l) s)).word

-- ---- along the sections
pub clear_none : (l k : List Post) → apart l k 0 ≡ true
unfolding apart
clear_none l k = refl

pub clear_more : (l k : List Post) (s : ℕ) → apart l k s ≡ true → clear_at l k s ≡ true → apart l k (s + 1) ≡ true
unfolding apart
clear_more l k s e f = rw add-one ((and_facts (clear_at l k s) (apart l k s)).1 (f, e))

pub stops : (l k : List Post) (n s : ℕ) → s < n → clear_at l k s ≡ false → apart l k n ≡ false
unfolding apart
stops l k zero s h e = absurd (omega arith)
stops l k (suc n) s h e =
    split (apart l k (suc n))
    (λ f.
    let g = (and_facts (clear_at l k n) (apart l k n)).0 f in
    equal_or_not s n
    (λ z. absurd (false≢true (sym e ∙ rw z g.0)))
    (λ z. absurd (false≢true (sym (stops l k n s (omega arith) e) ∙ g.1))))
    (λ f. f)

-- ---- the whole test
module _ (c : ℕ) (l k : List Post) (s : Head) where
  -- what is not so of two tracks that may be used together is not so of these
  never : (ValidTwo c l k s → ⊥) → valid_two c l k s ≡ false
  never f = split (valid_two c l k s) (λ e. absurd (f ((two_iff c l k s).0 e))) (λ e. e)

  pub not_circuit : circuit_ok c ≡ false → valid_two c l k s ≡ false
  not_circuit e = never (λ r. false≢true (sym e ∙ (circuit_iff c).1 r.circuit))

  pub not_own : valid l s ≡ false → valid_two c l k s ≡ false
  not_own e = never (λ r. false≢true (sym e ∙ r.own))

  pub not_other : valid k s ≡ false → valid_two c l k s ≡ false
  not_other e = never (λ r. false≢true (sym e ∙ r.other))

  pub not_long : (length l ≡ length k → ⊥) → valid_two c l k s ≡ false
  not_long f = never (λ r. f r.long)

  pub not_clear : c ≡ polarised → (i : ℕ) → i + 1 < length l → clear_at l k i ≡ false → valid_two c l k s ≡ false
  unfolding valid_two
  not_clear z i h e =
      let f : apart l k (length l - 1) ≡ false = stops l k (length l - 1) i (omega arith) e in
      rw (z, f) (all_but (circuit_ok polarised) (valid l s) (valid k s) (eqb (length l) (length k)))
    where
      all_but : (a b d e : Bool) → (a && (b && (d && (e && false)))) ≡ false
      all_but true true true true = refl
      all_but true true true false = refl
      all_but true true false e = refl
      all_but true false d e = refl
      all_but false b d e = refl

  module _ (own : valid l s ≡ true) (other : valid k s ≡ true) (long : length l ≡ length k) where
    pub may_vibrated : c ≡ vibrated → valid_two c l k s ≡ true
    may_vibrated z =
        (two_iff c l k s).1
        (record { circuit = inr z; own = own; other = other; long = long; alone = λ y. absurd (omega arith) })

    pub may_polarised : c ≡ polarised → (n : ℕ) → length l ≤ n + 1 → apart l k n ≡ true → valid_two c l k s ≡ true
    may_polarised z n h e =
        (two_iff c l k s).1
        (record { circuit = inl z; own = own; other = other; long = long; alone = λ y i m. apart-each l k n e i (omega arith) })
