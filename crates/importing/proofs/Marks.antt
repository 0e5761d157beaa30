-- What a field's mark says of the field: each test of a record on marks is the test on its fields.
-- Assumes nothing.
use Prim.Native.Nat.{ℕ, suc, ◌-◌, ◌≤◌, ◌<◌, ◌^◌}
use mathlib.Core.Path.{◌≡◌, refl, sym, ap, ◌∙◌}
use mathlib.Core.Bool.{Bool, true, false, ◌&&◌, ◌||◌}
use mathlib.Core.List.{List, []}
use native.Mathlib.Omega.{arith}
use borrow.Author.Tests.{le-leb, leb-true, lt-ltb, ltb-true, eqb-true, eq-eqb, ne_eqb}
use lib.Dec.{eqb, leb, ltb}
use lib.ListN.{length}
use Rattle.relay.specs.Kinds.{origin, terminus, ordinary, between}
use Rattle.relay.proofs.Truth.{and_facts, or_facts, split, pick_facts}
use Rattle.digits.specs.Digits.{digits, value}
use Rattle.digits.specs.Numerals.{wrong, limit, marked}
use Rattle.digits.proofs.Numerals.{marked-digits, marked-says, marked_none}
use Rattle.digits.proofs.Value.{digits_value}
use Rattle.register.specs.Reading.{same, may_stand}
use Rattle.register.proofs.Alike.{same_refl, same_eq}
use Rattle.register.proofs.Places.{numeral, numeral_below}
use Rattle.relay.proofs.Facts.{between_iff}
use Rattle.relay.proofs.Forms.{kind-few}
use Rattle.importing.specs.Steps.{number_in, is_below}
use Rattle.importing.proofs.Letters.{lettered, is_word, word_is}

-- two tests are one where each gives the other
pub one_test : (a b : Bool) → (a ≡ true → b ≡ true) → (b ≡ true → a ≡ true) → a ≡ b
one_test true b f g = sym (f refl)
one_test false true f g = g refl
one_test false false f g = refl

-- a field is the digits of the number that it says
numeral_is : (f : List ℕ) → numeral f ≡ true → f ≡ digits (value 0 f)
numeral_is f e = same_eq f (digits (value 0 f)) e

module _ (f : List ℕ) where
  -- nothing
  pub same_none : same f [] ≡ eqb (marked 0 f) 0
  unfolding marked
  same_none =
      one_test (same f []) (eqb (marked 0 f) 0)
      (λ e. eq-eqb (marked 0 f) 0 (ap (marked 0) (same_eq f [] e)))
      (λ e. rw (marked_none f (eqb-true (marked 0 f) 0 e)) (same_refl []))

  -- this number
  pub same_number : (n : ℕ) → n < limit → same f (digits n) ≡ eqb (marked 0 f) (suc n)
  same_number n h =
      one_test (same f (digits n)) (eqb (marked 0 f) (suc n))
      (λ e. eq-eqb (marked 0 f) (suc n) (ap (marked 0) (same_eq f (digits n) e) ∙ marked-digits n h))
      (λ e. rw (marked-says f n (eqb-true (marked 0 f) (suc n) e) h) (same_refl (digits n)))

  -- this word
  pub same_word : (w : List ℕ) → length w < wrong → same f w ≡ eqb (lettered w 0 f) (length w)
  same_word w h =
      one_test (same f w) (eqb (lettered w 0 f) (length w))
      (λ e. eq-eqb (lettered w 0 f) (length w) (word_is w h f (same_eq f w e)))
      (λ e. rw (is_word w h f (eqb-true (lettered w 0 f) (length w) e)) (same_refl w))

  -- a number below n
  below_facts : (n : ℕ) → is_below n (marked 0 f) ≡ true → (1 ≤ marked 0 f) × (marked 0 f ≤ n)
  unfolding is_below
  below_facts n e = let a = (and_facts (leb 1 (marked 0 f)) (leb (marked 0 f) n)).0 e in (leb-true 1 (marked 0 f) a.0, leb-true (marked 0 f) n a.1)

  is_below_lem : (n : ℕ) → 1 ≤ marked 0 f → marked 0 f ≤ n → is_below n (marked 0 f) ≡ true
  unfolding is_below
  is_below_lem n h k = rw (le-leb 1 (marked 0 f) h, le-leb (marked 0 f) n k)

  -- what it says
  says : (n : ℕ) → n ≤ limit → is_below n (marked 0 f) ≡ true → f ≡ digits (marked 0 f - 1)
  says n h e =
      let a = below_facts n e in
      marked-says f (marked 0 f - 1) (omega arith) (omega arith)

  value-says : (n : ℕ) → n ≤ limit → is_below n (marked 0 f) ≡ true → value 0 f ≡ marked 0 f - 1
  value-says n h e = ap (value 0) (says n h e) ∙ digits_value (marked 0 f - 1)

  numeral-mark : numeral f ≡ true → value 0 f < limit → marked 0 f ≡ suc (value 0 f)
  numeral-mark e h = ap (marked 0) (numeral_is f e) ∙ marked-digits (value 0 f) h

  pub same_below : (n : ℕ) → n ≤ limit → numeral_below n f ≡ is_below n (marked 0 f)
  same_below n h =
      one_test (numeral_below n f) (is_below n (marked 0 f))
      (λ e.
      let a = (and_facts (numeral f) (ltb (value 0 f) n)).0 e in
      let l = ltb-true (value 0 f) n a.1 in
      let m = numeral-mark a.0 (omega arith) in
      is_below_lem n (omega arith) (omega arith))
      (λ e.
      let a = below_facts n e in
      let v = value-says n h e in
      let q : numeral f ≡ true = rw (ap digits v) (rw (← says n h e) (same_refl f)) in
      (and_facts (numeral f) (ltb (value 0 f) n)).1 (q, lt-ltb (value 0 f) n (omega arith)))

  -- the number that is kept
  pub number-says : is_below (2 ^ 32) (marked 0 f) ≡ true → value 0 f ≡ number_in (marked 0 f)
  unfolding number_in
  number-says e =
      let a = below_facts (2 ^ 32) e in
      rw (ne_eqb (marked 0 f) 0 (λ z. omega arith), le-leb (marked 0 f) (2 ^ 32) a.1) (value-says (2 ^ 32) (omega arith) e)

-- ---- a kind
-- a kind that may stand is small
may_small : (i k : ℕ) → may_stand i k ≡ true → k < 2 ^ 32
unfolding may_stand
may_small i k e =
    let j = ordinary k in
    let f = (pick_facts (eqb i 0) (eqb j origin) (eqb j terminus || (between j && ltb i 31))).0 e in
    let small : j < 5 =
    split (eqb i 0)
    (λ z. omega (arith, eqb-true j origin (f.0 z)))
    (λ z. or_facts (eqb j terminus) (between j && ltb i 31) (λ y. omega (arith, eqb-true j terminus y)) (λ y. omega (arith, (between_iff j).0 ((and_facts (between j) (ltb i 31)).0 y).0)) (f.1 z)) in
    omega (arith, kind-few k small)

module _ (i : ℕ) (f : List ℕ) where
  pub same_kind : (numeral f && may_stand i (value 0 f)) ≡ (is_below (2 ^ 32) (marked 0 f) && may_stand i (number_in (marked 0 f)))
  same_kind =
      one_test (numeral f && may_stand i (value 0 f)) (is_below (2 ^ 32) (marked 0 f) && may_stand i (number_in (marked 0 f)))
      (λ e.
      let a = (and_facts (numeral f) (may_stand i (value 0 f))).0 e in
      let l = lt-ltb (value 0 f) (2 ^ 32) (may_small i (value 0 f) a.1) in
      let b : is_below (2 ^ 32) (marked 0 f) ≡ true = sym (same_below f (2 ^ 32) (omega arith)) ∙ (and_facts (numeral f) (ltb (value 0 f) (2 ^ 32))).1 (a.0, l) in
      (and_facts (is_below (2 ^ 32) (marked 0 f)) (may_stand i (number_in (marked 0 f)))).1 (b, sym (ap (may_stand i) (number-says f b)) ∙ a.1))
      (λ e.
      let a = (and_facts (is_below (2 ^ 32) (marked 0 f)) (may_stand i (number_in (marked 0 f)))).0 e in
      let b = (and_facts (numeral f) (ltb (value 0 f) (2 ^ 32))).0 (same_below f (2 ^ 32) (omega arith) ∙ a.0) in
      (and_facts (numeral f) (may_stand i (value 0 f))).1 (b.0, ap (may_stand i) (number-says f a.0) ∙ a.1))
