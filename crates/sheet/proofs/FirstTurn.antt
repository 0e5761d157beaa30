-- What may be named of a block and of a row of blocks, and that each turn of reading names that: the contents of one block by their tests in order, and a good block in front of others, which changes neither the name nor the number.
-- Assumes nothing.
use Prim.Native.Nat.{ℕ, zero, suc, ◌+◌, ◌*◌, ◌≤◌, ◌<◌}
use mathlib.Core.Path.{◌≡◌, refl, sym, ap, subst, ◌∙◌}
use mathlib.Core.Logic.{⊎_elim}
use mathlib.Core.Bool.{Bool, true, false, not, false≢true}
use mathlib.Core.List.{List}
use native.Mathlib.Nat.{eq-or-lt_of_le}
use native.Mathlib.Omega.{arith}
use borrow.Author.Tests.{eqb-true, eqb-false}
use lib.Dec.{eqb}
use Rattle.relay.specs.Choice.{pick}
use Rattle.sheet.specs.Layout.{check_wrong, contents_wrong, upper_bits}
use Rattle.sheet.specs.Check.{word, checks}
use Rattle.sheet.specs.Reading.{form_in, first_upper, entries_ok, events_fit, contents_ok, verdict_at, verdict, contents_fault, first_bad}
use Rattle.sheet.specs.declared.Verdict.{Verdict}
use Rattle.sheet.proofs.Upper.{first_upper_lem, one_first}

-- block b of a sheet of n blocks is good
pub record GoodBlock (most : ℕ) (s : List ℕ) (n b : ℕ) : Type 0 where
  pub checked : checks s b ≡ true
  pub filled : contents_ok most s n b ≡ true

-- the blocks from b up to, not including, e are good
abbrev pub AllGood : ℕ → List ℕ → ℕ → ℕ → ℕ → Type 0
AllGood most s n b e = (j : ℕ) → b ≤ j → j < e → GoodBlock most s n j

-- the number of events of block x is right, and event p is the first of them whose word has upper bits
pub record UpperAt (s : List ℕ) (n x p : ℕ) : Type 0 where
  pub later : 1 ≤ x
  pub count : events_fit (word s x 0) (eqb (x + 1) n) ≡ true
  pub held : p < word s x 0
  pub before : (j : ℕ) → j < p → word s x (1 + j * 2) < form_in s * 65536
  pub here : form_in s * 65536 ≤ word s x (1 + p * 2)

-- what contents of block x that depart from the layout are refused with: 24 where there is such an event, which it names, else 20
pub data Departs (s : List ℕ) (n x : ℕ) : Verdict → Type 0 where
  upper : (p : ℕ) → UpperAt s n x p → Departs s n x (verdict_at upper_bits x p)
  other : ((p : ℕ) → UpperAt s n x p → ⊥) → Departs s n x (verdict contents_wrong x)

-- what a verdict on these blocks may be
pub data Named (most : ℕ) (s : List ℕ) (n b e : ℕ) : Verdict → Type 0 where
  all_good : AllGood most s n b e → Named most s n b e (verdict 0 0)
  bad_check : (x : ℕ) → b ≤ x → x < e → AllGood most s n b x → checks s x ≡ false → Named most s n b e (verdict check_wrong x)
  bad_contents : (x : ℕ) {v : Verdict} → b ≤ x → x < e → AllGood most s n b x → checks s x ≡ true → contents_ok most s n x ≡ false → Departs s n x v → Named most s n b e v

-- ---- the contents of one block
module _ (s : List ℕ) (n x : ℕ) where
  -- such an event is the one that the search finds
  pub upper_first : (p : ℕ) → UpperAt s n x p → first_upper s x 0 (word s x 0) ≡ p
  upper_first p u =
      one_first s x (word s x 0) _ p (first_upper_lem s x 0 (word s x 0))
      (record { most = omega (arith, u.held); before = λ i h k. u.before i k; here = λ h. u.here })

  -- by the tests of contents_fault, in their order
  departs_by : (t f u : Bool) → eqb x 0 ≡ t → events_fit (word s x 0) (eqb (x + 1) n) ≡ f → entries_ok s x (word s x 0) ≡ u → Departs s n x (contents_fault s n x)
  unfolding contents_fault
  departs_by true f u a b c = rw a (other (λ p h. omega (arith, h.later, eqb-true x 0 a)))
  departs_by false false u a b c = rw (a, b) (other (λ p h. false≢true (sym b ∙ h.count)))
  departs_by false true true a b c =
      rw (a, b, c) (other (λ p h. omega (arith, h.held, upper_first p h, eqb-true (first_upper s x 0 (word s x 0)) (word s x 0) c)))
  departs_by false true false a b c =
      let r = first_upper_lem s x 0 (word s x 0) in
      let short : first_upper s x 0 (word s x 0) < word s x 0 = below (first_upper s x 0 (word s x 0)) (word s x 0) (omega (arith, r.most)) (eqb-false (first_upper s x 0 (word s x 0)) (word s x 0) c) in
      rw (a, b, c)
      (upper _ (record {
        later = some x (eqb-false x 0 a);
        count = b;
        held = short;
        before = λ j h. r.before j (omega arith) h;
        here = r.here (omega (arith, short));
      }))
    where
      below : (m k : ℕ) → m ≤ k → (m ≡ k → ⊥) → m < k
      below m k h e = omega arith

      some : (m : ℕ) → (m ≡ 0 → ⊥) → 1 ≤ m
      some m e = omega arith

  pub departs : Departs s n x (contents_fault s n x)
  departs = departs_by (eqb x 0) (events_fit (word s x 0) (eqb (x + 1) n)) (entries_ok s x (word s x 0)) refl refl refl

  -- no other is so
  pub one_fault : (v w : Verdict) → Departs s n x v → Departs s n x w → v ≡ w
  one_fault v w (upper p a) (upper q b) = ap (verdict_at upper_bits x) (sym (upper_first p a) ∙ upper_first q b)
  one_fault v w (upper p a) (other f) = absurd (f p a)
  one_fault v w (other f) (upper p a) = absurd (f p a)
  one_fault v w (other f) (other g) = refl

-- ---- along the blocks
-- one good block more in front
front : {most : ℕ} {s : List ℕ} {n b e : ℕ} → GoodBlock most s n b → AllGood most s n (b + 1) e → AllGood most s n b e
front {most} {s} {n} {b} g f j p q = ⊎_elim (λ t. subst (GoodBlock most s n) t g) (λ l. f j (omega arith) q) (eq-or-lt_of_le p)

more : {most : ℕ} {s : List ℕ} {n b e : ℕ} {v : Verdict} → GoodBlock most s n b → Named most s n (b + 1) e v → Named most s n b e v
more g (all_good f) = all_good (front g f)
more g (bad_check x a z f c) = bad_check x (omega arith) z (front g f) c
more g (bad_contents x a z f c d o) = bad_contents x (omega arith) z (front g f) c d o

-- no block is named where all are good
pub all_named : (most : ℕ) (s : List ℕ) (n b m : ℕ) → AllGood most s n b (b + m) → first_bad most s n b m ≡ verdict 0 0
unfolding first_bad
all_named most s n b zero f = refl
all_named most s n b (suc m) f =
    let g = f b (omega arith) (omega arith) in
    rw (g.checked, g.filled) (all_named most s n (b + 1) m (λ j p q. f j (omega arith) (omega arith)))

-- a block after good ones, at which reading stops with v whatever follows, is named so
pub stops : (most : ℕ) (s : List ℕ) (n b m x : ℕ) (v : Verdict) → b ≤ x → x < b + m → AllGood most s n b x
    → ((r : Verdict) → pick (not (checks s x)) (verdict check_wrong x) (pick (not (contents_ok most s n x)) (contents_fault s n x) r) ≡ v)
    → first_bad most s n b m ≡ v
unfolding first_bad
stops most s n b zero x v h k f bad = absurd (omega arith)
stops most s n b (suc m) x v h k f bad =
    ⊎_elim
    (λ (e : b ≡ x). rw e (bad (first_bad most s n (x + 1) m)))
    (λ (l : b < x).
    let g = f b (omega arith) l in
    rw (g.checked, g.filled) (stops most s n (b + 1) m x v (omega arith) (omega arith) (λ j p q. f j (omega arith) q) bad))
    (eq-or-lt_of_le h)

-- a turn, by the two tests
pub turn : (most : ℕ) (s : List ℕ) (n b e : ℕ) (v : Verdict) → b < e → Named most s n (b + 1) e v → (t u : Bool) → checks s b ≡ t → contents_ok most s n b ≡ u
    → Named most s n b e (pick (not t) (verdict check_wrong b) (pick (not u) (contents_fault s n b) v))
turn most s n b e v h r true true p q = more (record { checked = p; filled = q }) r
turn most s n b e v h r true false p q = bad_contents b (omega arith) h (λ j x y. absurd (omega arith)) p q (departs s n b)
turn most s n b e v h r false u p q = bad_check b (omega arith) h (λ j x y. absurd (omega arith)) p
