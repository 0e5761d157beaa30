-- What reading names: the first bad block, with all before it good, by the number which test it failed, and the event whose word has upper bits; or that every block is good.
-- By going along the blocks: a good one in front changes neither the name nor the number.
-- Assumes nothing.
use Prim.Native.Nat.{ℕ, zero, suc, ◌+◌, ◌<◌}
use mathlib.Core.Path.{◌≡◌, refl, sym, ap, subst, ◌∙◌}
use mathlib.Core.Logic.{◌⊎◌, inl, inr, ⊎_elim, ◌↔◌}
use mathlib.Core.Bool.{Bool, true, false}
use mathlib.Core.List.{List}
use native.Mathlib.Omega.{arith}
use borrow.Author.Tests.{ne_eqb}
use lib.Dec.{eqb}
use lib.ListN.{length}
use Rattle.sheet.specs.Layout.{check_wrong, contents_wrong, length_wrong, upper_bits}
use Rattle.sheet.specs.Check.{word, checks}
use Rattle.sheet.specs.Reading.{first_upper, events_ok, contents_ok, verdict_at, verdict, contents_fault, first_bad, length_ok, blocks_in, verdict_up_to}
use Rattle.sheet.specs.declared.Verdict.{Verdict}
use Rattle.sheet.proofs.Lengths.{wrong-length, right-length}
use Rattle.sheet.proofs.FirstTurn.{AllGood, UpperAt, Departs, upper, other, Named, all_good, bad_check, bad_contents, upper_first, departs, one_fault, all_named, stops, turn}

pub names : (most : ℕ) (s : List ℕ) (n b m e : ℕ) → b + m ≡ e → Named most s n b e (first_bad most s n b m)
unfolding first_bad
names most s n b zero e h = all_good (λ j x y. absurd (omega arith))
names most s n b (suc m) e h =
    turn most s n b e (first_bad most s n (b + 1) m) (omega arith) (names most s n (b + 1) m e (omega arith)) (checks s b) (contents_ok most s n b) refl refl

-- what a verdict on a whole sheet may be: the length is tested first
pub data NamedSheet (most : ℕ) (s : List ℕ) : Verdict → Type 0 where
  bad-length : length_ok (length s) ≡ false → NamedSheet most s (verdict length_wrong 0)
  blocks : {v : Verdict} → length_ok (length s) ≡ true → Named most s (blocks_in (length s)) 0 (blocks_in (length s)) v → NamedSheet most s v

sheet_by : (most : ℕ) (s : List ℕ) (t : Bool) → length_ok (length s) ≡ t → NamedSheet most s (verdict_up_to most s)
sheet_by most s true e = subst (NamedSheet most s) (sym (right-length most s e)) (blocks e (names most s (blocks_in (length s)) 0 (blocks_in (length s)) (blocks_in (length s)) (omega arith)))
sheet_by most s false e = subst (NamedSheet most s) (sym (wrong-length most s e)) (bad-length e)

-- 01: 'stops at once at the first bad block, naming it'
pub named-sheet : (most : ℕ) (s : List ℕ) → NamedSheet most s (verdict_up_to most s)
named-sheet most s = sheet_by most s (length_ok (length s)) refl

-- ---- and what may be named is what reading names
all_names : (most : ℕ) (s : List ℕ) (n : ℕ) (v : Verdict) → Named most s n 0 n v → first_bad most s n 0 n ≡ v
all_names most s n v (all_good f) = all_named most s n 0 n (λ j p q. f j p (omega arith))
all_names most s n v (bad_check x p q f c) = stops most s n 0 n x (verdict check_wrong x) p (omega arith) f (λ r. rw c)
all_names most s n v (bad_contents x p q f c d o) = stops most s n 0 n x v p (omega arith) f (λ r. rw (c, d) (one_fault s n x _ v (departs s n x) o))

names-sheet : (most : ℕ) (s : List ℕ) (v : Verdict) → NamedSheet most s v → verdict_up_to most s ≡ v
names-sheet most s v (bad-length e) = wrong-length most s e
names-sheet most s v (blocks e b) = right-length most s e ∙ all_names most s (blocks_in (length s)) v b

-- 18, 19, 20 and 24 'given exactly when', with the block and the event's position: a verdict is that of reading exactly when it may be named
pub verdict_iff : (most : ℕ) (s : List ℕ) (v : Verdict) → (verdict_up_to most s ≡ v) ↔ NamedSheet most s v
verdict_iff most s v = (λ e. subst (NamedSheet most s) e (named-sheet most s), names-sheet most s v)

none_named : (most : ℕ) (s : List ℕ) (v : Verdict) → NamedSheet most s v → v.number ≡ 0 → (length_ok (length s) ≡ true) × AllGood most s (blocks_in (length s)) 0 (blocks_in (length s))
none_named most s v (bad-length e) z = absurd (omega arith)
none_named most s v (blocks e (all_good f)) z = (e, f)
none_named most s v (blocks e (bad_check x a y f c)) z = absurd (omega arith)
none_named most s v (blocks e (bad_contents x a y f c d (upper p u))) z = absurd (omega arith)
none_named most s v (blocks e (bad_contents x a y f c d (other u))) z = absurd (omega arith)

-- a sheet is accepted exactly when its length is right and all its blocks are good
pub good-blocks : (most : ℕ) (s : List ℕ) → ((verdict_up_to most s).number ≡ 0) ↔ ((length_ok (length s) ≡ true) × AllGood most s (blocks_in (length s)) 0 (blocks_in (length s)))
good-blocks most s = (
  none_named most s (verdict_up_to most s) (named-sheet most s),
  λ g. ap (λ (v : Verdict). v.number) (names-sheet most s (verdict 0 0) (blocks g.0 (all_good g.1))),
)

-- ---- 02, item 6: by the number
-- the position is 0 where no event is named
pub named_none : (most : ℕ) (s : List ℕ) (v : Verdict) → NamedSheet most s v → (v.number ≡ upper_bits → ⊥) → v.position ≡ 0
named_none most s v (bad-length e) h = refl
named_none most s v (blocks e (all_good f)) h = refl
named_none most s v (blocks e (bad_check x a y f c)) h = refl
named_none most s v (blocks e (bad_contents x a y f c d (upper p u))) h = absurd (h refl)
named_none most s v (blocks e (bad_contents x a y f c d (other u))) h = refl

module _ (most : ℕ) (s : List ℕ) where
  abbrev n : ℕ
  n = blocks_in (length s)

  -- reading comes to the contents of block x: the length is right, all blocks before it are good, and it checks
  pub record AtContents (x : ℕ) : Type 0 where
    pub right : length_ok (length s) ≡ true
    pub inside : x < n
    pub before : AllGood most s n 0 x
    pub checked : checks s x ≡ true

  -- an event with upper bits departs from the layout
  upper-wrong : (x p : ℕ) → UpperAt s n x p → contents_ok most s n x ≡ false
  unfolding events_ok
  upper-wrong x p u =
      let m = word s x 0 in
      let short : eqb (first_upper s x 0 m) m ≡ false = rw (upper_first s n x p u) (ne_eqb p m (λ q. omega (arith, u.held))) in
      rw (ne_eqb x 0 (λ q. omega (arith, u.later)), u.count, short)

  -- 20 and 24 come from a block that reading has come to, whose contents depart
  departing : (v : Verdict) → NamedSheet most s v → (v.number ≡ contents_wrong) ⊎ (v.number ≡ upper_bits)
      → AtContents v.block × (contents_ok most s n v.block ≡ false) × Departs s n v.block v
  departing v (bad-length e) z = absurd (⊎_elim (λ q. omega arith) (λ q. omega arith) z)
  departing v (blocks e (all_good f)) z = absurd (⊎_elim (λ q. omega arith) (λ q. omega arith) z)
  departing v (blocks e (bad_check x a y f c)) z = absurd (⊎_elim (λ q. omega arith) (λ q. omega arith) z)
  departing v (blocks e (bad_contents x a y f c d (upper p u))) z = (record { right = e; inside = y; before = f; checked = c }, d, upper p u)
  departing v (blocks e (bad_contents x a y f c d (other u))) z = (record { right = e; inside = y; before = f; checked = c }, d, other u)

  twenty_four : (x : ℕ) (v : Verdict) → Departs s n x v → v.number ≡ upper_bits → UpperAt s n x v.position
  twenty_four x v (upper p u) z = u
  twenty_four x v (other u) z = absurd (omega arith)

  -- 24 with block x and position p exactly when all blocks before x are good, its check and its count are right, the event words before p have no upper bits and the one at p has
  pub upper_iff : (x p : ℕ) → (verdict_up_to most s ≡ verdict_at upper_bits x p) ↔ (AtContents x × UpperAt s n x p)
  upper_iff x p = (
    λ e.
        let r = departing (verdict_at upper_bits x p) ((verdict_iff most s (verdict_at upper_bits x p)).0 e) (inr refl) in
        (r.0, twenty_four x (verdict_at upper_bits x p) r.2 refl),
    λ r.
        let f = r.0 in
        (verdict_iff most s (verdict_at upper_bits x p)).1 (blocks f.right (bad_contents x (omega arith) f.inside f.before f.checked (upper-wrong x p r.1) (upper p r.1))),
  )

  either : (x : ℕ) (v : Verdict) → Departs s n x v → (v.block ≡ x) × ((v.number ≡ contents_wrong) ⊎ (v.number ≡ upper_bits))
  either x v (upper p u) = (refl, inr refl)
  either x v (other u) = (refl, inl refl)

  -- 20 and 24 together are exactly the contents that depart from the layout
  pub departs_iff : (x : ℕ) → (((verdict_up_to most s).block ≡ x) × (((verdict_up_to most s).number ≡ contents_wrong) ⊎ ((verdict_up_to most s).number ≡ upper_bits))) ↔ (AtContents x × (contents_ok most s n x ≡ false))
  departs_iff x = (
    λ r. let d = departing (verdict_up_to most s) (named-sheet most s) r.1 in rw (← r.0) (d.0, d.1),
    λ r.
        let f = r.0 in
        rw (names-sheet most s (contents_fault s n x) (blocks f.right (bad_contents x (omega arith) f.inside f.before f.checked r.1 (departs s n x))))
        (either x (contents_fault s n x) (departs s n x)),
  )
