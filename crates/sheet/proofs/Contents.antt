-- Contents are right exactly when the block's shape is, its event words are, and the rest is zero; which of these is wrong where they are not; and what each turn of the reader's loops tells.
-- Assumes nothing.
use Prim.Native.Nat.{ℕ, suc, ◌+◌, ◌-◌, ◌*◌, ◌≤◌, ◌<◌}
use mathlib.Core.Path.{◌≡◌, refl}
use mathlib.Core.Bool.{Bool, true, false, not, ◌&&◌, ◌||◌, false≢true}
use mathlib.Core.List.{List}
use Rattle.std.proofs.Common.{Option, Some, None}
use native.Mathlib.Omega.{arith}
use borrow.Author.Tests.{eq-eqb, ne_eqb, eqb-true, leb-true}
use lib.Dec.{eqb, leb}
use Rattle.relay.specs.Choice.{pick}
use Rattle.sheet.specs.Layout.{check_at, per_block, check_wrong, contents_wrong, upper_bits}
use Rattle.sheet.specs.Check.{word, checks}
use Rattle.sheet.specs.Entry.{upper_zero}
use Rattle.sheet.specs.Sheet.{table_words}
use Rattle.sheet.specs.Reading.{form_in, table_in, table_fits, form_ok, head_ok, events_fit, events_ok, first_upper, entries_ok, zeros, contents_ok, verdict_at, verdict, contents_fault, first_bad}
use Rattle.sheet.specs.Shape.{shape, head_shape, shape_of}
use Rattle.sheet.specs.declared.Verdict.{Verdict}
use Rattle.sheet.specs.declared.Shape.{Shape}
use Rattle.sheet.proofs.Table.{fits-few, words-few}

-- ---- the shape of block 0 of a sheet that may be of so many tracks
-- its form and its table are right
abbrev pub head_fits : ℕ → List ℕ → Bool
head_fits most s = form_ok most (form_in s) && table_fits (form_in s) (table_in s)

-- the words before its zeros
abbrev head_used : List ℕ → ℕ
head_used s = 3 + table_words (form_in s) (word s 0 1)

module _ (most : ℕ) (s : List ℕ) where
  pub head-bad : head_fits most s ≡ false → head_shape most s ≡ None
  unfolding head_shape
  head-bad h = rw h

  pub head-good : head_fits most s ≡ true → head_shape most s ≡ shape 0 (head_used s)
  unfolding head_shape
  head-good h = rw h

-- ---- the shape of block b of n, by its cases
module _ (most : ℕ) (s : List ℕ) (n b : ℕ) where
  pub head-shape : b ≡ 0 → shape_of most s n b ≡ head_shape most s
  unfolding shape_of
  head-shape e = rw (eq-eqb b 0 e)

  module _ (e : b ≡ 0 → ⊥) where
    pub events-bad : events_fit (word s b 0) (eqb (b + 1) n) ≡ false → shape_of most s n b ≡ None
    unfolding shape_of
    events-bad h = rw (ne_eqb b 0 e, h)

    pub events-good : events_fit (word s b 0) (eqb (b + 1) n) ≡ true → shape_of most s n b ≡ shape (word s b 0) (1 + word s b 0 * 2)
    unfolding shape_of
    events-good h = rw (ne_eqb b 0 e, h)

-- what a shape asks of the words of block b
abbrev pub fills : List ℕ → ℕ → Option Shape → Bool
fills s b None = false
fills s b (Some f) = entries_ok s b f.events && zeros s b f.used (check_at - f.used)

head-fills : (most : ℕ) (s : List ℕ) (t : Bool) → head_fits most s ≡ t
    → head_ok most s ≡ fills s 0 (pick t (shape 0 (head_used s)) None)
unfolding head_ok first_upper
head-fills most s true e = rw e
head-fills most s false e = rw e

events-fills : (s : List ℕ) (b : ℕ) (last t : Bool) → events_fit (word s b 0) last ≡ t
    → events_ok s b last ≡ fills s b (pick t (shape (word s b 0) (1 + word s b 0 * 2)) None)
unfolding events_ok
events-fills s b last true e = rw e
events-fills s b last false e = rw e

contents_by : (most : ℕ) (s : List ℕ) (n b : ℕ) (t : Bool) → eqb b 0 ≡ t → contents_ok most s n b ≡ fills s b (shape_of most s n b)
unfolding shape_of head_shape
contents_by most s n b true e = let z : b ≡ 0 = eqb-true b 0 e in rw z (head-fills most s _ refl)
contents_by most s n b false e = rw e (events-fills s b (eqb (b + 1) n) _ refl)

-- contents are right exactly when the shape is filled
pub contents_fills : (most : ℕ) (s : List ℕ) (n b : ℕ) → contents_ok most s n b ≡ fills s b (shape_of most s n b)
contents_fills most s n b = contents_by most s n b (eqb b 0) refl

-- what is said where they are not so: the event whose word has upper bits, in a block of the right shape
abbrev pub fault_in : List ℕ → ℕ → Option Shape → Verdict
fault_in s b None = verdict contents_wrong b
fault_in s b (Some f) = pick (not (entries_ok s b f.events)) (verdict_at upper_bits b (first_upper s b 0 f.events)) (verdict contents_wrong b)

-- of block 0, whose shape has no events, and of a later one
head-fault : (s : List ℕ) (b k : ℕ) (t : Bool) → verdict contents_wrong b ≡ fault_in s b (pick t (shape 0 k) None)
unfolding first_upper
head-fault s b k true = refl
head-fault s b k false = refl

events-fault : (s : List ℕ) (b m k : ℕ) (t : Bool)
    → pick (not t) (verdict contents_wrong b) (pick (not (entries_ok s b m)) (verdict_at upper_bits b (first_upper s b 0 m)) (verdict contents_wrong b)) ≡ fault_in s b (pick t (shape m k) None)
events-fault s b m k true = refl
events-fault s b m k false = refl

fault_by : (most : ℕ) (s : List ℕ) (n b : ℕ) (t : Bool) → eqb b 0 ≡ t → contents_fault s n b ≡ fault_in s b (shape_of most s n b)
unfolding contents_fault shape_of head_shape
fault_by most s n b true e = rw e (head-fault s b (head_used s) (head_fits most s))
fault_by most s n b false e = rw e (events-fault s b (word s b 0) (1 + word s b 0 * 2) (events_fit (word s b 0) (eqb (b + 1) n)))

pub fault-fills : (most : ℕ) (s : List ℕ) (n b : ℕ) → contents_fault s n b ≡ fault_in s b (shape_of most s n b)
fault-fills most s n b = fault_by most s n b (eqb b 0) refl

-- contents that are wrong, and what is said of them
abbrev pub Faulty : List ℕ → ℕ → Option Shape → Verdict → Type 0
Faulty s b f v = (fills s b f ≡ false) × (fault_in s b f ≡ v)

pub wrong-shape : (s : List ℕ) (b : ℕ) → Faulty s b None (verdict contents_wrong b)
wrong-shape s b = (refl, refl)

module _ (s : List ℕ) (b : ℕ) (f : Shape) where
  pub wrong-entry : (j : ℕ) → first_upper s b 0 f.events ≡ j → j < f.events → Faulty s b (Some f) (verdict_at upper_bits b j)
  wrong-entry j e h = rw (e, ne_eqb j f.events (λ q. omega arith)) (refl, refl)

  pub wrong-zero : entries_ok s b f.events ≡ true → zeros s b f.used (check_at - f.used) ≡ false → Faulty s b (Some f) (verdict contents_wrong b)
  wrong-zero e z = rw (e, z) (refl, refl)

-- ---- a shape that is right stays within the block
both : (a b : Bool) → (a && b) ≡ true → (a ≡ true) × (b ≡ true)
both true b e = (refl, e)
both false b e = absurd (false≢true e)

-- the block's events and the words before its zeros
pub record Inside (f : Shape) : Type 0 where
  pub events : f.events ≤ 60
  pub words : f.used ≤ 127

inside_by : (t : Bool) (m k : ℕ) (f : Shape) → (t ≡ true → (m ≤ 60) × (k ≤ 127)) → pick t (shape m k) None ≡ Some f → Inside f
inside_by true m k f h e =
    let events : m ≡ f.events = cc in
    let words : k ≡ f.used = cc in
    record { events = omega (arith, (h refl).0); words = omega (arith, (h refl).1) }
inside_by false m k f h e = cc

shape_by : (most : ℕ) (s : List ℕ) (n b : ℕ) (t : Bool) (f : Shape) → eqb b 0 ≡ t → shape_of most s n b ≡ Some f → Inside f
unfolding shape_of head_shape events_fit
shape_by most s n b true f e h = inside_by _ 0 (head_used s) f (λ q.
    let f = words-few s (fits-few s (both (form_ok most (form_in s)) (table_fits (form_in s) (table_in s)) q).1) in (omega arith, omega arith)) (rw e at h)
shape_by most s n b false f e h = inside_by _ (word s b 0) (1 + word s b 0 * 2) f (λ q.
    let f = leb-true (word s b 0) per_block (both (leb 1 (word s b 0)) (leb (word s b 0) per_block) (both _ (eqb (b + 1) n || eqb (word s b 0) per_block) q).0).1 in (omega arith, omega arith)) (rw e at h)

pub shape-inside : (most : ℕ) (s : List ℕ) (n b : ℕ) (f : Shape) → shape_of most s n b ≡ Some f → Inside f
shape-inside most s n b f h = shape_by most s n b (eqb b 0) f refl h

-- ---- a turn of the loop over events, and its end
left : (j n : ℕ) → j < n → n - j ≡ suc (n - (j + 1))
left j n h = omega arith

module _ (s : List ℕ) (b m j : ℕ) where
  module _ (h : j < m) where
    pub entries_more : upper_zero (form_in s) (word s b (1 + j * 2)) ≡ true → first_upper s b j (m - j) ≡ first_upper s b (j + 1) (m - (j + 1))
    unfolding first_upper
    entries_more e = rw (left j m h, e)

    pub entries-bad : upper_zero (form_in s) (word s b (1 + j * 2)) ≡ false → first_upper s b j (m - j) ≡ j
    unfolding first_upper
    entries-bad e = rw (left j m h, e)

    pub zeros_more : word s b j ≡ 0 → zeros s b j (m - j) ≡ zeros s b (j + 1) (m - (j + 1))
    unfolding zeros
    zeros_more e = rw (left j m h, eq-eqb (word s b j) 0 e)

    pub zeros-bad : (word s b j ≡ 0 → ⊥) → zeros s b j (m - j) ≡ false
    unfolding zeros
    zeros-bad e = rw (left j m h, ne_eqb (word s b j) 0 e)

  pub entries-done : m ≤ j → j ≤ m → first_upper s b j (m - j) ≡ first_upper s b 0 m → entries_ok s b m ≡ true
  unfolding first_upper
  entries-done h k inv = let e : m - j ≡ 0 = omega arith in rw (← inv, e) (eq-eqb j m (omega arith))

  pub zeros-done : m ≤ j → zeros s b j (m - j) ≡ true
  unfolding zeros
  zeros-done h = let e : m - j ≡ 0 = omega arith in rw e

-- ---- a turn of the loop over blocks, and its end
module _ (most : ℕ) (s : List ℕ) (n b : ℕ) where
  module _ (h : b < n) where
    pub bad_check : checks s b ≡ false → first_bad most s n b (n - b) ≡ verdict check_wrong b
    unfolding first_bad
    bad_check e = rw (left b n h, e)

    module _ (e : checks s b ≡ true) where
      pub bad_contents : fills s b (shape_of most s n b) ≡ false → first_bad most s n b (n - b) ≡ fault_in s b (shape_of most s n b)
      unfolding first_bad
      bad_contents f = rw (left b n h, e, contents_fills most s n b, f) (fault-fills most s n b)

      pub good_block : fills s b (shape_of most s n b) ≡ true → first_bad most s n b (n - b) ≡ first_bad most s n (b + 1) (n - (b + 1))
      unfolding first_bad
      good_block f = rw (left b n h, e, contents_fills most s n b, f)

  pub no_more : n ≤ b → first_bad most s n b (n - b) ≡ verdict 0 0
  unfolding first_bad
  no_more h = let e : n - b ≡ 0 = omega arith in rw e
