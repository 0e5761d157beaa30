-- Events in their fields and numbers below another: what is left decides, and each of a list that passes is in its own.
-- Assumes nothing.
use mathlib.Core.Path.{◌≡◌, refl}
use Prim.Native.Nat.{ℕ, ◌+◌, ◌≤◌, ◌<◌}
use mathlib.Core.Bool.{Bool, true, false, ◌&&◌}
use mathlib.Core.List.{List, []}
use borrow.Author.Tests.{ltb-true, lt-ltb}
use lib.Dec.{eqb, ltb}
use lib.ListN.{length, drop, get_or, get_or-eq_default}
use native.Mathlib.Omega.{arith}
use Rattle.sheet.specs.Entry.{in_fields, number_of, post_of, answer_of}
use Rattle.sheet.specs.Writing.{all_in_fields, all_below, tracks_fit}
use Rattle.sheet.specs.Reading.{form_ok}
use Rattle.relay.proofs.Truth.{facts, least_or_below}
use Rattle.sheet.proofs.Along as along
use Rattle.sheet.proofs.Along.{Tests, both}

-- the test of every event, and of every number below m
pub fields_test : Tests in_fields all_in_fields
unfolding all_in_fields
fields_test = record { none = refl; more = λ e es. refl }

pub below_test : (m : ℕ) → Tests (λ x. ltb x m) (all_below m)
unfolding all_below
below_test m = record { none = refl; more = λ x xs. refl }

-- the events from i on
abbrev pub Rest : List (List ℕ) → ℕ → Bool
Rest es i = all_in_fields (drop i es)

module _ (es : List (List ℕ)) (i : ℕ) (h : i < length es) (inv : Rest es i ≡ all_in_fields es) where
  pub stops : in_fields (get_or es i []) ≡ false → all_in_fields es ≡ false
  stops = along.stops fields_test [] es i h inv

  pub goes : in_fields (get_or es i []) ≡ true → Rest es (i + 1) ≡ all_in_fields es
  goes = along.goes fields_test [] es i h inv

pub ended : (es : List (List ℕ)) (i : ℕ) → length es ≤ i → Rest es i ≡ all_in_fields es → all_in_fields es ≡ true
ended = along.ended fields_test []

-- each event of a list that passes
pub each : (es : List (List ℕ)) → all_in_fields es ≡ true → (i : ℕ) → i < length es → in_fields (get_or es i []) ≡ true
each = along.each fields_test []

-- a list passes where each of its events does
pub every : (es : List (List ℕ)) → ((i : ℕ) → i < length es → in_fields (get_or es i []) ≡ true) → all_in_fields es ≡ true
every = along.every fields_test []

-- each of a list that passes is below m, and so is the zero past its end
below_each : (m : ℕ) (xs : List ℕ) → all_below m xs ≡ true → (i : ℕ) → i < length xs → get_or xs i 0 < m
below_each m xs e i h = ltb-true (get_or xs i 0) m (along.each (below_test m) 0 xs e i h)

pub below_at : (m : ℕ) (xs : List ℕ) → all_below m xs ≡ true → 0 < m → (i : ℕ) → get_or xs i 0 < m
below_at m xs e z i =
    least_or_below (length xs) i
    (λ h. rw (get_or-eq_default xs 0 {n = i} h) z)
    (λ h. below_each m xs e i h)

pub below-every : (m : ℕ) (xs : List ℕ) → ((i : ℕ) → i < length xs → get_or xs i 0 < m) → all_below m xs ≡ true
below-every m xs f = along.every (below_test m) 0 xs (λ i h. lt-ltb (get_or xs i 0) m (f i h))

-- a track of a sheet of one track or of two is below 2
pub tracks_two : (form n : ℕ) (ts : List ℕ) → form_ok 2 form ≡ true → tracks_fit form n ts ≡ true → all_below 2 ts ≡ true
unfolding form_ok tracks_fit
tracks_two form n ts f e =
    let g = simp facts at f in
    let b = (both (eqb (length ts) n) (all_below form ts) e).1 in
    below-every 2 ts (λ i h. omega (arith, g.1, below_each form ts b i h))

-- the three fields of an event
pub record In (e : List ℕ) : Type 0 where
  pub number : number_of e < 32
  pub post : post_of e < 64
  pub answer : answer_of e < 32

pub fields : (e : List ℕ) → in_fields e ≡ true → In e
unfolding in_fields
fields e a =
    let b = both (ltb (number_of e) 32) (ltb (post_of e) 64 && ltb (answer_of e) 32) a in
    let c = both (ltb (post_of e) 64) (ltb (answer_of e) 32) b.1 in
    record {
      number = ltb-true (number_of e) 32 b.0;
      post = ltb-true (post_of e) 64 c.0;
      answer = ltb-true (answer_of e) 32 c.1;
    }
