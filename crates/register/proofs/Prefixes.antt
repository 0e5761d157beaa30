-- The records that stand, from the first on: they are the beginning of a right sheet's records, and no more of them are.
use Prim.Native.Nat.{ℕ, zero, suc, ◌+◌, ◌^◌, ◌≤◌}
use mathlib.Core.Path.{◌≡◌, refl, sym, ap, subst, ◌∙◌}
use mathlib.Core.Bool.{true, false}
use mathlib.Core.List.{List, [], ◌∷◌, ◌++◌, append_assoc, append-nil}
use native.Mathlib.Omega.{arith}
use lib.Dec.{ltb}
use lib.ListN.{length, take}
use Rattle.relay.specs.Kinds.{is_short, ordinary, count_fits, kind_fits, kinds_fit, table_ok}
use Rattle.relay.proofs.Truth.{split}
use Rattle.sheet.specs.Sheet.{Sheet}
use Rattle.register.specs.Records.{header, start_record, kind_record, event_record, kind_records, event_records, records, right_events, Right}
use Rattle.register.specs.declared.Stage.{Stage}
use Rattle.register.specs.declared.Stage.TheVariants.{AtHeader, AtStart, AtKinds, AtEvents}
use Rattle.register.specs.Reading.{Read, same, alike, wanted, stands, taken_as, taken, standing, after}
use Rattle.register.proofs.Places.{and-false}
use Rattle.register.proofs.Tables.{begun, begun-ended}
use Rattle.register.proofs.Standing.{kinds-snoc, Held, keeps}

abbrev Rec : Type 0
Rec = List (List ℕ)

module _ (s : Read) (r : Rec) (rs : List Rec) where
  pub stood : stands s r ≡ true → standing s (r ∷ rs) ≡ suc (standing (taken s r) rs)
  unfolding standing
  stood e = rw e

  pub fell : stands s r ≡ false → standing s (r ∷ rs) ≡ 0
  unfolding standing
  fell e = rw e

pub empty : (s : Read) → standing s [] ≡ 0
unfolding standing
empty s = refl

-- ---- what stands is held
pub held-take : (g : Stage) (t : Sheet) (before rs : List Rec) (j : ℕ) → j ≤ standing (record { stage = g; sheet = t }) rs → Held g t before
    → (s : Read) × Held s.stage s.sheet (before ++ take j rs)
held-take g t before [] zero h held = (record { stage = g; sheet = t }, rw (append-nil before) held)
held-take g t before (r ∷ rs) zero h held = (record { stage = g; sheet = t }, rw (append-nil before) held)
held-take g t before [] (suc j) h held = absurd (omega (arith, empty (record { stage = g; sheet = t })))
held-take g t before (r ∷ rs) (suc j) h held =
    split (stands (record { stage = g; sheet = t }) r)
    (λ e.
    let n = taken_as g t r in
    let i = held-take n.stage n.sheet (before ++ (r ∷ [])) rs j (omega (arith, stood (record { stage = g; sheet = t }) r rs e)) (keeps g t r before e held) in
    (i.0, subst (λ (x : List Rec). Held i.0.stage i.0.sheet x) (append_assoc before (r ∷ []) (take j rs)) i.1))
    (λ e. absurd (omega (arith, fell (record { stage = g; sheet = t }) r rs e)))

-- all of them, where all stand
pub held_all : (g : Stage) (t : Sheet) (before rs : List Rec) → standing (record { stage = g; sheet = t }) rs ≡ length rs → Held g t before
    → Held (after (record { stage = g; sheet = t }) rs).stage (after (record { stage = g; sheet = t }) rs).sheet (before ++ rs)
unfolding after
held_all g t before [] h held = rw (append-nil before) held
held_all g t before (r ∷ rs) h held =
    split (stands (record { stage = g; sheet = t }) r)
    (λ e.
    let n = taken_as g t r in
    let i = held_all n.stage n.sheet (before ++ (r ∷ [])) rs (omega (arith, stood (record { stage = g; sheet = t }) r rs e)) (keeps g t r before e held) in
    subst (λ (x : List Rec). Held (after n rs).stage (after n rs).sheet x) (append_assoc before (r ∷ []) rs) i)
    (λ e. absurd (omega (arith, fell (record { stage = g; sheet = t }) r rs e)))

-- ---- what is held can be gone on with
least : ℕ → Sheet
least n = record { stamp = n; kinds = 0 ∷ 1 ∷ []; events = [] }

least-right : (n : ℕ) → ltb n (2 ^ 32) ≡ true → Right (least n)
unfolding least table_ok count_fits kinds_fit kind_fits ordinary is_short right_events
least-right n h = record { table = refl; stamp = h; events = refl }

Onward : List Rec → Type 0
Onward rs = (u : Sheet) × Right u × (more : List Rec) × (records u ≡ rs ++ more)

from_kinds : (n : ℕ) (ks : List ℕ) → ltb n (2 ^ 32) ≡ true → begun 0 ks ≡ true → Onward (header ∷ start_record n ∷ kind_records 0 ks)
unfolding Onward records least right_events event_records kind_records
from_kinds n [] h b = (least n, least-right n h, kind_records 0 (0 ∷ 1 ∷ []), refl)
from_kinds n (k ∷ ks) h b = (
  record { stamp = n; kinds = (k ∷ ks) ++ (1 ∷ []); events = [] },
  record { table = begun-ended (k ∷ ks) 1 (unfold ordinary is_short in refl) (omega arith) b; stamp = h; events = refl },
  kind_record (0 + length (k ∷ ks)) 1 ∷ [],
  ap (λ (x : List Rec). header ∷ start_record n ∷ x) (append-nil (kind_records 0 ((k ∷ ks) ++ (1 ∷ []))) ∙ kinds-snoc 0 (k ∷ ks) 1),
)

pub held-right : (g : Stage) (t : Sheet) (rs : List Rec) → Held g t rs → (u : Sheet) × Right u × (more : List Rec) × (records u ≡ rs ++ more)
unfolding records least kind_records event_records Onward
held-right AtHeader t rs held = (least 0, least-right 0 refl, records (least 0), rw held.0)
held-right AtStart t rs held = (least 0, least-right 0 refl, start_record 0 ∷ kind_records 0 (0 ∷ 1 ∷ []), rw held.0)
held-right AtKinds t rs held = rw held.0 (from_kinds t.stamp t.kinds held.1 held.2)
held-right AtEvents t rs held = (t, held.1, [], sym held.0 ∙ sym (append-nil rs))

-- ---- where all of xs and what follows stand, xs stands whatever follows
pub begins-stands : (s : Read) (xs ys zs : List Rec) → standing s (xs ++ ys) ≡ length (xs ++ ys) → length xs ≤ standing s (xs ++ zs)
begins-stands s [] ys zs h = omega arith
begins-stands s (x ∷ xs) ys zs h =
    split (stands s x)
    (λ e. omega (arith, stood s x (xs ++ zs) e, begins-stands (taken s x) xs ys zs (omega (arith, stood s x (xs ++ ys) e))))
    (λ e. absurd (omega (arith, fell s x (xs ++ ys) e)))

pub standing-few : (s : Read) (rs : List Rec) → standing s rs ≤ length rs
standing-few s [] = omega (arith, empty s)
standing-few s (r ∷ rs) =
    split (stands s r) (λ e. omega (arith, stood s r rs e, standing-few (taken s r) rs)) (λ e. omega (arith, fell s r rs e))

-- ---- a blank line never stands
abbrev pub blank : Rec
blank = [] ∷ []

short : (x y : List ℕ) (r : Rec) → alike ([] ∷ []) (x ∷ y ∷ r) ≡ false
unfolding alike
short x y r = and-false (same [] x)

blank_unlike : (g : Stage) (t : Sheet) → alike blank (wanted g t blank) ≡ false
unfolding wanted start_record kind_record event_record
blank_unlike AtHeader t = short _ _ _
blank_unlike AtStart t = short _ _ _
blank_unlike AtKinds t = short _ _ _
blank_unlike AtEvents t = short _ _ _

blank-falls : (s : Read) → stands s blank ≡ false
unfolding stands
blank-falls s = rw (blank_unlike s.stage s.sheet)

pub blank_last : (s : Read) (rs : List Rec) → standing s (rs ++ (blank ∷ [])) ≡ standing s rs
blank_last s [] = fell s blank [] (blank-falls s) ∙ sym (empty s)
blank_last s (r ∷ rs) =
    split (stands s r)
    (λ e. stood s r (rs ++ (blank ∷ [])) e ∙ ap suc (blank_last (taken s r) rs) ∙ sym (stood s r rs e))
    (λ e. fell s r (rs ++ (blank ∷ [])) e ∙ sym (fell s r rs e))
