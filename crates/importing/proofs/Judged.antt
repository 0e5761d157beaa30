-- A record that has ended goes on exactly where its fields stand: the tests on its marks are those on its fields.
-- Assumes nothing.
use Prim.Native.Nat.{ℕ, suc, ◌+◌, ◌<◌, ◌^◌}
use mathlib.Core.Path.{◌≡◌, refl}
use mathlib.Core.Bool.{Bool}
use mathlib.Core.List.{List}
use native.Mathlib.Omega.{arith}
use borrow.Author.Tests.{lt-ltb}
use lib.Dec.{eqb}
use Rattle.relay.specs.Choice.{pick}
use Rattle.relay.specs.Kinds.{terminus, ordinary}
use Rattle.digits.specs.Numerals.{marked}
use Rattle.register.specs.declared.Stage.{Stage}
use Rattle.register.specs.declared.Stage.TheVariants.{AtHeader, AtStart, AtKinds, AtEvents}
use Rattle.register.proofs.Places.{fit}
use Rattle.importing.specs.Steps.{marks_of, word, number_in, most_counted, onward, stopped, header_stands, start_stands, kind_stands, event_stands, after_header, after_start, after_kind, after_event, judged}
use Rattle.importing.specs.declared.steps.Marks.{Marks}
use Rattle.importing.specs.declared.steps.State.{State}
use Rattle.importing.proofs.Letters.{lettered}
use Rattle.importing.proofs.Marks as marks

-- the mark of a field's bytes, at this stage and place
abbrev pub mark_of : Stage → ℕ → List ℕ → ℕ
mark_of AtHeader i f = lettered (word i) 0 f
mark_of AtStart i f = marked 0 f
mark_of AtKinds i f = marked 0 f
mark_of AtEvents i f = marked 0 f

-- the marks of a record stand
abbrev pub stands_by : Stage → ℕ → ℕ → Marks → Bool
stands_by AtHeader p e k = header_stands k
stands_by AtStart p e k = start_stands k
stands_by AtKinds p e k = kind_stands p k
stands_by AtEvents p e k = event_stands e k

-- what is known after it
abbrev pub goes_on : Stage → State → State
goes_on AtHeader s = onward s AtStart s.stamp s.posts s.events
goes_on AtStart s = onward s AtKinds (number_in s.marks.d) s.posts s.events
goes_on AtKinds s = onward s (pick (eqb (ordinary (number_in s.marks.b)) terminus) AtEvents AtKinds) s.stamp (s.posts + 1) s.events
goes_on AtEvents s = onward s AtEvents s.stamp s.posts (s.events + 1)

pub judged_by : (g : Stage) (s : State) → judged g s ≡ pick (stands_by g s.posts s.events s.marks) (goes_on g s) (stopped s)
unfolding after_header after_start after_kind after_event
judged_by AtHeader s = refl
judged_by AtStart s = refl
judged_by AtKinds s = refl
judged_by AtEvents s = refl

-- so many posts and events can be counted
abbrev pub Room : Stage → ℕ → ℕ → Type 0
Room AtHeader p e = Unit {0}
Room AtStart p e = Unit {0}
Room AtKinds p e = p < 32
Room AtEvents p e = e < most_counted

module _ (p e : ℕ) (f₀ f₁ f₂ f₃ f₄ : List ℕ) where
  abbrev pub five : Stage → Marks
  five g = marks_of (mark_of g 0 f₀) (mark_of g 1 f₁) (mark_of g 2 f₂) (mark_of g 3 f₃) (mark_of g 4 f₄)

  pub five_stand : (g : Stage) → Room g p e → stands_by g p e (five g) ≡ fit g p e f₀ f₁ f₂ f₃ f₄
  unfolding header_stands start_stands kind_stands event_stands
  five_stand AtHeader r =
      rw (marks.same_word f₀ (word 0) (omega arith), marks.same_word f₁ (word 1) (omega arith), marks.same_word f₂ (word 2) (omega arith), marks.same_word f₃ (word 3) (omega arith), marks.same_word f₄ (word 4) (omega arith))
  five_stand AtStart r =
      rw (marks.same_none f₀, marks.same_none f₁, marks.same_none f₂, marks.same_below f₃ (2 ^ 32) (omega arith), marks.same_none f₄)
  five_stand AtKinds r =
      let n : p + 1 ≡ suc p = omega arith in
      rw (lt-ltb p 32 r, marks.same_none f₀, marks.same_kind p f₁, marks.same_number f₂ p (omega arith), marks.same_none f₃, marks.same_none f₄, n)
  five_stand AtEvents r =
      let n : e + 2 ≡ suc (suc e) = omega arith in
      rw (lt-ltb e most_counted r, marks.same_number f₀ (suc e) (omega arith), marks.same_below f₁ 32 (omega arith), marks.same_below f₂ 64 (omega arith), marks.same_below f₃ (2 ^ 32) (omega arith), marks.same_below f₄ 32 (omega arith), n)
