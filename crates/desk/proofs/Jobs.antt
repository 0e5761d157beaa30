-- Each job is asked for by its own words and by no others: no word for the listing, `work`, `export` or `import` alone, and `why` with the digits of a number of 32 bits. All other words ask for none.
-- Assumes nothing.
use Prim.Native.Nat.{ℕ, ◌^◌, ◌<◌}
use mathlib.Core.Path.{◌≡◌, refl}
use mathlib.Core.Logic.{◌↔◌}
use mathlib.Core.List.{List}
use native.Mathlib.Omega.{arith}
use borrow.Author.Tests.{lt-ltb}
use Rattle.digits.specs.Digits.{digits}
use Rattle.desk.specs.Words.{is_word, work_word, why_word, export_word, import_word, one_word, two_words, job_of}
use Rattle.desk.specs.declared.words.Job.{Job}
use Rattle.std.proofs.Common.{Option, Some, None}
use Rattle.desk.specs.declared.words.Job.TheVariants as job
use Rattle.desk.proofs.Position.{position_iff}
use Rattle.desk.proofs.JobWords.{AskedBy, asked_by}

module _ (n : ℕ) (w a : List ℕ) where
  pub list_iff : (job_of n w a ≡ Some job.List) ↔ (n < 2)
  unfolding job_of
  list_iff = (λ e. rw e at (asked_by n w a), λ h. rw (lt-ltb n 2 h))

  pub work_iff : (job_of n w a ≡ Some job.Work) ↔ ((n ≡ 2) × (w ≡ work_word))
  unfolding job_of one_word is_word
  work_iff = (λ e. rw e at (asked_by n w a), λ h. rw (h.0, h.1))

  pub why_iff : (k : ℕ) → (job_of n w a ≡ Some (job.Why k)) ↔ ((n ≡ 3) × (w ≡ why_word) × (a ≡ digits k) × (k < 2 ^ 32))
  unfolding job_of two_words is_word
  why_iff k = (λ e. rw e at (asked_by n w a), λ h. rw (h.0, h.1, (position_iff a k).1 (h.2, h.3)))

  pub export_iff : (job_of n w a ≡ Some job.Export) ↔ ((n ≡ 2) × (w ≡ export_word))
  unfolding job_of one_word is_word
  export_iff = (λ e. rw e at (asked_by n w a), λ h. rw (h.0, h.1))

  pub import_iff : (job_of n w a ≡ Some job.Import) ↔ ((n ≡ 2) × (w ≡ import_word))
  unfolding job_of one_word is_word
  import_iff = (λ e. rw e at (asked_by n w a), λ h. rw (h.0, h.1))

  -- else the words ask for nothing: no job but that one
  abbrev pub Asks : Option Job → Type 0
  Asks j = AskedBy n w a j

  none_left : (j : Option Job) → job_of n w a ≡ j → (Asks (Some job.List) → ⊥) → (Asks (Some job.Work) → ⊥) → ((k : ℕ) → Asks (Some (job.Why k)) → ⊥) → (Asks (Some job.Export) → ⊥) → (Asks (Some job.Import) → ⊥) → j ≡ None
  none_left (Some job.List) e f g h x m = absurd (f (list_iff.0 e))
  none_left (Some job.Work) e f g h x m = absurd (g (work_iff.0 e))
  none_left (Some (job.Why k)) e f g h x m = absurd (h k ((why_iff k).0 e))
  none_left (Some job.Export) e f g h x m = absurd (x (export_iff.0 e))
  none_left (Some job.Import) e f g h x m = absurd (m (import_iff.0 e))
  none_left None e f g h x m = refl

  pub unknown_iff : (job_of n w a ≡ None) ↔ ((Asks (Some job.List) → ⊥) × (Asks (Some job.Work) → ⊥) × ((k : ℕ) → Asks (Some (job.Why k)) → ⊥) × (Asks (Some job.Export) → ⊥) × (Asks (Some job.Import) → ⊥))
  unknown_iff = (
    λ e. (
      λ h. let z : ◌≡◌ {A = ℕ} 0 1 = cc (list_iff.1 h) in omega arith,
      λ h. let z : ◌≡◌ {A = ℕ} 0 1 = cc (work_iff.1 h) in omega arith,
      λ k h. let z : ◌≡◌ {A = ℕ} 0 1 = cc ((why_iff k).1 h) in omega arith,
      λ h. let z : ◌≡◌ {A = ℕ} 0 1 = cc (export_iff.1 h) in omega arith,
      λ h. let z : ◌≡◌ {A = ℕ} 0 1 = cc (import_iff.1 h) in omega arith,
    ),
    λ h. none_left (job_of n w a) refl h.0 h.1 h.2 h.3 h.4,
  )
