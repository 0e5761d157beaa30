-- The words that ask for a job, by the job: what each outcome of `job_of` says of the words.
-- Assumes nothing.
use Prim.Native.Nat.{ℕ, ◌^◌, ◌<◌}
use mathlib.Core.Path.{◌≡◌, refl}
use mathlib.Core.List.{List}
use borrow.Author.Tests.{ltb-true, eqb-true}
use lib.Dec.{eqb, ltb}
use Rattle.relay.proofs.Truth.{by}
use Rattle.digits.specs.Digits.{digits}
use Rattle.desk.specs.Words.{position_of, is_word, work_word, why_word, export_word, import_word, why_at, one_word, two_words, job_of}
use Rattle.std.proofs.Common.{Option, Some, None}
use Rattle.desk.specs.declared.words.Job.{Job}
use Rattle.desk.specs.declared.words.Job.TheVariants as job
use Rattle.desk.proofs.Position.{position_iff}
use Rattle.desk.proofs.Same.{word_iff}

-- the words that ask for a job
abbrev pub AskedBy : ℕ → List ℕ → List ℕ → Option Job → Type 0
AskedBy n w a (Some job.List) = n < 2
AskedBy n w a (Some job.Work) = (n ≡ 2) × (w ≡ work_word)
AskedBy n w a (Some (job.Why k)) = (n ≡ 3) × (w ≡ why_word) × (a ≡ digits k) × (k < 2 ^ 32)
AskedBy n w a (Some job.Export) = (n ≡ 2) × (w ≡ export_word)
AskedBy n w a (Some job.Import) = (n ≡ 2) × (w ≡ import_word)
AskedBy n w a None = Unit

why_asked : (n : ℕ) (w a : List ℕ) → n ≡ 3 → w ≡ why_word → (p : Option ℕ) → position_of a ≡ p → AskedBy n w a (why_at p)
why_asked n w a e f (Some k) q = (e, f, ((position_iff a k).0 q).0, ((position_iff a k).0 q).1)
why_asked n w a e f None q = tt

pub asked_by : (n : ℕ) (w a : List ℕ) → AskedBy n w a (job_of n w a)
unfolding job_of one_word two_words
asked_by n w a =
    by (AskedBy n w a) (ltb n 2) (λ e. ltb-true n 2 e)
    (λ l. by (AskedBy n w a) (eqb n 2)
    (λ e. by (AskedBy n w a) (is_word w work_word) (λ f. (eqb-true n 2 e, (word_iff w work_word).0 f))
    (λ f. by (AskedBy n w a) (is_word w export_word) (λ f. (eqb-true n 2 e, (word_iff w export_word).0 f))
    (λ f. by (AskedBy n w a) (is_word w import_word) (λ f. (eqb-true n 2 e, (word_iff w import_word).0 f)) (λ f. tt))))
    (λ m. by (AskedBy n w a) (eqb n 3)
    (λ e. by (AskedBy n w a) (is_word w why_word) (λ f. why_asked n w a (eqb-true n 3 e) ((word_iff w why_word).0 f) (position_of a) refl) (λ f. tt))
    (λ e. tt)))
