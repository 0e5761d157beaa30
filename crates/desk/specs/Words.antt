-- The words that the program is started with, and the job that they ask for: `desk`, `desk work`, `desk why POSITION`, `desk export`, `desk import`.
-- That a position is read exactly where the listing would write it so stands in proofs/Position.antt.
-- Assumes nothing.
use Rattle.std.specs.Prelude.{ℕ, ◌-◌, ◌^◌, Bool, true, false, ◌&&◌, List, [], ◌∷◌, eqb, leb, ltb, Some, None}
use Rattle.relay.specs.Choice.{pick}
use Rattle.digits.specs.Numerals.{marked}
use Rattle.std.specs.declared.option.Option.{Option}
use Rattle.desk.specs.declared.words.Job.{Job}
use Rattle.desk.specs.declared.words.Job.TheVariants as job

-- ---- a position: 'numbers have no leading zeros'
-- what the mark of a text says: the number and 1, of 32 bits
unfoldable pub position_at : ℕ → Option ℕ
position_at m = pick (eqb m 0) None (pick (leb m (2 ^ 32)) (Some (m - 1)) None)

unfoldable pub position_of : List ℕ → Option ℕ
position_of t = position_at (marked 0 t)

-- ---- the words
unfoldable pub is_word : List ℕ → List ℕ → Bool
is_word [] [] = true
is_word (x ∷ xs) (y ∷ ys) = eqb x y && is_word xs ys
is_word [] (y ∷ ys) = false
is_word (x ∷ xs) [] = false

abbrev pub work_word : List ℕ
work_word = 119 ∷ 111 ∷ 114 ∷ 107 ∷ []

abbrev pub why_word : List ℕ
why_word = 119 ∷ 104 ∷ 121 ∷ []

abbrev pub export_word : List ℕ
export_word = 101 ∷ 120 ∷ 112 ∷ 111 ∷ 114 ∷ 116 ∷ []

abbrev pub import_word : List ℕ
import_word = 105 ∷ 109 ∷ 112 ∷ 111 ∷ 114 ∷ 116 ∷ []

-- ---- what is asked for
abbrev pub why_at : Option ℕ → Option Job
why_at (Some n) = Some (job.Why n)
why_at None = None

-- a word alone
unfoldable pub one_word : List ℕ → Option Job
one_word w =
    pick (is_word w work_word) (Some job.Work)
    (pick (is_word w export_word) (Some job.Export) (pick (is_word w import_word) (Some job.Import) None))

-- a word and one after it
unfoldable pub two_words : List ℕ → List ℕ → Option Job
two_words w a = pick (is_word w why_word) (why_at (position_of a)) None

-- by how many arguments there are, the program's own name among them, and by the words after it
unfoldable pub job_of : ℕ → List ℕ → List ℕ → Option Job
job_of n w a =
    pick (ltb n 2) (Some job.List) (pick (eqb n 2) (one_word w) (pick (eqb n 3) (two_words w a) None))
