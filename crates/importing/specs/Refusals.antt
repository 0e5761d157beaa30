-- The number, the record and the place in a sheet that each refusal of a register's text stands for.
-- Assumes nothing.
use Rattle.std.specs.Prelude.{ℕ, ◌≡◌}
use Rattle.sheet.specs.Reading.{verdict}
use Rattle.sheet.specs.Refusals as sheet
use Rattle.sheet.specs.declared.Verdict.{Verdict}
use Rattle.register.specs.Register.{wrong_record}
use Rattle.importing.specs.declared.refusal.Refusal.{Refusal}
use Rattle.importing.specs.declared.refusal.Refusal.TheVariants.{Record, Sheet}

-- the number of a refusal
abbrev pub number_of_refusal : Refusal → ℕ
number_of_refusal (Record _) = wrong_record
number_of_refusal (Sheet refusal) = sheet.number_of_refusal refusal

-- the record that it names; 0 where it names none
abbrev pub record_of_refusal : Refusal → ℕ
record_of_refusal (Record at) = at
record_of_refusal (Sheet _) = 0

-- its number, with the block and the position that the sheet's refusal names; a record stands in no block
abbrev pub verdict_of_refusal : Refusal → Verdict
verdict_of_refusal (Record _) = verdict wrong_record 0
verdict_of_refusal (Sheet refusal) = sheet.verdict_of_refusal refusal

-- it names no block and no position, since the sheet that is written stands in none yet
abbrev pub NamesNoBlock : Refusal → Type 0
NamesNoBlock refusal = verdict_of_refusal refusal ≡ verdict (number_of_refusal refusal) 0
