-- The examples, computed: each text is accepted or refused at its record, and the short one gives its sheet and is what export writes of it.
-- Assumes nothing.
use mathlib.Core.Path.{◌≡◌, refl}
use Rattle.relay.specs.Kinds.{is_short, ordinary, between}
use Rattle.digits.specs.Digits.{digits, digits_in, value}
use Rattle.sheet.specs.Entry.{in_fields}
use Rattle.register.specs.Examples as examples
use Rattle.register.specs.Lexer.{class, act, step, run, finish, part, commas}
use Rattle.register.specs.Reading.{same, alike, may_stand, wanted, within, stands, taken_as, standing, after}
use Rattle.register.specs.Records.{start_record, kind_record, event_record, kind_records, event_records, records}
use Rattle.register.specs.Register.{exported, accepts, sheet_in}
use Rattle.register.specs.Texts.{line, lines, said_in, said_all, bare_in, bare_all}

pub each-says : examples.all_say examples.texts ≡ examples.said
unfolding examples.all_say exported lines bare_in bare_all records kind_records event_records accepts class act step run finish part commas line said_in said_all same alike may_stand is_short ordinary between in_fields wanted within stands taken_as standing after start_record kind_record event_record digits digits_in value
each-says = refl

pub short-gives : sheet_in examples.short_text ≡ examples.short_sheet
unfolding class act step run finish part commas line said_in said_all taken_as is_short ordinary after value
short-gives = refl

pub short-exported : exported examples.short_sheet ≡ examples.short_text
unfolding exported line lines bare_in bare_all records start_record kind_record event_record kind_records event_records digits digits_in
short-exported = refl
