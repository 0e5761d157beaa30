-- Export. 02, item 3: 'Export a sheet to text by RFC 4180'.
-- What is returned and what is written, each one equation: a refusal of reading with its block and position, 21 for an output too short, or 0 and the register's text at the front of the output.
-- Assumes nothing.
use Rattle.std.specs.Prelude.{ℕ, not, ◌≡◌, List, ◌++◌, Result, Ok, Err, eqb, ltb, length, drop}
use Rattle.relay.specs.Choice.{pick}
use Rattle.sheet.specs.Layout.{two_tracks, contents_wrong, room_short}
use Rattle.sheet.specs.Reading.{accepted, verdict, verdict_of, decode, form_in, verdict_up_to}
use Rattle.sheet.specs.Refusals.{verdict_of_refusal}
use Rattle.sheet.specs.declared.Verdict.{Verdict}
use Rattle.sheet.specs.declared.refusal.Refusal.{Refusal}
use Rattle.register.specs.Register.{exported}
use Rattle.exporting.specs.declared.Exported.{Exported}

-- what a refusal returns
abbrev pub refused : Verdict → Exported
refused v = record { number = v.number; block = v.block; position = v.position; bytes = 0 }

-- what export returns of a text of n bytes
abbrev pub done : ℕ → Exported
done n = record { number = 0; block = 0; position = 0; bytes = n }

-- what an outcome of export returns: how long the text is, or its refusal
abbrev pub exported_of : Result ℕ Refusal → Exported
exported_of (Ok n) = done n
exported_of (Err refusal) = refused (verdict_of_refusal refusal)

-- the register of the sheet s
abbrev pub text_for : List ℕ → List ℕ
text_for s = exported (decode s)

-- what is returned, with an output of m bytes
unfoldable pub export_of : List ℕ → ℕ → Exported
export_of s m =
    pick (not (accepted s)) (refused (verdict_of s))
    (pick (ltb m (length (text_for s))) (refused (verdict room_short 0)) (done (length (text_for s))))

-- the output afterwards: the text and then what was there; on a refusal as it was
unfoldable pub export_into : List ℕ → List ℕ → List ℕ
export_into s out =
    pick (eqb (export_of s (length out)).number 0) (text_for s ++ drop (length (text_for s)) out) out

-- what is returned and the output afterwards
abbrev pub Exports : List ℕ → Exported → List ℕ → List ℕ → Type 0
Exports s r out out' = (r ≡ export_of s (length out)) × (out' ≡ export_into s out)

-- ---- where sheets of one track and of two are read. 02, item 7
-- what is returned: 'as for reading', of either form; then of a two-track sheet 'Item 3's export refuses it (20, block 0)'; else as above
unfoldable pub export_tracks_of : List ℕ → ℕ → Exported
export_tracks_of s m =
    pick (not (eqb (verdict_up_to two_tracks s).number 0)) (refused (verdict_up_to two_tracks s))
    (pick (eqb (form_in s) two_tracks) (refused (verdict contents_wrong 0)) (export_of s m))

-- the output afterwards
unfoldable pub export_tracks_into : List ℕ → List ℕ → List ℕ
export_tracks_into s out =
    pick (eqb (export_tracks_of s (length out)).number 0) (text_for s ++ drop (length (text_for s)) out) out

-- what is returned and the output afterwards
abbrev pub ExportsTracks : List ℕ → Exported → List ℕ → List ℕ → Type 0
ExportsTracks s r out out' = (r ≡ export_tracks_of s (length out)) × (out' ≡ export_tracks_into s out)
