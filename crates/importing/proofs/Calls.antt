-- What the calls say: two outcomes of import are equal; a refused import leaves the output as it was; what is written is the sheet's bytes; a sheet exported and imported is the same bytes; and a text fed in pieces, however it is cut, is the text fed whole.
-- `Below 256 s` is what a slice's type says of its bytes.
-- Assumes nothing.
use Prim.Native.Nat.{ℕ, ◌≤◌, ◌<◌, ◌^◌}
use mathlib.Core.Path.{◌≡◌, refl, sym, ap, ◌∙◌}
use mathlib.Core.List.{List, [], ◌∷◌, ◌++◌}
use native.Mathlib.Omega.{arith}
use borrow.Author.Tests.{ne_eqb}
use lib.ListN.{length, drop}
use Rattle.sheet.specs.Layout.{most_entries, one_track}
use Rattle.sheet.specs.Reading.{verdict_of, blocks_in, decode}
use Rattle.sheet.specs.Sheet.{Sheet, encode}
use Rattle.sheet.specs.Writing.{bytes_for}
use Rattle.sheet.proofs.Accepts.{accepted-good}
use Rattle.sheet.proofs.Bytes.{Below}
use Rattle.sheet.proofs.Rooms.{bytes_are, events-long}
use Rattle.sheet.proofs.TripRead.{decoded_writable}
use Rattle.sheet.proofs.Trips.{read-written}
use Rattle.sheet.proofs.Writable.{Writable}
use Rattle.register.specs.Register.{exported, RightText}
use Rattle.register.proofs.Import.{export_right, right-accepted}
use Rattle.register.proofs.Sheets.{writable-right}
use Rattle.importing.specs.Importing.{imported, import_of, import_into, Imports, closed, settle_of, settle_into}
use Rattle.importing.specs.Rooms.{Fed, fed_at, fed, fed_pieces, joined}
use Rattle.importing.specs.Steps.{begun}
use Rattle.importing.specs.declared.Imported.{Imported}
use Rattle.importing.proofs.Answers.{settled-imports}
use Rattle.importing.proofs.Fold.{fed-append}
use Rattle.importing.proofs.Outcomes.{gives}

-- ---- one outcome
pub import_one : (text out : List ℕ) (r r' : Imported) (end end' : List ℕ) → Imports text r out end → Imports text r' out end' → (r ≡ r') × (end ≡ end')
import_one text out r r' end end' a b = (a.0 ∙ sym b.0, a.1 ∙ sym b.1)

-- ---- a refusal leaves the output as it was
pub refused_import : (text : List ℕ) (r : Imported) (out out' : List ℕ) → Imports text r out out' → (r.number ≡ 0 → ⊥) → out' ≡ out
unfolding import_into
refused_import text r out out' i n = i.1 ∙ rw (ne_eqb (import_of text (length out)).number 0 (λ e. n (ap (λ (x : Imported). x.number) i.0 ∙ e)))

-- ---- a right text of a sheet that can be written gives that sheet, and nothing else is altered
module _ (t : Sheet) (text : List ℕ) (w : Writable t) (x : RightText t text) where
  pub right-imported : (r : Imported) (out out' : List ℕ) → Imports text r out out' → bytes_for (length t.events) ≤ length out
      → (r ≡ imported (bytes_for (length t.events))) × (out' ≡ encode t ++ drop (bytes_for (length t.events)) out)
  unfolding import_into
  right-imported r out out' i l =
      let g = gives text (length out) t w x l in
      let e = (right-accepted t text (writable-right t w) x).1 in
      (i.0 ∙ g, i.1 ∙ rw (g, e))

-- ---- 'gives the sheet back byte for byte'
pub there_and_back : (s : List ℕ) → Below 256 s → (verdict_of s).number ≡ 0 → (r : Imported) (out out' : List ℕ) → Imports (exported (decode s)) r out out' → length s ≤ length out
    → (r ≡ imported (length s)) × (out' ≡ s ++ drop (length s) out)
there_and_back s small z r out out' i l =
    let w : Writable (decode s) = decoded_writable (blocks_in (length s)) s (accepted-good one_track s z) small in
    let n : bytes_for (length (decode s).events) ≡ length s = ap bytes_for (events-long s) ∙ bytes_are one_track s z in
    let g = right-imported (decode s) (exported (decode s)) w (export_right (decode s)) r out out' i (omega arith) in
    (g.0 ∙ ap imported n, g.1 ∙ rw (n, read-written s small z))

-- ---- in pieces
pub pieces : (f : Fed) (ps : List (List ℕ)) → fed_pieces f ps ≡ fed f (joined ps)
unfolding fed_pieces joined fed
pieces f [] = refl
pieces f (p ∷ ps) = pieces (fed f p) ps ∙ sym (fed-append f p (joined ps))

-- a text shorter than 2^64 bytes fed from the start, in whatever pieces, and settled: what import makes of the whole
pub pieces-imported : (ps : List (List ℕ)) (out ks : List ℕ) (es : List (List ℕ)) → length (joined ps) < 2 ^ 64 → length ks ≡ 32 → length es ≡ most_entries
    → (settle_of (closed (fed_pieces (fed_at begun ks es) ps)) (length out) ≡ import_of (joined ps) (length out))
    × (settle_into (closed (fed_pieces (fed_at begun ks es) ps)) out ≡ import_into (joined ps) out)
pieces-imported ps out ks es h k e =
    settled-imports (joined ps) out ks es h k e begun (fed_pieces (fed_at begun ks es) ps) refl (pieces (fed_at begun ks es) ps)
