-- What reading left in rooms that take any sheet: it refused as the sheet is refused, or the kinds and the events stand at the front, and their register is the sheet's.
-- Assumes nothing.
use Rattle.std.specs.Prelude.{Ok, Err}
use Prim.Native.Nat.{ℕ, ◌≤◌}
use mathlib.Core.Path.{◌≡◌, refl, sym, ap}
use mathlib.Core.List.{List}
use lib.ListN.{length, take}
use Rattle.sheet.specs.Reading.{verdict_at, verdict_of, read_of, handed, decode, found}
use Rattle.sheet.specs.Refusals.{found_of}
use Rattle.sheet.specs.declared.Found.{Found}
use Rattle.sheet.specs.declared.Header.{Header}
use Rattle.sheet.specs.declared.refusal.Refusal.{Refusal}
use Rattle.sheet.proofs.AnyRoom.{bad, good, front}
use Rattle.sheet.proofs.Refusals.{refuses}
use Rattle.exporting.specs.Exporting.{exported_of, text_for, Exports}
use Rattle.exporting.specs.Fields.{register_of}
use Rattle.exporting.proofs.Outcomes.{exports_unread}
use Rattle.exporting.proofs.Registers.{exported_is}

pub unread : (s out : List ℕ) (r : Refusal) → found_of (Err r) ≡ read_of s 32 3780 → Exports s (exported_of (Err r)) out out
unread s out r e =
    let b = bad s (found_of (Err r)) e (refuses r) in
    rw (ap (λ (f : Found). verdict_at f.number f.block f.position) b.1) (exports_unread s out b.0)

module _ (s : List ℕ) (h : Header) (e : found_of (Ok h) ≡ read_of s 32 3780) where
  pub well : ((verdict_of s).number ≡ 0) × (found_of (Ok h) ≡ found (decode s))
  well = good s (found_of (Ok h)) e refl

  module _ (ks0 ks : List ℕ) (k : ks ≡ handed (found_of (Ok h)) (decode s).kinds ks0) where
    pub kinds_read : (take h.posts ks ≡ (decode s).kinds) × (h.posts ≤ length ks)
    kinds_read = front (found_of (Ok h)) refl _ _ _ _ (ap (λ (f : Found). f.posts) well.1) k

    module _ (es0 es : List (List ℕ)) (v : es ≡ handed (found_of (Ok h)) (decode s).events es0) where
      pub events_read : (take h.events es ≡ (decode s).events) × (h.events ≤ length es)
      events_read = front (found_of (Ok h)) refl _ _ _ _ (ap (λ (f : Found). f.events) well.1) v

      pub text : register_of h.stamp (take h.posts ks) (take h.events es) ≡ text_for s
      text = rw (kinds_read.0, events_read.0, ap (λ (f : Found). f.stamp) well.1) (sym (exported_is (decode s)))
