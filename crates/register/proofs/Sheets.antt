-- A right sheet of at most 3,780 events is a sheet that can be written, and the other way round; so the sheet crate's round trips serve.
use Prim.Native.Nat.{ℕ, zero, suc, ◌+◌, ◌^◌, ◌≤◌, ◌<◌}
use mathlib.Core.Path.{◌≡◌, refl, ap, ◌∙◌}
use mathlib.Core.Bool.{true}
use mathlib.Core.List.{List, [], ◌∷◌}
use native.Mathlib.Omega.{arith}
use borrow.Author.Tests.{eq-eqb, eqb-true, ltb-true, lt-ltb}
use lib.Dec.{eqb}
use lib.ListN.{length, get_or}
use Rattle.relay.specs.Kinds.{ordinary, count_fits, kind_fits, kinds_fit, table_ok}
use Rattle.relay.proofs.Facts.{kind_iff}
use Rattle.relay.proofs.Forms.{kind-few}
use Rattle.relay.proofs.KeptPosts.{kind-small}
use Rattle.relay.proofs.Truth.{and_facts}
use Rattle.sheet.specs.Entry.{in_fields, stamp_of}
use Rattle.sheet.specs.Layout.{most_entries, one_track}
use Rattle.sheet.specs.Sheet.{Sheet, event_at, encode}
use Rattle.sheet.specs.Reading.{verdict_of, blocks_in, decode}
use Rattle.sheet.proofs.Bytes.{Below}
use Rattle.sheet.proofs.Fields.{each, every}
use Rattle.sheet.proofs.Writable.{Writable}
use Rattle.sheet.proofs.Trips.{read-written}
use Rattle.sheet.proofs.Accepts.{accepted-good}
use Rattle.sheet.proofs.TripRead.{decoded_writable}
use Rattle.register.specs.Records.{right_event, right_events, Right}
use Rattle.register.specs.Register.{exported, accepts, sheet_in}
use Rattle.register.proofs.Import.{export_import}

-- ---- events by their places
each_right : (es : List (List ℕ)) → right_events es ≡ true → (i : ℕ) → i < length es → right_event (get_or es i []) ≡ true
unfolding right_events
each_right [] h i l = absurd (omega arith)
each_right (e ∷ es) h zero l = ((and_facts (right_event e) (right_events es)).0 h).0
each_right (e ∷ es) h (suc i) l = each_right es ((and_facts (right_event e) (right_events es)).0 h).1 i (omega arith)

every-right : (es : List (List ℕ)) → ((i : ℕ) → i < length es → right_event (get_or es i []) ≡ true) → right_events es ≡ true
unfolding right_events
every-right [] h = refl
every-right (e ∷ es) h = rw (h 0 (omega arith)) (every-right es (λ i l. h (suc i) (omega arith)))

-- ---- a kind has two digits at most
fits-small : (n i k : ℕ) → kind_fits n i k ≡ true → k < 21
fits-small n i k e = kind-few k (kind-small n i (ordinary k) ((kind_iff n i k).0 e))

kinds-small : (n j : ℕ) (ks : List ℕ) → kinds_fit n j ks ≡ true → Below 21 ks
unfolding kinds_fit
kinds-small n j [] h i = omega arith
kinds-small n j (k ∷ ks) h zero = fits-small n j k ((and_facts (kind_fits n j k) (kinds_fit n (j + 1) ks)).0 h).0
kinds-small n j (k ∷ ks) h (suc i) = kinds-small n (j + 1) ks ((and_facts (kind_fits n j k) (kinds_fit n (j + 1) ks)).0 h).1 i

pub table-small : (ks : List ℕ) → table_ok ks ≡ true → Below 21 ks
unfolding table_ok
table-small ks h = kinds-small (length ks) 0 ks ((and_facts (count_fits (length ks)) _).0 h).1

-- ---- the two are one
module _ (t : Sheet) where
  parts : Right t → (i : ℕ) → i < length t.events → (length (event_at t i) ≡ 4) × (in_fields (event_at t i) ≡ true) × (stamp_of (event_at t i) < 2 ^ 32)
  unfolding right_event
  parts r i l =
      let e = event_at t i in
      let a = (and_facts (eqb (length e) 4) _).0 (each_right t.events r.events i l) in
      let b = (and_facts (in_fields e) _).0 a.1 in
      (eqb-true (length e) 4 a.0, b.0, ltb-true (stamp_of e) (2 ^ 32) b.1)

  pub right-writable : Right t → length t.events ≤ most_entries → Writable t
  right-writable r few =
      record {
        table = r.table;
        fields = every t.events (λ i l. (parts r i l).1);
        most = few;
        stamp = ltb-true t.stamp (2 ^ 32) r.stamp;
        kinds = λ i. omega (arith, table-small t.kinds r.table i);
        four = λ i l. (parts r i l).0;
        stamps = λ i l. (parts r i l).2;
      }

  pub writable-right : Writable t → Right t
  unfolding right_event
  writable-right w =
      record {
        table = w.table;
        stamp = lt-ltb t.stamp (2 ^ 32) w.stamp;
        events = every-right t.events (λ i l. rw (eq-eqb (length (event_at t i)) 4 (w.four i l), each t.events w.fields i l, lt-ltb (stamp_of (event_at t i)) (2 ^ 32) (w.stamps i l)));
      }

-- ---- export and then import gives the sheet's bytes, for every accepted sheet
pub there_and_back : (s : List ℕ) → Below 256 s → (verdict_of s).number ≡ 0 → (accepts (exported (decode s)) ≡ true) × (encode (sheet_in (exported (decode s))) ≡ s)
there_and_back s small z =
    let w : Writable (decode s) = decoded_writable (blocks_in (length s)) s (accepted-good one_track s z) small in
    let e = export_import (decode s) (writable-right (decode s) w) in
    (e.0, ap encode e.1 ∙ read-written s small z)
