-- What import returns, by its tests in their order; and each number exactly when.
-- 02, item 3: 'import 28 with the number (the header is 1) of the first record that can't stand there in a right text of any length, or of the first one missing, then 18 for more than 3,780 events, then 21'.
-- Assumes nothing.
use Prim.Native.Nat.{ℕ, ◌≤◌, ◌<◌}
use mathlib.Core.Path.{◌≡◌, refl, sym, ap, ◌∙◌}
use mathlib.Core.Logic.{◌↔◌}
use mathlib.Core.Bool.{true, false}
use mathlib.Core.List.{List}
use native.Mathlib.Omega.{arith}
use borrow.Author.Tests.{lt-ltb, le-ltb, eqb-false}
use lib.Dec.{eqb}
use lib.ListN.{length}
use Rattle.relay.proofs.Truth.{split, least_or_below}
use Rattle.sheet.specs.Layout.{most_entries, length_wrong, room_short}
use Rattle.sheet.specs.Sheet.{Sheet}
use Rattle.sheet.specs.Writing.{bytes_for}
use Rattle.sheet.proofs.Writable.{Writable}
use Rattle.register.specs.Records.{Right}
use Rattle.register.specs.Register.{RightText, Names, wrong_record, accepts, named, sheet_in}
use Rattle.register.proofs.Import.{accepted-right, right-accepted, named-right, named_one}
use Rattle.register.proofs.Sheets.{right-writable, writable-right}
use Rattle.importing.specs.Importing.{refused, imported, import_of}
use Rattle.importing.specs.declared.Imported.{Imported}

module _ (text : List ℕ) (m : ℕ) where
  abbrev n : ℕ
  n = length (sheet_in text).events

  pub of_wrong : accepts text ≡ false → import_of text m ≡ refused wrong_record (named text)
  unfolding import_of
  of_wrong a = rw a

  module _ (a : accepts text ≡ true) where
    pub of_many : most_entries < n → import_of text m ≡ refused length_wrong 0
    unfolding import_of
    of_many h = rw (a, lt-ltb most_entries n h)

    module _ (h : n ≤ most_entries) where
      pub of_short : m < bytes_for n → import_of text m ≡ refused room_short 0
      unfolding import_of
      of_short k = rw (a, le-ltb most_entries n h, lt-ltb m (bytes_for n) k)

      pub of_good : bytes_for n ≤ m → import_of text m ≡ imported (bytes_for n)
      unfolding import_of
      of_good k = rw (a, le-ltb most_entries n h, le-ltb m (bytes_for n) k)

  -- one of the four
  by_outcome : {P : Type 0} → (accepts text ≡ false → P) → (accepts text ≡ true → most_entries < n → P)
      → (accepts text ≡ true → n ≤ most_entries → m < bytes_for n → P) → (accepts text ≡ true → n ≤ most_entries → bytes_for n ≤ m → P) → P
  by_outcome wrong many short good =
      split (accepts text)
      (λ a. least_or_below n most_entries (λ h. least_or_below (bytes_for n) m (λ k. good a h k) (λ k. short a h k)) (λ h. many a h))
      wrong

  -- no two of them are alike
  differ : (r r' : Imported) → import_of text m ≡ r → import_of text m ≡ r' → r.number ≡ r'.number
  differ r r' e e' = ap (λ (x : Imported). x.number) (sym e ∙ e')

  -- the text says a right sheet
  abbrev Says : (Sheet → Type 0) → Type 0
  Says Q = (t : Sheet) × Right t × RightText t text × Q t

  says : (Q : Sheet → Type 0) → accepts text ≡ true → Q (sheet_in text) → Says Q
  says Q a q = let r = accepted-right text a in (sheet_in text, r.0, r.1, q)

  -- 28 with the record k: no right text begins with the records up to it, and one begins with those before it
  pub wrong_iff : (k : ℕ) → (import_of text m ≡ refused wrong_record k) ↔ Names k text
  wrong_iff k = (
    λ e. by_outcome (λ a. let q : named text ≡ k = ap (λ (x : Imported). x.at) (sym (of_wrong a) ∙ e) in rw q at (named-right text a))
        (λ a h. let d = differ _ _ e (of_many a h) in absurd (omega arith))
        (λ a h l. let d = differ _ _ e (of_short a h l) in absurd (omega arith))
        (λ a h l. let d = differ _ _ e (of_good a h l) in absurd (omega arith)),
    λ w. split (accepts text)
        (λ a. let r = accepted-right text a in absurd (w.wrong (sheet_in text) r.0 r.1))
        (λ a. of_wrong a ∙ ap (refused wrong_record) (named_one text (named text) k (named-right text a) w)),
  )

  -- 18: a right text of a sheet of more than 3,780 events
  pub many_iff : (import_of text m ≡ refused length_wrong 0) ↔ Says (λ t. most_entries < length t.events)
  many_iff = (
    λ e. by_outcome (λ a. let d = differ _ _ e (of_wrong a) in absurd (omega arith))
        (λ a h. says (λ t. most_entries < length t.events) a h)
        (λ a h l. let d = differ _ _ e (of_short a h l) in absurd (omega arith))
        (λ a h l. let d = differ _ _ e (of_good a h l) in absurd (omega arith)),
    λ w. let r = right-accepted w.0 text w.1 w.2 in of_many r.0 (rw r.1 w.3),
  )

  -- 21: a right text of a sheet that can be written, and the output is too short
  pub short_iff : (import_of text m ≡ refused room_short 0) ↔ Says (λ t. (length t.events ≤ most_entries) × (m < bytes_for (length t.events)))
  short_iff = (
    λ e. by_outcome (λ a. let d = differ _ _ e (of_wrong a) in absurd (omega arith))
        (λ a h. let d = differ _ _ e (of_many a h) in absurd (omega arith))
        (λ a h l. says (λ t. (length t.events ≤ most_entries) × (m < bytes_for (length t.events))) a (h, l))
        (λ a h l. let d = differ _ _ e (of_good a h l) in absurd (omega arith)),
    λ w. let r = right-accepted w.0 text w.1 w.2 in of_short r.0 (rw r.1 w.3.0) (rw r.1 w.3.1),
  )

  -- and it gives that sheet
  pub gives : (t : Sheet) → Writable t → RightText t text → bytes_for (length t.events) ≤ m → import_of text m ≡ imported (bytes_for (length t.events))
  gives t w x l =
      let r = right-accepted t text (writable-right t w) x in
      of_good r.0 (rw r.1 w.most) (rw r.1 l) ∙ ap (λ (u : Sheet). imported (bytes_for (length u.events))) r.1

  zero_not : {r : Imported} → import_of text m ≡ r → eqb r.number 0 ≡ false → (import_of text m).number ≡ 0 → ⊥
  zero_not {r} e z h = eqb-false r.number 0 z (ap (λ (x : Imported). x.number) (sym e) ∙ h)

  -- 0: exactly the right texts of a sheet that can be written, where there is room for it
  pub imported_iff : ((import_of text m).number ≡ 0) ↔ ((t : Sheet) × Writable t × RightText t text × (bytes_for (length t.events) ≤ m))
  imported_iff = (
    λ e. by_outcome (λ a. absurd (zero_not (of_wrong a) refl e)) (λ a h. absurd (zero_not (of_many a h) refl e)) (λ a h l. absurd (zero_not (of_short a h l) refl e))
        (λ a h l. let r = accepted-right text a in (sheet_in text, right-writable (sheet_in text) r.0 h, r.1, l)),
    λ w. ap (λ (x : Imported). x.number) (gives w.0 w.1 w.2 w.3),
  )
