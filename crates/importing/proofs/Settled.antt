-- What settling returns and writes, by its tests in their order.
-- Assumes nothing.
use Prim.Native.Nat.{ℕ, ◌≤◌, ◌<◌}
use mathlib.Core.Path.{◌≡◌, refl, sym, ◌∙◌}
use mathlib.Core.Bool.{true, false, not}
use mathlib.Core.List.{List}
use native.Mathlib.Omega.{arith}
use borrow.Author.Tests.{lt-ltb, le-ltb, ltb-false, leb-true, ne_eqb, eqb-true}
use lib.Dec.{eqb, leb, ltb}
use lib.ListN.{length}
use lib.Seq.{length-take-le}
use Rattle.relay.specs.Answers.{notValid}
use Rattle.relay.specs.Choice.{pick}
use Rattle.relay.specs.Kinds.{table_ok}
use Rattle.relay.proofs.Truth.{by, unless_facts, last_facts, not_false_facts}
use Rattle.sheet.specs.Layout.{most_entries, length_wrong, contents_wrong, room_short}
use Rattle.sheet.specs.Sheet.{Sheet}
use Rattle.sheet.specs.Writing.{bytes_for, all_in_fields, write_number, written}
use Rattle.register.specs.Register.{wrong_record}
use Rattle.importing.specs.Importing.{refused, imported, is_done, record_in, sheet_at, closed, settle_number, settle_of, settle_into, Settles}
use Rattle.importing.specs.Rooms.{Fed}
use Rattle.importing.specs.declared.Imported.{Imported}

module _ (f : Fed) (out : List ℕ) where
  abbrev Settled : Imported → List ℕ → Type 0
  Settled r out' = (r ≡ settle_of f (length out)) × (out' ≡ settle_into f out)

  -- a refusal, once its number is known
  refuses : (n at : ℕ) → settle_number f (length out) ≡ n → eqb n 0 ≡ false → pick (is_done f.state) 0 (record_in f.state) ≡ at → Settled (refused n at) out
  unfolding settle_of settle_into
  refuses n at e z r = (rw (e, z, r), rw (e, z))

  pub not_done : is_done f.state ≡ false → Settled (refused wrong_record (record_in f.state)) out
  unfolding settle_number
  not_done d = refuses wrong_record (record_in f.state) (rw d) refl (rw d)

  module _ (d : is_done f.state ≡ true) where
    pub too_many : length f.events < f.state.events → Settled (refused length_wrong 0) out
    unfolding settle_number
    too_many h = refuses length_wrong 0 (rw (d, lt-ltb (length f.events) f.state.events h)) refl (rw d)

    module _ (h : f.state.events ≤ length f.events) where
      pub too_long : length f.kinds < f.state.posts → Settled (refused notValid 0) out
      unfolding settle_number
      too_long k = refuses notValid 0 (rw (d, le-ltb (length f.events) f.state.events h, lt-ltb (length f.kinds) f.state.posts k)) refl (rw d)

      module _ (k : f.state.posts ≤ length f.kinds) where
        pub writes : settle_number f (length out) ≡ write_number (sheet_at f.state f.kinds f.events) (length out)
        unfolding settle_number
        writes = rw (d, le-ltb (length f.events) f.state.events h, le-ltb (length f.kinds) f.state.posts k)

        -- what writing returned, and the output after it
        module _ (n : ℕ) (out' : List ℕ) (e : n ≡ write_number (sheet_at f.state f.kinds f.events) (length out)) (o : out' ≡ written (sheet_at f.state f.kinds f.events) out) where
          pub refused_write : (n ≡ 0 → ⊥) → Settled (refused n 0) out'
          unfolding written
          refused_write z =
              let q : eqb n 0 ≡ false = ne_eqb n 0 z in
              let r = refuses n 0 (writes ∙ sym e) q (rw d) in
              (r.0, o ∙ rw (sym e) (rw q) ∙ r.1)

          pub good_write : n ≡ 0 → Settled (imported (bytes_for f.state.events)) out'
          unfolding settle_of settle_into
          good_write z = (rw (writes ∙ sym e ∙ z), o ∙ rw (writes ∙ sym e ∙ z))

-- ---- no more is written than there is room for
write_fits : (t : Sheet) (m : ℕ) → write_number t m ≡ 0 → bytes_for (length t.events) ≤ m
unfolding write_number
write_fits t m e =
    let a = ((unless_facts (not (table_ok t.kinds)) notValid _ refl).0 e).1 in
    let b = ((unless_facts (not (all_in_fields t.events)) contents_wrong _ refl).0 a).1 in
    let c = ((unless_facts (not (leb (length t.events) most_entries)) length_wrong _ refl).0 b).1 in
    let d = (last_facts (not (leb (bytes_for (length t.events)) m)) room_short refl).0 c in
    leb-true (bytes_for (length t.events)) m ((not_false_facts (leb (bytes_for (length t.events)) m)).0 d)

pub settled_within : (f : Fed) (m : ℕ) → (settle_of f m).bytes ≤ m
unfolding settle_of settle_number
settled_within f m =
    by (λ (x : Imported). x.bytes ≤ m) (eqb (settle_number f m) 0)
    (λ e.
    let a = ((unless_facts (not (is_done f.state)) wrong_record _ refl).0 (eqb-true (settle_number f m) 0 e)).1 in
    let b = (unless_facts (ltb (length f.events) f.state.events) length_wrong _ refl).0 a in
    let c = ((unless_facts (ltb (length f.kinds) f.state.posts) notValid _ refl).0 b.1).1 in
    let n = length-take-le f.state.events f.events (ltb-false (length f.events) f.state.events b.0) in
    rw n at (write_fits (sheet_at f.state f.kinds f.events) m c))
    (λ e. omega arith)

pub settles_within : (f : Fed) (r : Imported) (ks : List ℕ) (es : List (List ℕ)) (out out' : List ℕ) → Settles f r ks es out out' → r.bytes ≤ length out
settles_within f r ks es out out' s = rw s.0 (settled_within (closed f) (length out))
