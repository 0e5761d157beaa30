-- An accepted sheet is a good one, and a good one is accepted: each test of a block is its facts, word by word.
-- Assumes nothing.
use Prim.Native.Nat.{ℕ, zero, suc, ◌+◌, ◌-◌, ◌*◌, ◌%◌, ◌≤◌, ◌<◌}
use mathlib.Core.Path.{◌≡◌, refl, sym}
use mathlib.Core.Logic.{⊎_elim, ◌↔◌}
use mathlib.Core.Bool.{Bool, true, false, ◌&&◌, false≢true}
use mathlib.Core.List.{List}
use native.Mathlib.Nat.{eq-or-lt_of_le}
use native.Mathlib.Omega.{arith}
use borrow.Author.Tests.{eq-eqb, ne_eqb, eqb-true, eqb-false, leb-true, le-leb}
use lib.Dec.{eqb, leb}
use lib.ListN.{length}
use Rattle.relay.proofs.Truth.{and_facts}
use Rattle.sheet.specs.Layout.{block_bytes, check_at, most_blocks, per_block}
use Rattle.sheet.specs.Check.{word}
use Rattle.sheet.specs.Sheet.{table_words}
use Rattle.sheet.specs.Reading.{form_in, table_in, table_fits, form_ok, head_ok, events_fit, events_ok, first_upper, entries_ok, zeros, contents_ok, length_ok, blocks_in, verdict_up_to}
use Rattle.sheet.proofs.Good.{Good}
use Rattle.sheet.proofs.Lengths.{whole}
use Rattle.sheet.proofs.Table.{fits-few, words-few}
use Rattle.sheet.proofs.First.{good-blocks}
use Rattle.sheet.proofs.FirstTurn.{GoodBlock}
use Rattle.sheet.proofs.Sums.{checks_iff}
use Rattle.sheet.proofs.Upper.{first_upper_lem, one_first}

-- ---- the loops, by index
zeros_all : (s : List ℕ) (b k n : ℕ) → zeros s b k n ≡ true → (j : ℕ) → k ≤ j → j < k + n → word s b j ≡ 0
unfolding zeros
zeros_all s b k zero e j p q = absurd (omega arith)
zeros_all s b k (suc n) e j p q =
    let f = (and_facts (eqb (word s b k) 0) (zeros s b (k + 1) n)).0 e in
    ⊎_elim (λ t. rw (← t) (eqb-true (word s b k) 0 f.0)) (λ l. zeros_all s b (k + 1) n f.1 j (omega arith) (omega arith)) (eq-or-lt_of_le p)

all_zeros : (s : List ℕ) (b k n : ℕ) → ((j : ℕ) → k ≤ j → j < k + n → word s b j ≡ 0) → zeros s b k n ≡ true
unfolding zeros
all_zeros s b k zero f = refl
all_zeros s b k (suc n) f =
    rw (eq-eqb (word s b k) 0 (f k (omega arith) (omega arith))) (all_zeros s b (k + 1) n (λ j p q. f j (omega arith) (omega arith)))

entries_iff : (s : List ℕ) (b n : ℕ) → (entries_ok s b n ≡ true) ↔ ((j : ℕ) → j < n → word s b (1 + j * 2) < form_in s * 65536)
entries_iff s b n =
    let r = first_upper_lem s b 0 n in (
      λ e j q. r.before j (omega arith) (omega (arith, eqb-true (first_upper s b 0 n) n e)),
      λ f. eq-eqb (first_upper s b 0 n) n (one_first s b n _ n r (record { most = omega arith; before = λ j p q. f j q; here = λ h. absurd (omega arith) })),
    )

-- ---- block 0
pub record GoodHead (most : ℕ) (s : List ℕ) : Type 0 where
  pub first : form_ok most (form_in s) ≡ true
  pub table : table_fits (form_in s) (table_in s) ≡ true
  pub rest : (k : ℕ) → 3 + table_words (form_in s) (word s 0 1) ≤ k → k < check_at → word s 0 k ≡ 0

head_iff : (most : ℕ) (s : List ℕ) → (head_ok most s ≡ true) ↔ GoodHead most s
unfolding head_ok
head_iff most s =
    let u = 3 + table_words (form_in s) (word s 0 1) in (
      λ e.
          let f = (and_facts (form_ok most (form_in s) && table_fits (form_in s) (table_in s)) (zeros s 0 u (check_at - u))).0 e in
          let g = (and_facts (form_ok most (form_in s)) (table_fits (form_in s) (table_in s))).0 f.0 in
          record {
            first = g.0;
            table = g.1;
            rest = λ k p q. zeros_all s 0 u (check_at - u) f.1 k p (omega arith);
          },
      λ r.
          rw (r.first, r.table)
          (all_zeros s 0 u (check_at - u) (λ j p q. r.rest j p (omega (arith, words-few s (fits-few s r.table))))),
    )

-- ---- a later block
pub record GoodEvents (s : List ℕ) (b : ℕ) (last : Bool) : Type 0 where
  pub few : 1 ≤ word s b 0
  pub many : word s b 0 ≤ per_block
  pub full : last ≡ false → word s b 0 ≡ per_block
  pub fields : (j : ℕ) → j < word s b 0 → word s b (1 + j * 2) < form_in s * 65536
  pub zero : (k : ℕ) → 1 + word s b 0 * 2 ≤ k → k < check_at → word s b k ≡ 0

fit_iff : (m : ℕ) (last : Bool) → (events_fit m last ≡ true) ↔ ((1 ≤ m) × (m ≤ per_block) × (last ≡ false → m ≡ per_block))
unfolding events_fit
fit_iff m true = (
  λ e. let f = (and_facts (leb 1 m && leb m per_block) true).0 e in let g = (and_facts (leb 1 m) (leb m per_block)).0 f.0 in (leb-true 1 m g.0, leb-true m per_block g.1, λ z. absurd (false≢true (sym z))),
  λ r. rw (le-leb 1 m r.0, le-leb m per_block r.1),
)
fit_iff m false = (
  λ e. let f = (and_facts (leb 1 m && leb m per_block) (eqb m per_block)).0 e in let g = (and_facts (leb 1 m) (leb m per_block)).0 f.0 in (leb-true 1 m g.0, leb-true m per_block g.1, λ z. eqb-true m per_block f.1),
  λ r. rw (le-leb 1 m r.0, le-leb m per_block r.1, eq-eqb m per_block (r.2 refl)),
)

events_iff : (s : List ℕ) (b : ℕ) (last : Bool) → (events_ok s b last ≡ true) ↔ GoodEvents s b last
unfolding events_ok
events_iff s b last = (
  λ e.
      let m = word s b 0 in
      let f = (and_facts (events_fit m last) (entries_ok s b m && zeros s b (1 + m * 2) (check_at - (1 + m * 2)))).0 e in
      let g = (fit_iff m last).0 f.0 in
      let i = (and_facts (entries_ok s b m) (zeros s b (1 + m * 2) (check_at - (1 + m * 2)))).0 f.1 in
      record {
        few = g.0;
        many = g.1;
        full = g.2;
        fields = (entries_iff s b m).0 i.0;
        zero = λ k p q. zeros_all s b (1 + m * 2) (check_at - (1 + m * 2)) i.1 k p (omega arith);
      },
  λ r.
      let m = word s b 0 in
      rw ((fit_iff m last).1 (r.few, r.many, r.full), (entries_iff s b m).1 r.fields)
      (all_zeros s b (1 + m * 2) (check_at - (1 + m * 2)) (λ j p q. r.zero j p (omega (arith, r.many)))),
)

-- ---- the sheet
module _ (most : ℕ) (s : List ℕ) where
  abbrev n : ℕ
  n = blocks_in (length s)

  later : (b : ℕ) → 1 ≤ b → GoodBlock most s n b → GoodEvents s b (eqb (b + 1) n)
  later b h g = (events_iff s b (eqb (b + 1) n)).0 (rw (ne_eqb b 0 (λ z. omega arith)) at g.filled)

  pub accepted-good : (verdict_up_to most s).number ≡ 0 → Good most n s
  accepted-good z =
      let f = (good-blocks most s).0 z in
      let w = whole (length s) f.0 in
      let g : (b : ℕ) → b < n → GoodBlock most s n b = λ b q. f.1 b (omega arith) q in
      let o = (head_iff most s).0 (g 0 (omega (arith, w.some))).filled in
      record {
        some = w.some;
        most = w.most;
        long = sym w.long;
        sums = λ b q. (checks_iff s b b).0 (g b q).checked;
        first = o.first;
        table = o.table;
        rest = o.rest;
        few = λ b h q. (later b h (g b q)).few;
        many = λ b h q. (later b h (g b q)).many;
        full = λ b h q. (later b h (g b (omega arith))).full (ne_eqb (b + 1) n (λ e. omega arith));
        fields = λ b h q. (later b h (g b q)).fields;
        zero = λ b h q. (later b h (g b q)).zero;
      }

  block_of : Good most n s → (b : ℕ) → b < n → (t : Bool) → eqb b 0 ≡ t → contents_ok most s n b ≡ true
  block_of r b q true e = rw e ((head_iff most s).1 (record { first = r.first; table = r.table; rest = r.rest }))
  block_of r b q false e =
      let h : 1 ≤ b = below b (eqb-false b 0 e) in
      rw e
      ((events_iff s b (eqb (b + 1) n)).1
      (record {
        few = r.few b h q;
        many = r.many b h q;
        full = λ z. r.full b h (lower (b + 1) n (omega arith) (eqb-false (b + 1) n z));
        fields = r.fields b h q;
        zero = r.zero b h q;
      }))
    where
      below : (b : ℕ) → (b ≡ 0 → ⊥) → 1 ≤ b
      below b f = omega arith

      lower : (c m : ℕ) → c ≤ m → (c ≡ m → ⊥) → c < m
      lower c m h f = omega arith

  good_length : Good most n s → length_ok (length s) ≡ true
  unfolding length_ok
  good_length r =
      let l : length s ≡ n * block_bytes = r.long in
      let a = r.some in
      let m = r.most in
      rw (eq-eqb (length s % block_bytes) 0 (omega arith), le-leb block_bytes (length s) (omega arith), le-leb (length s) (most_blocks * block_bytes) (omega arith))

  pub good-accepted : Good most n s → (verdict_up_to most s).number ≡ 0
  good-accepted r =
      (good-blocks most s).1 (
        good_length r,
        λ b p q. record {
          checked = (checks_iff s b b).1 (r.sums b q);
          filled = block_of r b q (eqb b 0) refl;
        },
      )
