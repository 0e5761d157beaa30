-- The kinds of block 0 that stand from a word on, as the reader goes along them: what is left of them decides. And the table of a sheet of either form, by its parts.
-- Assumes nothing.
use Prim.Native.Nat.{ℕ, ◌+◌, ◌*◌, ◌/◌, ◌%◌, ◌≤◌, ◌<◌}
use mathlib.Core.Path.{◌≡◌, refl, sym, ap, ◌∙◌}
use mathlib.Core.Bool.{Bool, true, false, ◌&&◌, false≢true}
use mathlib.Core.List.{List}
use borrow.Author.Tests.{leb-true, eq-eqb, ne_eqb}
use native.Mathlib.Omega.{arith}
use lib.Dec.{eqb, leb}
use lib.ListN.{length, get_or, take, drop}
use Rattle.relay.specs.Kinds.{count_fits, kind_fits, table_ok}
use Rattle.line.proofs.Table as table
use Rattle.line.proofs.Table.{Rest}
use Rattle.sheet.specs.Check.{word}
use Rattle.sheet.specs.Layout.{last_circuit}
use Rattle.sheet.specs.Sheet.{table_words}
use Rattle.sheet.specs.Reading.{form_in, kinds_at, kinds_in, table_in, tables_ok, table_fits}
use Rattle.relay.proofs.Truth.{and_facts, equal_or_not}
use Rattle.sheet.specs.Words.{tab}
use Rattle.sheet.proofs.Tabs.{length-tab, get_d_tab, front-tab, part-tab}

-- N is at most 32 where it fits
pub few : (n : ℕ) → count_fits n ≡ true → n ≤ 32
unfolding count_fits
few n e = by (leb 2 n) (leb n 32) refl e
  where
    by : (a b : Bool) → leb n 32 ≡ b → (a && b) ≡ true → n ≤ 32
    by a true h q = leb-true n 32 h
    by true false h q = absurd (false≢true q)
    by false false h q = absurd (false≢true q)

module _ (s : List ℕ) (at : ℕ) where
  abbrev kind : ℕ → ℕ
  kind i = word s 0 (at + i)

  abbrev N : ℕ
  N = word s 0 1

  long : length (kinds_at s at) ≡ N
  long = length-tab kind N

  -- the test of kind i, as the reader makes it
  same_test : (i : ℕ) → i < N → kind_fits (length (kinds_at s at)) i (get_or (kinds_at s at) i 0) ≡ kind_fits N i (kind i)
  same_test i h = rw (long, get_d_tab kind 0 N i h)

  module _ (i : ℕ) (h : i < N) (inv : Rest (kinds_at s at) i ≡ Rest (kinds_at s at) 0) where
    pub stops : kind_fits N i (kind i) ≡ false → Rest (kinds_at s at) 0 ≡ false
    stops e = table.stops (kinds_at s at) i (rw long h) inv (same_test i h ∙ e)

    pub goes : kind_fits N i (kind i) ≡ true → Rest (kinds_at s at) (i + 1) ≡ Rest (kinds_at s at) 0
    goes e = table.goes (kinds_at s at) i (rw long h) inv (same_test i h ∙ e)

  pub ended : (i : ℕ) → N ≤ i → Rest (kinds_at s at) i ≡ Rest (kinds_at s at) 0 → Rest (kinds_at s at) 0 ≡ true
  ended i h inv = table.ended (kinds_at s at) i (rw long h) inv

  pub decides : (u t : Bool) → count_fits N ≡ u → Rest (kinds_at s at) 0 ≡ t → (u && t) ≡ table_ok (kinds_at s at)
  unfolding table_ok
  decides u t eu et = rw (← et, ← eu, long)

  -- a right table has at most 32 kinds
  pub table-few : table_ok (kinds_at s at) ≡ true → N ≤ 32
  table-few e = by (count_fits N) (Rest (kinds_at s at) 0) refl (decides (count_fits N) (Rest (kinds_at s at) 0) refl refl ∙ e)
    where
      by : (u t : Bool) → count_fits N ≡ u → (u && t) ≡ true → N ≤ 32
      by true t h q = few N h
      by false t h q = absurd (false≢true q)

-- ---- the table of a sheet, by how many tracks it is of
module _ (s : List ℕ) where
  abbrev posts : ℕ
  posts = word s 0 1

  abbrev at_word : ℕ → ℕ
  at_word i = word s 0 (3 + i)

  -- of any number but two it is the kinds
  module _ (o : form_in s ≡ 2 → ⊥) where
    pub words_one : table_words (form_in s) posts ≡ posts
    unfolding table_words
    words_one = rw (ne_eqb (form_in s) 2 o)

    pub fits_one : table_fits (form_in s) (table_in s) ≡ table_ok (kinds_in s)
    unfolding table_fits
    fits_one = rw (ne_eqb (form_in s) 2 o, words_one)

  -- of two it is both tables' kinds, which follow each other, and the circuit
  module _ (e : form_in s ≡ 2) where
    pub words_two : table_words (form_in s) posts ≡ posts * 2 + 1
    unfolding table_words
    words_two = rw e

    after : tab (λ i. at_word (posts + i)) posts ≡ kinds_at s (3 + posts)
    after = λ j. tab (λ i. ap (word s 0) (along i) j) posts
      where
        along : (i : ℕ) → 3 + (posts + i) ≡ 3 + posts + i
        along i = omega arith

    pub fits_two : table_fits (form_in s) (table_in s) ≡ (table_ok (kinds_at s 3) && (table_ok (kinds_at s (3 + posts)) && leb (word s 0 (3 + posts * 2)) last_circuit))
    unfolding table_fits tables_ok
    fits_two =
        let l : length (tab at_word (posts * 2 + 1)) ≡ posts * 2 + 1 = length-tab at_word (posts * 2 + 1) in
        let half : (posts * 2 + 1) / 2 ≡ posts = omega arith in
        let odd : eqb ((posts * 2 + 1) % 2) 1 ≡ true = eq-eqb ((posts * 2 + 1) % 2) 1 (omega arith) in
        let first : take posts (tab at_word (posts * 2 + 1)) ≡ kinds_at s 3 = sym (front-tab at_word 0 (posts * 2 + 1) posts (omega arith)) in
        let second : take posts (drop posts (tab at_word (posts * 2 + 1))) ≡ kinds_at s (3 + posts) =
        sym (part-tab at_word 0 (posts * 2 + 1) posts posts (omega arith)) ∙ after in
        let circuit : get_or (tab at_word (posts * 2 + 1)) (posts * 2) 0 ≡ word s 0 (3 + posts * 2) = get_d_tab at_word 0 (posts * 2 + 1) (posts * 2) (omega arith) in
        rw (eq-eqb (form_in s) 2 e, words_two, l, half, odd, first, second, circuit) refl

  -- a wrong first table is wrong in either form
  pub fits-bad : table_ok (kinds_at s 3) ≡ false → table_fits (form_in s) (table_in s) ≡ false
  fits-bad f = equal_or_not (form_in s) 2 (λ e. fits_two e ∙ rw f) (λ o. fits_one o ∙ f)

  -- a right table is of at most 32 posts
  pub fits-few : table_fits (form_in s) (table_in s) ≡ true → posts ≤ 32
  fits-few f =
      equal_or_not (form_in s) 2
      (λ e. table-few s 3 ((and_facts (table_ok (kinds_at s 3)) _).0 (sym (fits_two e) ∙ f)).0)
      (λ o. table-few s 3 (sym (fits_one o) ∙ f))

  pub words-few : posts ≤ 32 → table_words (form_in s) posts ≤ 65
  words-few h =
      equal_or_not (form_in s) 2
      (λ e. rw (words_two e) (omega arith))
      (λ o. rw (words_one o) (omega arith))
