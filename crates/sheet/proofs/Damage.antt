-- What the check of a block guarantees: a block with one word changed no longer checks, and neither does a block that stands in another block's place;
-- reading names the first such block with 19.
-- It guarantees no more than that: two changed words can make up for each other.
-- Assumes nothing.
use mathlib.Core.Path.{◌≡◌, sym, ap, ◌∙◌}
use mathlib.Core.Logic.{◌≢◌, ⊎_elim}
use Prim.Native.Nat.{ℕ, zero, suc, ◌+◌, ◌%◌, ◌^◌, ◌<◌}
use mathlib.Core.Bool.{true, false}
use mathlib.Core.List.{List}
use lib.ListN.{length}
use borrow.Author.Tests.{eqb-true, ne_eqb}
use native.Mathlib.Nat.{eq-or-lt_of_le, le_of_suc-le-suc}
use native.Mathlib.Omega.{arith}
use Rattle.sheet.specs.Layout.{block_words, check_wrong}
use Rattle.sheet.specs.Check.{sum, word, target, checks_as, checks}
use Rattle.sheet.specs.Reading.{length_ok, blocks_in, verdict, verdict_up_to}
use Rattle.sheet.proofs.First.{verdict_iff, blocks}
use Rattle.sheet.proofs.FirstTurn.{AllGood, bad_check}
use Rattle.sheet.proofs.Sums.{sum_agree}

-- sums that differ in one place differ by the words that stand there
sum_but_one : (f g : ℕ → ℕ) (n k : ℕ) → k < n → ((j : ℕ) → j < n → j ≢ k → f j ≡ g j) → sum f n + g k ≡ sum g n + f k
unfolding sum
sum_but_one f g zero k h e = absurd (omega arith)
sum_but_one f g (suc n) k h e =
    ⊎_elim
    (λ (here : k ≡ n).
    let s : sum f n ≡ sum g n = sum_agree f g n (λ j l. e j (omega arith) (λ q. omega arith)) in
    omega (arith, s, ap f here, ap g here))
    (λ (below : k < n).
    let s : sum f n + g k ≡ sum g n + f k = sum_but_one f g n k below (λ j l. e j (omega arith)) in
    let l : f n ≡ g n = e n (omega arith) (λ q. omega arith) in
    omega arith)
    (eq-or-lt_of_le (le_of_suc-le-suc h))

-- carried round, a sum determines each of its words
same_word : (m n x y : ℕ) → x < 2 ^ 32 → y < 2 ^ 32 → m + x ≡ n + y → m % 2 ^ 32 ≡ n % 2 ^ 32 → x ≡ y
same_word m n x y hx hy e s = omega arith

-- one word of block b is another: the block does not check
pub one_word : (s s' : List ℕ) (b k : ℕ) → k < block_words → word s b k < 2 ^ 32 → word s' b k < 2 ^ 32 → word s b k ≢ word s' b k
    → ((j : ℕ) → j < block_words → j ≢ k → word s b j ≡ word s' b j) → checks s b ≡ true → checks s' b ≡ false
unfolding checks_as
one_word s s' b k h small small' other same good =
    let m = sum (word s b) block_words in
    let m' = sum (word s' b) block_words in
    let e : m % 2 ^ 32 ≡ target b = eqb-true (m % 2 ^ 32) (target b) good in
    ne_eqb (m' % 2 ^ 32) (target b) (λ e'.
    other (sym (same_word m m' (word s' b k) (word s b k) small' small (sum_but_one (word s b) (word s' b) block_words k h same) (e ∙ sym e'))))

-- the words of block b stand as block c: it does not check
pub two_places : (s s' : List ℕ) (b c : ℕ) → b ≢ c → ((k : ℕ) → k < block_words → word s b k ≡ word s' c k) → checks s b ≡ true → checks s' c ≡ false
unfolding checks_as
two_places s s' b c other same good =
    let m = sum (word s b) block_words in
    let e : m % 2 ^ 32 ≡ target b = eqb-true (m % 2 ^ 32) (target b) good in
    rw (← sum_agree (word s b) (word s' c) block_words same) (ne_eqb (m % 2 ^ 32) (target c) (λ e'. other (omega arith)))

-- ---- to the end: reading is refused 19, with that block, where all blocks before it are good
module _ (most : ℕ) (s s' : List ℕ) (right : length_ok (length s') ≡ true) where
  -- the first block that does not check is named
  named : (b : ℕ) → b < blocks_in (length s') → AllGood most s' (blocks_in (length s')) 0 b → checks s' b ≡ false → verdict_up_to most s' ≡ verdict check_wrong b
  named b h f c = (verdict_iff most s' (verdict check_wrong b)).1 (blocks right (bad_check b (omega arith) h f c))

  -- one word of block b of s is another in s'
  pub one_word-refused : (b k : ℕ) → b < blocks_in (length s') → AllGood most s' (blocks_in (length s')) 0 b
      → k < block_words → word s b k < 2 ^ 32 → word s' b k < 2 ^ 32 → word s b k ≢ word s' b k
      → ((j : ℕ) → j < block_words → j ≢ k → word s b j ≡ word s' b j) → checks s b ≡ true → verdict_up_to most s' ≡ verdict check_wrong b
  one_word-refused b k h f l small small' other same good = named b h f (one_word s s' b k l small small' other same good)

  -- block b of s stands in s' as block c
  pub two_places_refused : (b c : ℕ) → c < blocks_in (length s') → AllGood most s' (blocks_in (length s')) 0 c → b ≢ c
      → ((k : ℕ) → k < block_words → word s b k ≡ word s' c k) → checks s b ≡ true → verdict_up_to most s' ≡ verdict check_wrong c
  two_places_refused b c h f other same good = named c h f (two_places s s' b c other same good)
