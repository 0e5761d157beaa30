-- One block by itself: exactly when it checks, as which number, and that this is the check that reading makes of each block of a sheet.
-- Assumes nothing.
use mathlib.Core.Path.{◌≡◌, refl, sym, ◌∙◌}
use mathlib.Core.Logic.{◌≢◌, ◌↔◌}
use Prim.Native.Nat.{ℕ, ◌+◌, ◌*◌, ◌%◌, ◌^◌, ◌≤◌, ◌<◌}
use mathlib.Core.Bool.{true, false, and-false}
use mathlib.Core.List.{List}
use lib.Dec.{eqb}
use lib.ListN.{length, drop, length-drop}
use lib.Seq.{length-take-le}
use borrow.Author.Tests.{eq-eqb, ne_eqb}
use native.Mathlib.Omega.{arith}
use Rattle.relay.proofs.Truth.{facts}
use Rattle.sheet.specs.Layout.{block_bytes, block_words, check_base, check_wrong}
use Rattle.sheet.specs.Check.{sum, word, checks_as, checks, checks_alone, block_of}
use Rattle.sheet.specs.Reading.{length_ok, blocks_in, verdict, verdict_up_to}
use Rattle.sheet.specs.declared.Verdict.{Verdict}
use Rattle.sheet.proofs.Bytes.{word-drop, word-take}
use Rattle.sheet.proofs.First.{NamedSheet, bad-length, blocks, verdict_iff, good-blocks}
use Rattle.sheet.proofs.FirstTurn.{AllGood, all_good, bad_check, bad_contents, upper, other}
use Rattle.sheet.proofs.Lengths.{whole}
use Rattle.sheet.proofs.Sums.{sum_agree, checks_iff}

-- ---- the bytes t of one block
module _ (t : List ℕ) where
  -- 'The sum of its 128 words, carried round at 2^32, is 317944 plus the block's number', of 512 bytes
  pub alone_iff : (b : ℕ) → (checks_alone t b ≡ true) ↔ ((length t ≡ block_bytes) × (sum (word t 0) block_words % 2 ^ 32 ≡ check_base + b))
  unfolding checks_alone
  alone_iff b = (
    λ e. let f = simp facts at e in (f.0, (checks_iff t 0 b).0 f.1),
    λ f. rw (eq-eqb (length t) block_bytes f.0) ((checks_iff t 0 b).1 f.1),
  )

  -- any other length does not check
  pub other_length : (b : ℕ) → length t ≢ block_bytes → checks_alone t b ≡ false
  unfolding checks_alone
  other_length b n = rw (ne_eqb (length t) block_bytes n)

  -- nor does any block as a number so large that 317944 more is 2^32 or more: no sum carried round comes to that
  pub large_number : (b : ℕ) → 2 ^ 32 ≤ check_base + b → checks_alone t b ≡ false
  unfolding checks_alone checks_as
  large_number b h = rw (ne_eqb (sum (word t 0) block_words % 2 ^ 32) (check_base + b) (λ e. omega arith)) (and-false (eqb (length t) block_bytes))

-- ---- the blocks of a sheet s
module _ (most : ℕ) (s : List ℕ) where
  abbrev n : ℕ
  n = blocks_in (length s)

  word-alone : (b k : ℕ) → k < block_words → word (block_of s b) 0 k ≡ word s b k
  word-alone b k q =
      let z : 0 * block_bytes + k * 4 ≡ k * 4 = omega arith in
      rw z (word-take (drop (b * block_bytes) s) block_bytes (k * 4) (omega arith) ∙ word-drop s (b * block_bytes) (k * 4))

  -- block b by itself checks exactly when it does in its sheet
  pub alone-checks : (b : ℕ) → b * block_bytes + block_bytes ≤ length s → checks_alone (block_of s b) b ≡ checks s b
  unfolding checks_alone checks_as
  alone-checks b h =
      let l : length (block_of s b) ≡ block_bytes = length-take-le block_bytes (drop (b * block_bytes) s) (omega (arith, length-drop (b * block_bytes) s)) in
      let w : sum (word (block_of s b) 0) block_words ≡ sum (word s b) block_words =
      sum_agree (word (block_of s b) 0) (word s b) block_words (word-alone b) in
      rw (eq-eqb (length (block_of s b)) block_bytes l, w)

  inside : (b : ℕ) → length_ok (length s) ≡ true → b < n → b * block_bytes + block_bytes ≤ length s
  inside b e q = omega (arith, (whole (length s) e).long)

  -- an accepted sheet's blocks check by themselves
  pub accepted-alone : (verdict_up_to most s).number ≡ 0 → (b : ℕ) → b < n → checks_alone (block_of s b) b ≡ true
  accepted-alone z b q =
      let g = (good-blocks most s).0 z in
      alone-checks b (inside b g.0 q) ∙ (g.1 b (omega arith) q).checked

  nineteen : (v : Verdict) → NamedSheet most s v → v.number ≡ check_wrong
      → (length_ok (length s) ≡ true) × (v.block < n) × AllGood most s n 0 v.block × (checks s v.block ≡ false)
  nineteen v (bad-length e) z = absurd (omega arith)
  nineteen v (blocks e (all_good f)) z = absurd (omega arith)
  nineteen v (blocks e (bad_check x a y f c)) z = (e, y, f, c)
  nineteen v (blocks e (bad_contents x a y f c d (upper p u))) z = absurd (omega arith)
  nineteen v (blocks e (bad_contents x a y f c d (other u))) z = absurd (omega arith)

  -- reading says 19 and block b exactly when the blocks before it are good and block b by itself does not check
  pub nineteen_iff : (b : ℕ) → (verdict_up_to most s ≡ verdict check_wrong b)
      ↔ ((length_ok (length s) ≡ true) × (b < n) × AllGood most s n 0 b × (checks_alone (block_of s b) b ≡ false))
  nineteen_iff b = (
    λ e.
        let r = nineteen (verdict check_wrong b) ((verdict_iff most s (verdict check_wrong b)).0 e) refl in
        (r.0, r.1, r.2, alone-checks b (inside b r.0 r.1) ∙ r.3),
    λ r.
        let c = sym (alone-checks b (inside b r.0 r.1)) ∙ r.3 in
        (verdict_iff most s (verdict check_wrong b)).1 (blocks r.0 (bad_check b (omega arith) r.1 r.2 c)),
  )
