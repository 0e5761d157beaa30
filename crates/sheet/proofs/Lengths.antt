-- The length of a sheet: 1 to 64 whole blocks.
-- Assumes nothing.
use Prim.Native.Nat.{ℕ, ◌*◌, ◌%◌, ◌≤◌}
use mathlib.Core.Path.{◌≡◌}
use mathlib.Core.Bool.{true, false}
use mathlib.Core.List.{List}
use native.Mathlib.Omega.{arith}
use lib.ListN.{length}
use Rattle.relay.proofs.Truth.{facts}
use Rattle.sheet.specs.Layout.{block_bytes, most_blocks, length_wrong}
use Rattle.sheet.specs.Reading.{length_ok, blocks_in, verdict, verdict_up_to, first_bad}

-- 'A sheet is 1 to 64 blocks of 512 bytes'
pub record Whole (n : ℕ) : Type 0 where
  pub some : 1 ≤ blocks_in n
  pub most : blocks_in n ≤ most_blocks
  pub long : blocks_in n * block_bytes ≡ n

pub whole : (n : ℕ) → length_ok n ≡ true → Whole n
unfolding length_ok
whole n e =
    let f = simp facts at e in
    let r : n % 512 ≡ 0 = f.0 in
    let l : 512 ≤ n = f.1.0 in
    let m : n ≤ 32768 = f.1.1 in
    record { some = omega arith; most = omega arith; long = omega arith }

-- reading by the length alone
module _ (most : ℕ) (s : List ℕ) where
  pub wrong-length : length_ok (length s) ≡ false → verdict_up_to most s ≡ verdict length_wrong 0
  unfolding verdict_up_to
  wrong-length e = rw e

  pub right-length : length_ok (length s) ≡ true → verdict_up_to most s ≡ first_bad most s (blocks_in (length s)) 0 (blocks_in (length s))
  unfolding verdict_up_to
  right-length e = rw e
