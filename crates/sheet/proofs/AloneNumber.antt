-- One block by itself checks as one number at most: its sum says which.
-- Assumes nothing.
use mathlib.Core.Path.{◌≡◌}
use Prim.Native.Nat.{ℕ}
use mathlib.Core.Bool.{true}
use mathlib.Core.List.{List}
use native.Mathlib.Omega.{arith}
use Rattle.sheet.specs.Check.{checks_alone}
use Rattle.sheet.proofs.Alone.{alone_iff}

-- ---- one number
module _ (t : List ℕ) where
  -- a block checks as one number at most
  pub one_number : (b c : ℕ) → checks_alone t b ≡ true → checks_alone t c ≡ true → b ≡ c
  one_number b c p q = omega (arith, ((alone_iff t b).0 p).1, ((alone_iff t c).0 q).1)
