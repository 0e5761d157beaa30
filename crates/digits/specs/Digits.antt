-- A number in decimal: its digits, the highest first, with no leading zero; 0 is "0".
-- That the digits are the number's and that none leads stands in proofs/Value.antt.
-- Assumes nothing.
use Rattle.std.specs.Prelude.{ℕ, zero, suc, ◌+◌, ◌-◌, ◌*◌, ◌/◌, ◌%◌, List, [], ◌∷◌, ◌++◌, ltb}
use Rattle.relay.specs.Choice.{pick}

-- the byte of a digit: '0' is 48
abbrev pub digit : ℕ → ℕ
digit d = 48 + d

-- the digits of n, at most f of them
unfoldable pub digits_in : ℕ → ℕ → List ℕ
digits_in zero n = []
digits_in (suc f) n = pick (ltb n 10) (digit n ∷ []) (digits_in f (n / 10) ++ (digit (n % 10) ∷ []))

-- n has at most n + 1 digits
unfoldable pub digits : ℕ → List ℕ
digits n = digits_in (suc n) n

-- what digits say, from the left, after the number m
unfoldable pub value : ℕ → List ℕ → ℕ
value m [] = m
value m (d ∷ ds) = value (m * 10 + (d - 48)) ds
