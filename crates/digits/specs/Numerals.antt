-- Reading a number in decimal, a byte at a time: a mark says what the bytes read so far are.
-- 0: nothing; n + 1: the digits of the number n; `wrong`: anything else. That it says so stands in proofs/Numerals.antt.
-- Assumes nothing.
use Rattle.std.specs.Prelude.{ℕ, ◌+◌, ◌-◌, ◌*◌, ◌^◌, Bool, ◌&&◌, List, [], ◌∷◌, eqb, leb}
use Rattle.relay.specs.Choice.{pick}

-- the mark of bytes that are no number
abbrev pub wrong : ℕ
wrong = 2 ^ 64 - 1

-- numbers below this one are read
abbrev pub limit : ℕ
limit = 10 ^ 19

-- a number below this one, its tenth, takes a digit more
abbrev pub tenth : ℕ
tenth = 10 ^ 18

-- '0' is 48, '9' is 57
unfoldable pub is_digit : ℕ → Bool
is_digit b = leb 48 b && leb b 57

-- the mark m after the byte b: a 0 is followed by no digit
unfoldable pub with_digit : ℕ → ℕ → ℕ
with_digit m b =
    pick (is_digit b)
    (pick (eqb m 0) (b - 48 + 1)
    (pick (eqb m 1) wrong (pick (leb m tenth) ((m - 1) * 10 + (b - 48) + 1) wrong)))
    wrong

-- the mark m after the bytes of a list; that of a text t is `marked 0 t`
unfoldable pub marked : ℕ → List ℕ → ℕ
marked m [] = m
marked m (b ∷ bs) = marked (with_digit m b) bs
