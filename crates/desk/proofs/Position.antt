-- A text says a position exactly where it is the digits that the listing writes of it: the mark of a text is a number's and 1 exactly where it is that number's digits.
-- Assumes nothing.
use Prim.Native.Nat.{ℕ, ◌+◌, ◌^◌, ◌≤◌, ◌<◌}
use mathlib.Core.Path.{◌≡◌, refl, ap, ◌∙◌}
use mathlib.Core.Logic.{◌↔◌}
use mathlib.Core.List.{List}
use native.Mathlib.Numerals.{add-one}
use native.Mathlib.Omega.{arith}
use lib.ListN.{length, get_or, take}
use lib.Seq.{take-suc, take_all}
use Rattle.digits.specs.Digits.{digits}
use Rattle.digits.specs.Numerals.{with_digit, marked}
use Rattle.digits.proofs.Numerals.{marked_more, marked-digits, marked-says}
use Rattle.desk.specs.Words.{position_at, position_of}
use Rattle.std.proofs.Common.{Some}
use Rattle.desk.proofs.AtNumber.{at_number, number_at}

-- it says n exactly where it is what the listing writes for n, a number of 32 bits
pub position_iff : (t : List ℕ) (n : ℕ) → (position_of t ≡ Some n) ↔ ((t ≡ digits n) × (n < 2 ^ 32))
unfolding position_of
position_iff t n = (
  λ e. let m = at_number (marked 0 t) n e in (marked-says t n m.0 (omega arith), m.1),
  λ h. number_at (marked 0 t) n (ap (marked 0) h.0 ∙ marked-digits n (omega arith)) h.1,
)

-- ---- read byte by byte
pub mark_none : (t : List ℕ) → marked 0 (take 0 t) ≡ 0
unfolding marked
mark_none t = refl

pub mark_more : (t : List ℕ) (i : ℕ) → i < length t → marked 0 (take (i + 1) t) ≡ with_digit (marked 0 (take i t)) (get_or t i 0)
mark_more t i h = rw (add-one, take-suc t i 0 h) (marked_more 0 (take i t) (get_or t i 0))

pub mark_all : (t : List ℕ) (i m : ℕ) → length t ≤ i → m ≡ marked 0 (take i t) → position_of t ≡ position_at m
unfolding position_of
mark_all t i m h e = rw (e, take_all i t h)
