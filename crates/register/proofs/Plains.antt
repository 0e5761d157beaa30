-- The digits of a number mean nothing to the lexer: none of them is a quote, a comma, a CR or an LF.
-- Assumes nothing.
use Prim.Native.Nat.{ℕ, ◌+◌, ◌/◌, ◌%◌, ◌<◌}
use mathlib.Core.Path.{◌≡◌}
use mathlib.Core.List.{List, [], ◌∷◌, ◌++◌}
use native.Mathlib.Omega.{arith}
use borrow.Author.Tests.{ne_eqb}
use Rattle.digits.specs.Digits.{digit, digits}
use Rattle.digits.proofs.Value.{by_tens, digits_one, digits_more}
use Rattle.register.specs.Lexer.{class}
use Rattle.register.specs.declared.Class.TheVariants.{Other}

-- bytes that mean nothing
abbrev pub Plain : List ℕ → Type 0
Plain [] = Unit {0}
Plain (b ∷ bs) = (class b ≡ Other) × Plain bs

plain-append : (xs ys : List ℕ) → Plain xs → Plain ys → Plain (xs ++ ys)
plain-append [] ys p q = q
plain-append (x ∷ xs) ys p q = (p.0, plain-append xs ys p.1 q)

digit-plain : (d : ℕ) → d < 10 → class (digit d) ≡ Other
unfolding class
digit-plain d h = rw (ne_eqb (48 + d) 34 (λ e. omega arith), ne_eqb (48 + d) 44 (λ e. omega arith), ne_eqb (48 + d) 13 (λ e. omega arith), ne_eqb (48 + d) 10 (λ e. omega arith))

pub digits-plain : (n : ℕ) → Plain (digits n)
digits-plain =
    by_tens (λ n. Plain (digits n))
    (λ n h. rw (digits_one n h) (digit-plain n h, tt))
    (λ n h i. rw (digits_more n h) (plain-append (digits (n / 10)) _ i (digit-plain (n % 10) (omega arith), tt)))
