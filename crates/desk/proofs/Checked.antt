-- The position of a mark as `checked_sub` and `try_from` come to it.
-- Assumes nothing.
use Rattle.std.proofs.Common.{ℕ, ◌≡◌, ◌≤◌, ◌<◌, ◌-◌, ◌^◌, ◌∙◌, ap, arith, Option, Some, None, Result, Ok, Err}
use Rattle.std.specs.Option.{SomeIff}
use Rattle.std.specs.Result.{OkIff, result_ok}
use borrow.Author.Tests.{le-leb, lt-leb, eq-eqb, ne_eqb}
use Rattle.desk.specs.Words.{position_at}

pub at_checked : {E : Type 0} (m f : ℕ) (o : Option ℕ) (r : Result ℕ E) → o ≡ Some f → SomeIff o (1 ≤ m) (m - 1)
    → OkIff r (f < 2 ^ 32) f → result_ok r ≡ position_at m
unfolding position_at
at_checked m f o (Ok x) e s h =
    let k = rw e at s in
    rw (ne_eqb m 0 (λ z. omega arith), le-leb m (2 ^ 32) (omega (arith, h.0))) (ap Some (h.1 ∙ k.1))
at_checked m f o (Err x) e s h =
    let k = rw e at s in
    rw (ne_eqb m 0 (λ z. omega arith), lt-leb m (2 ^ 32) (omega (arith, h)))

pub at_none : (m : ℕ) (o : Option ℕ) → o ≡ None → SomeIff o (1 ≤ m) (m - 1) → position_at m ≡ None
unfolding position_at
at_none m o e h = let k = rw e at h in rw (eq-eqb m 0 (omega (arith, k)))
