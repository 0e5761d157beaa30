-- `digits::put_number` meets its contract: the digits of a tenth of the number, and then the last one. The number falls at each call.
use Rattle.std.proofs.Common.{rules, ℕ, ◌+◌, ◌/◌, ◌%◌, List, length, arith}
use mathlib.Core.Path.{ap}
use Rattle.digits.specs.Digits.{digits}
use Rattle.digits.proofs.Value.{digits_one, digits_more, digits_less}
use Rattle.digits.proofs.Stores.{put_one, put_length, put_byte}
use Rattle.digits.proofs.+put_number.Goals as goal

pub bounds-out-at : goal.bounds-out-at
bounds-out-at t c = let one = digits_one c.args.n (omega arith) in omega (arith, ap (λ (xs : List ℕ). length xs) one)

pub returns-then-n-lt10 : goal.returns-then-n-lt10
returns-then-n-lt10 t c =
    let a = c.args in
    let one = digits_one a.n (omega arith) in
    (rw one, rw one (put_one a.out.now a.at (48 + a.n) (omega (arith, ap (λ (xs : List ℕ). length xs) one))))

pub put_number-p-requires : goal.put_number-p-requires
put_number-p-requires t c = let l = digits_less c.args.n (omega arith) in search rules

pub bounds-out-p : goal.bounds-out-p
bounds-out-p t c =
    let a = c.args in
    let l = digits_less a.n (omega arith) in
    let e = c.put_number-p.ensures in
    omega (arith, put_length a.out.now _ (digits (a.n / 10)) a.at _ e (omega arith))

pub overflow_add-result-2 : goal.overflow_add-result-2
overflow_add-result-2 t c =
    let l = digits_less c.args.n (omega arith) in
    record { fits = omega (arith, c.put_number-p.ensures.0) }

pub returns : goal.returns
returns t c =
    let a = c.args in
    let l = digits_less a.n (omega arith) in
    rw (digits_more a.n (omega arith)) (put_byte a.out.now _ (digits (a.n / 10)) a.at _ c.put_number-p.ensures (48 + a.n % 10) (omega arith))
