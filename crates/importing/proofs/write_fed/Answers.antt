-- `importing::write_fed` meets its contract, by its tests in their order (proofs/Settled.antt).
use Rattle.std.specs.List.{slice_range}
use Rattle.std.proofs.lemmas.Result.{err_from_is_err_and}
use Prim.Native.Nat.{ℕ, ◌+◌, ◌-◌, ◌*◌}
use mathlib.Core.Path.{◌≡◌, refl, sym, ◌∙◌}
use mathlib.Core.List.{List}
use native.Mathlib.Omega.{arith}
use lib.ListN.{take}
use Rattle.sheet.proofs.Refusals.{refuses, number_is}
use Rattle.sheet.specs.Writing.{bytes_for}
use Rattle.importing.specs.declared.refusal.Refusal.TheVariants.{Sheet}
use Rattle.importing.specs.Rooms.{fed_at}
use Rattle.importing.proofs.Settled.{not_done, too_many, too_long, refused_write, good_write}
use Rattle.importing.proofs.write_fed.Goals as goal

-- the front of a room, as it is taken
front : {X : Type 0} (xs : List X) (n : ℕ) → slice_range xs 0 n ≡ take n xs
front xs n = let e : n - 0 ≡ n = omega arith in rw e refl

pub returns-then-not-is_done-clause-settled : goal.returns-then-not-is_done-clause-settled
returns-then-not-is_done-clause-settled c = let a = c.args in
    rw c.record_of.ensures (not_done (fed_at a.s a.kinds.now a.events.now) a.out.now (sym c.is_done.ensures ∙ c.if-not-is_done.true))

pub returns-in_default-clause-settled : goal.returns-in_default-clause-settled
returns-in_default-clause-settled c = let a = c.args in
    too_many (fed_at a.s a.kinds.now a.events.now) a.out.now (sym c.is_done.ensures ∙ c.if-not-is_done.false) (omega (arith, c.in_default.ensures.lookup.0))

pub returns-in_default-get-clause-settled : goal.returns-in_default-get-clause-settled
returns-in_default-get-clause-settled c = let a = c.args in
    too_long (fed_at a.s a.kinds.now a.events.now) a.out.now (sym c.is_done.ensures ∙ c.if-not-is_done.false) c.in-Some.ensures.lookup.0.1 (omega (arith, c.in_default-get.ensures.lookup.0))

pub returns-in_err-write-clause-settled : goal.returns-in_err-write-clause-settled
returns-in_err-write-clause-settled c = let a = c.args in
    let es = c.in-Some.ensures.lookup.0 in
    let ks = c.in-Some-get.ensures.lookup.0 in
    let refusal = c.in_err-write.field-0.0 in
    let p = err_from_is_err_and c.from_residual.result c.from_residual.ensures.1 in
    let q : p.0 ≡ Sheet refusal = p.2 in
    let w = rw (es.2 ∙ front _ _, ks.2 ∙ front _ _) at c.in_err-write.ensures.written in
    rw (p.1, q) (refused_write (fed_at a.s a.kinds.now a.events.now) a.out.now (sym c.is_done.ensures ∙ c.if-not-is_done.false) es.1 ks.1 _ _ w.0 w.1 (λ z. refuses refusal (number_is refusal ∙ z)))

pub returns-in_err-write-clause-place : goal.returns-in_err-write-clause-place
returns-in_err-write-clause-place c = let p = err_from_is_err_and c.from_residual.result c.from_residual.ensures.1 in
    let q : p.0 ≡ Sheet c.in_err-write.field-0.0 = p.2 in
    rw (p.1, q) c.in_err-write.ensures.place

pub returns-clause-settled : goal.returns-clause-settled
returns-clause-settled c = let a = c.args in
    let es = c.in-Some.ensures.lookup.0 in
    let ks = c.in-Some-get.ensures.lookup.0 in
    let w = rw (es.2 ∙ front _ _, ks.2 ∙ front _ _) at c.in_ok-write.ensures.written in
    let n : 512 + c.div_ceil.result * 512 ≡ bytes_for a.s.events = omega (arith, c.div_ceil.ensures, es.3) in
    rw n (good_write (fed_at a.s a.kinds.now a.events.now) a.out.now (sym c.is_done.ensures ∙ c.if-not-is_done.false) es.1 ks.1 _ _ w.0 w.1 refl)
