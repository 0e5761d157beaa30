-- Two sections that are not clear end the pass.
use Rattle.std.proofs.Common.{rules, sym, ◌≡◌, false}
use Rattle.tracks.proofs.Tested.{clear_at, stops}
use Rattle.lent_rows.proofs.are_apart.Goals as goal

pub returns-then-not-is_clear : goal.returns-then-not-is_clear
returns-then-not-is_clear c = let a = c.args in
    let crossed : clear_at a.own.now a.other.now c.loop-i.i ≡ false = search rules in
    sym (stops a.own.now a.other.now _ c.loop-i.i (rw (sym c.saturating_sub-i-end.ensures) c.loop-i-test.true) crossed)
