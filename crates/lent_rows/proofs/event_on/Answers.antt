-- Taken, the event counts and its stamp is the last.
use Rattle.std.proofs.Common.{◌∙◌, sym}
use Rattle.tracks.proofs.Steps.{told_on}
use Rattle.lent_rows.proofs.event_on.Goals as goal

pub returns-in-Ok : goal.returns-in-Ok
returns-in-Ok c = let a = c.args in
    let told = told_on a.circuit a.own.now a.other.now a.s a.number a.place a.stamp in
    (rw c.grow.ensures at c.tell.ensures ∙ (rw (sym c.in-Ok.ensures.code) at told), c.alter.ensures.line)
