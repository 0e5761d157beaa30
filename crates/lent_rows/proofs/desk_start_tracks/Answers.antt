-- Refused, both rows are as they were; past the test each is started by itself.
use Rattle.std.proofs.Common.{refl, sym, ap, ◌∙◌}
use Rattle.relay.specs.Line.{After}
use Rattle.lent_rows.proofs.Started.{refused, started, first_started, second-started}
use Rattle.lent_rows.proofs.desk_start_tracks.Goals as goal

pub returns-then-not-may_start_tracks : goal.returns-then-not-may_start_tracks
returns-then-not-may_start_tracks c = let a = c.args in
    rw (refused a.circuit a.first.now a.second.now a.kinds.now a.others.now a.stamp (sym c.may_start_tracks.ensures ∙ c.if-not-may_start_tracks.true))
    (rw c.number.ensures.value at c.tell.ensures, refl, refl)

pub returns : goal.returns
returns c = let a = c.args in
    let may = sym c.may_start_tracks.ensures ∙ c.if-not-may_start_tracks.false in
    let own = first_started a.circuit a.first.now a.second.now a.kinds.now a.others.now a.stamp may in
    let other = second-started a.circuit a.first.now a.second.now a.kinds.now a.others.now a.stamp may in
    rw (started a.circuit a.first.now a.second.now a.kinds.now a.others.now a.stamp may)
    (c.desk_start-2.ensures.0 ∙ ap (λ (u : After). u.told) other, c.desk_start.ensures.1 ∙ ap (λ (u : After). u.line) own, c.desk_start-2.ensures.1 ∙ ap (λ (u : After). u.line) other)
