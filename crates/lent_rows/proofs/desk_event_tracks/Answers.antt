-- By the track: the event on one row beside the other.
use Rattle.std.proofs.Common.{refl, sym, ap, ◌∙◌}
use Rattle.tracks.specs.Numbers.{number_of_track}
use Rattle.tracks.proofs.Steps.{two_first, two_second}
use Rattle.lent_rows.proofs.desk_event_tracks.Goals as goal

pub returns-in-Some-One : goal.returns-in-Some-One
returns-in-Some-One c = let a = c.args in
    rw (sym c.in-Some-One.ensures.some ∙ ap number_of_track c.in-Some-One.field-0-is, two_first a.circuit a.first.now a.second.now a.s a.number a.place a.stamp)
    (c.event_on.ensures.0, c.event_on.ensures.1, refl)

pub returns-in-Some-Two : goal.returns-in-Some-Two
returns-in-Some-Two c = let a = c.args in
    rw (sym c.in-Some-Two.ensures.some ∙ ap number_of_track c.in-Some-Two.field-0-is, two_second a.circuit a.first.now a.second.now a.s a.number a.place a.stamp)
    (c.event_on-in-Some-Two.ensures.0, refl, c.event_on-in-Some-Two.ensures.1)
