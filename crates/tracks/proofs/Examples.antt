-- The examples are what the rules give: each table is computed whole.
use mathlib.Core.Path.{◌≡◌, refl}
use mathlib.Core.Bool.{true, false}
use mathlib.Core.List.{[], ◌∷◌}
use lib.ListN.{length}
use Rattle.relay.proofs.Rules.{rules}
use Rattle.history.specs.Examples.{answers}
use Rattle.history.specs.History.{did, announces, tally, announcements_sent}
use Rattle.tracks.specs.Circuit.{vibrated, circuit_ok, on_wire, busy, facing, clear, apart, valid_two, sends, sends_in, facing_of, hinders, met, at_last, answer_on, event_on, no_track, nowhere, event_two, startable_two, start_two}
use Rattle.tracks.specs.Desk.{step, run, begun, only, on_track, none_late}
use Rattle.tracks.specs.Examples.{fresh, all_asked, all_right, each_right, four, five, two, table_right, ends_right, four_first, four_second, five_first, five_second, starts, starts_answers, neither, neither_answers, mixed, counted, ahead, first_answers}

-- every rule of two tracks
unfoldable pub shared : Unit {0}
unfolding rules circuit_ok on_wire busy facing clear apart valid_two sends sends_in facing_of hinders met at_last answer_on event_on no_track nowhere event_two startable_two
    start_two step run begun
shared = tt

-- 25 is given to 5, 6 and 7 on polarised current until the other track's signal has arrived, in every section of 2, 4 and 5 posts and on either track; on vibrated current it is not
pub tables-right : (ends_right (0 ∷ 1 ∷ []) two ≡ true)
    × (table_right four_first four_second four ≡ true)
    × (table_right five_first five_second five ≡ true)
unfolding shared all_right each_right table_right ends_right
tables-right = (refl, refl, refl)

-- on starting: 0 on both circuits; 1 for a circuit that is not 0 or 1, for tables of two lengths, and for either table wrong
pub starts-right : starts ≡ starts_answers
unfolding shared
starts-right = refl

-- a track that is neither is answered 2, or 3 for a number that is no event's; 1 goes before both, for a circuit that is not 0 or 1 and, on polarised current, for signals that cross
pub neither_right : neither ≡ neither_answers
unfolding shared
neither_right = refl

-- the session in which neither track is answered 4 or 5, nor is either with the other's events left out, so that proofs/Vibrated.antt speaks of it; each track has events of its own
pub mixed-timely : (none_late (only false (run mixed (fresh vibrated four_first four_second)).history) ≡ true)
    × (none_late (only false (run (on_track false mixed) (fresh vibrated four_first four_second)).history) ≡ true)
    × (none_late (only true (run mixed (fresh vibrated four_first four_second)).history) ≡ true)
    × (none_late (only true (run (on_track true mixed) (fresh vibrated four_first four_second)).history) ≡ true)
    × (length (on_track false mixed) ∷ length (on_track true mixed) ∷ length mixed ∷ [] ≡ 6 ∷ 4 ∷ 12 ∷ [])
unfolding shared only on_track none_late all_asked
mixed-timely = (refl, refl, refl, refl, refl)

-- each track of it sent one announcement in its section 1, and its records say the same: what the other track sent there is not counted
pub mixed-counted : counted ≡ 1 ∷ 1 ∷ 1 ∷ 1 ∷ []
unfolding shared only all_asked announcements_sent tally announces did
mixed-counted = refl

-- 'stamps and the event limit aside': they are not left out for nothing
pub ahead-right : (first_answers ahead ≡ 4 ∷ []) × (first_answers (on_track false ahead) ≡ 0 ∷ [])
unfolding shared only on_track answers
ahead-right = (refl, refl)
