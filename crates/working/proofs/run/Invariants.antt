-- `working::run` meets its contract: at each turn the session stands after the events so far, and those events are answered.
use mathlib.Core.Path.{◌≡◌}
use mathlib.Core.Bool.{true, ◌&&◌}
use mathlib.Core.List.{◌++◌}
use lib.ListN.{length, take, drop}
use Rattle.sheet.specs.Layout.{two_tracks}
use Rattle.sheet.specs.Reading.{form_ok, table_fits}
use Rattle.sheet.specs.Sheet.{circuit_of}
use Rattle.working.specs.Run.{marked, begun_by, run_by, answers_by}
use Rattle.working.specs.Working.{session}
use Rattle.working.proofs.run.Given as goal

abbrev pub invariant-loop-i : goal.invariant-loop-i
invariant-loop-i l = (length l.events ≡ length l.initial.events)
    × ((form_ok two_tracks l.tracks && table_fits l.tracks l.table) ≡ true)
    × (l.session ≡ session l.tracks (circuit_of l.table) (run_by l.tracks (circuit_of l.table) (begun_by l.tracks l.table l.stamp) (take l.i (marked l.initial.events l.on))))
    × (l.events ≡ answers_by l.tracks (circuit_of l.table) (begun_by l.tracks l.table l.stamp) (take l.i (marked l.initial.events l.on)) ++ drop l.i l.initial.events)
