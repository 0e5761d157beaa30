-- `why::watch` meets its contract: at each turn the session stands after the events so far, each of which has its right answer, and what stands is the last of them before the chosen one that made it so.
use Prim.Native.Nat.{ℕ, ◌<◌}
use mathlib.Core.Path.{◌≡◌}
use mathlib.Core.List.{List}
use Rattle.relay.specs.Posts.{at}
use Rattle.sheet.specs.Sheet.{Tracked, circuit_of}
use Rattle.working.specs.Run.{marked, begun_by}
use Rattle.working.specs.Working.{session}
use Rattle.why.specs.Why.{state_after, line_at, last_made}
use Rattle.why.proofs.Right.{Right}
use Rattle.why.proofs.Watched.{up_to}
use Rattle.why.proofs.watch.Given as goal

-- the sheet that is worked
abbrev pub said : ℕ → ℕ → List ℕ → List (List ℕ) → List ℕ → Tracked
said form stamp table events tracks = record { form = form; stamp = stamp; table = table; events = events; tracks = tracks }

abbrev pub invariant-loop-i : goal.invariant-loop-i
invariant-loop-i l = (l.session ≡ session l.tracks (circuit_of l.table) (state_after (said l.tracks l.stamp l.table l.events l.on) l.i))
    × (l.was ≡ (at (line_at l.asked.track (state_after (said l.tracks l.stamp l.table l.events l.on) l.i)) l.asked.place).word)
    × (l.since ≡ last_made (said l.tracks l.stamp l.table l.events l.on) l.asked.track l.asked.answer l.asked.place (up_to l.asked.position l.i))
    × ((j : ℕ) → j < l.i → Right l.tracks (circuit_of l.table) (begun_by l.tracks l.table l.stamp) (marked l.events l.on) j)
