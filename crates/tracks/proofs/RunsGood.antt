-- A whole session on two tracks: it keeps the desk valid, and each track of it is a line in a state that is reached from the one just started.
-- Event by event, by what proofs/Runs.antt says of one.
use Prim.Native.Nat.{ℕ}
use mathlib.Core.Path.{◌≡◌}
use mathlib.Core.Bool.{Bool, true, false}
use mathlib.Core.List.{List, [], ◌∷◌}
use Rattle.relay.specs.Line.{startable, start_of}
use Rattle.relay.specs.declared.Post.{Post}
use Rattle.history.specs.Run.{State, Befalls, given_event, refused-outside, moved-elsewhere, Reached, at_first, further}
use Rattle.history.specs.Run as hist
use Rattle.tracks.specs.Circuit.{startable_two, start_two}
use Rattle.tracks.specs.Desk.{of_track, Asked, Session, step, run, begun, only, view}
use Rattle.tracks.proofs.Together.{startable_iff, fresh_two}
use Rattle.tracks.proofs.Runs.{Valid, step_keeps, befalls}

-- a run keeps the desk valid, and each track of it is a line in a state that is reached
pub record Good (first : State) (b : Bool) (w : Session) : Type 0 where
  pub valid : Valid false w.desk
  pub reached : Reached first (view b w)

pub run-good : {first : State} (b : Bool) (xs : List Asked) (w : Session) → Good first b w → Good first b (run xs w)
unfolding run
run-good b [] w g = g
run-good b (x ∷ xs) w g =
    run-good b xs (step x w)
    (record { valid = step_keeps x w g.valid; reached = further g.reached (befalls b x w g.valid) })

-- ---- a session just begun
module _ (c : ℕ) (l k : List Post) (ks js : List ℕ) (t : ℕ) (started : startable_two c l k ks js ≡ true) where
  -- each track is one that a line may be started from
  pub starts : (b : Bool) → startable (of_track b l k) (of_track b ks js) ≡ true
  starts true = ((startable_iff c l k ks js).0 started).other
  starts false = ((startable_iff c l k ks js).0 started).own

  pub begun-valid : Valid false (begun c l k ks js t).desk
  unfolding begun start_two
  begun-valid = rw started (fresh_two c l k ks js t started)

  -- and is that line just started
  pub begun-view : (b : Bool) → view b (begun c l k ks js t) ≡ hist.begun (of_track b l k) (of_track b ks js) t
  unfolding view begun only start_two hist.begun start_of
  begun-view true = rw (started, starts true)
  begun-view false = rw (started, starts false)

  -- so after any events
  pub ran-good : (b : Bool) (xs : List Asked) → Good (hist.begun (of_track b l k) (of_track b ks js) t) b (run xs (begun c l k ks js t))
  ran-good b xs =
      run-good b xs (begun c l k ks js t)
      (record { valid = begun-valid; reached = rw (begun-view b) at_first })
