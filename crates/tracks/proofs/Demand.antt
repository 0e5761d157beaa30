-- 'Demand 3 holds for each track by itself': after any events of a session on two tracks, on either track or on neither, the entries of track b say of its sections what demand 3 asks.
-- Track b is a line in a state that is reached (proofs/Runs.antt), so each theorem of crates/history is one of it.
use Prim.Native.Nat.{ℕ, ◌+◌, ◌<◌}
use mathlib.Core.Path.{◌≡◌}
use mathlib.Core.Bool.{Bool, true, false, ◌||◌}
use mathlib.Core.List.{List, ◌∷◌, ◌++◌}
use lib.ListN.{length, get_or}
use Rattle.relay.specs.Kinds.{ordinary, blocks_at_pedal}
use Rattle.relay.specs.Posts.{at}
use Rattle.relay.specs.Relays.{An, signal, up}
use Rattle.relay.specs.declared.Post.{Post}
use Rattle.history.specs.History.{Entry, did, is_open, releases, announced}
use Rattle.history.specs.Demand.{Counted, Ends, Conserved, HeldByOne, Locked, Freed, Unjammed, Follows}
use Rattle.history.specs.Run as hist
use Rattle.history.specs.Run.{Reached}
use Rattle.history.proofs.Jammed as jammed
use Rattle.history.proofs.Kind.{reached-kinds}
use Rattle.history.proofs.Ledger as ledger
use Rattle.history.proofs.Passed.{reached-follows}
use Rattle.history.proofs.Reopened.{reached_not_reopened}
use Rattle.history.proofs.Signal.{reached_open}
use Rattle.tracks.specs.Circuit.{startable_two}
use Rattle.tracks.specs.Desk.{Asked, Session, of_track, line_of, run, begun, only, view}
use Rattle.tracks.proofs.Runs.{Valid}
use Rattle.tracks.proofs.RunsGood.{starts, ran-good}

-- a session of circuit c begun on the rows l and k from the tables ks and js, after the events xs
module _ (c : ℕ) (l k : List Post) (ks js : List ℕ) (t : ℕ) (started : startable_two c l k ks js ≡ true) (xs : List Asked) where
  abbrev ended : Session
  ended = run xs (begun c l k ks js t)

  -- the two may be used together
  pub stays-valid : Valid false ended.desk
  stays-valid = (ran-good c l k ks js t started false xs).valid

  -- ---- track b: its row, its table, its entries, newest first, and its posts
  module _ (b : Bool) where
    abbrev lent : List Post
    lent = of_track b l k

    abbrev kinds : List ℕ
    kinds = of_track b ks js

    abbrev written : List Entry
    written = only b ended.history

    abbrev post : ℕ → Post
    post i = at (line_of b ended.desk) i

    reached : Reached (hist.begun lent kinds t) (view b ended)
    reached = (ran-good c l k ks js t started b xs).reached

    -- the nine counts are the history's
    pub counted : (s : ℕ) → s + 1 < length kinds → Counted kinds s written (post s) (post (s + 1))
    unfolding view
    counted = ledger.reached-counted lent kinds t (starts c l k ks js t started b) reached

    -- the first post and the last have no others
    pub ends : (i : ℕ) → i + 1 ≡ length kinds → Ends (post 0) (post i)
    unfolding view
    ends = ledger.reached-ends lent kinds t (starts c l k ks js t started b) reached

    -- what was sent is received, lost or under way; what was passed is released or waiting
    pub conserved : (s : ℕ) → s + 1 < length kinds → Conserved kinds s written (post s) (post (s + 1))
    unfolding view
    conserved = ledger.reached-conserved lent kinds t (starts c l k ks js t started b) reached

    -- an occupied section is held by exactly one thing, a free one by none
    pub held_by_one : (s : ℕ) → s + 1 < length kinds → HeldByOne s written (post s) (post (s + 1))
    unfolding view
    held_by_one = ledger.reached-held_by_one lent kinds t (starts c l k ks js t started b) reached

    -- while it is held its semaphore is closed and its lever locked
    pub locked : (s : ℕ) → s + 1 < length kinds → Locked (post s)
    unfolding view
    locked = ledger.reached-locked lent kinds t (starts c l k ks js t started b) reached

    -- a semaphore passed open is not opened again before its section was announced and freed
    pub not_reopened : (i : ℕ) → blocks_at_pedal (ordinary (get_or kinds i 0)) ≡ true
        → (later : List Entry) (y : Entry) (m : List Entry) (x : Entry) (h : List Entry)
        → written ≡ later ++ (y ∷ (m ++ (x ∷ h)))
        → did 1 i y ≡ true → did 4 i x ≡ true → is_open i h ≡ true
        → Freed i (m ++ (x ∷ h)) (x ∷ h)
    unfolding view
    not_reopened = reached_not_reopened lent kinds t (starts c l k ks js t started b) reached

    -- a signal is open exactly when the history says so
    pub signal_is : (i : ℕ) → up signal (post i).word ≡ is_open i written
    unfolding view
    signal_is = reached_open lent kinds t (starts c l k ks js t started b) reached

    -- no release is taken at a post between its jam and its freeing
    pub not_released : (i : ℕ) (later : List Entry) (y : Entry) (m : List Entry) (x : Entry) (h : List Entry)
        → written ≡ later ++ (y ∷ (m ++ (x ∷ h)))
        → (did 6 i y || did 7 i y) ≡ true → did 11 i x ≡ true
        → Unjammed i m
    unfolding view
    not_released = jammed.reached_not_released lent kinds t (starts c l k ks js t started b) reached

    -- An is what the history says
    pub recorded_is : (s : ℕ) → s + 1 < length kinds → up An (post (s + 1)).word ≡ announced s written
    unfolding view
    recorded_is = jammed.reached-recorded lent kinds t (starts c l k ks js t started b) reached

    -- and does not rise between the jam and the freeing
    pub not_recorded : (s : ℕ) → s + 1 < length kinds → (m : List Entry) (x : Entry) (h : List Entry)
        → written ≡ m ++ (x ∷ h)
        → did 11 (s + 1) x ≡ true → announced s h ≡ false → up An (post (s + 1)).word ≡ true
        → Unjammed (s + 1) m
    unfolding view
    not_recorded = jammed.reached_not_recorded lent kinds t (starts c l k ks js t started b) reached

    -- every release follows a passage and an announcement since the previous one
    pub release-follows : (s : ℕ) (later : List Entry) (y : Entry) (h : List Entry) → written ≡ later ++ (y ∷ h) → releases s y ≡ true
        → Follows kinds s h
    unfolding view
    release-follows = reached-follows lent kinds t (starts c l k ks js t started b) reached

    -- the posts have the table's kinds
    pub kinds_stay : (i : ℕ) → (post i).kind ≡ get_or kinds i 0
    unfolding view
    kinds_stay = reached-kinds lent kinds t (starts c l k ks js t started b) reached
