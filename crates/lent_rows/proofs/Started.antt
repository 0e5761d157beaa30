-- The test before two rows are started, by its outcome.
--     refused          it fails: both rows are as they were
--     started          it passes: both lines are fresh;  first_started, second-started: so is each by itself
-- Assumes nothing.
use Prim.Native.Nat.{ℕ}
use mathlib.Core.Path.{◌≡◌}
use mathlib.Core.Bool.{Bool, true, false}
use mathlib.Core.List.{List}
use lib.ListN.{length}
use Rattle.relay.specs.Answers.{taken, notValid}
use Rattle.relay.specs.Line.{after, told, head, fresh_line, startable, start_of}
use Rattle.relay.specs.declared.Post.{Post}
use Rattle.tracks.specs.Circuit.{after_two, startable_two, start_two}
use Rattle.tracks.proofs.Together.{startable_iff}
use Rattle.lent_rows.proofs.StartTest.{tested}

alone : (l : List Post) (ks : List ℕ) (t : ℕ) → startable l ks ≡ true → start_of l ks t ≡ after (told taken (head 0 t)) (fresh_line ks)
unfolding start_of
alone l ks t e = rw e

module _ (c : ℕ) (l k : List Post) (ks js : List ℕ) where
  is_startable : (b : Bool) → tested c (length l) (length k) ks js ≡ b → startable_two c l k ks js ≡ b
  unfolding startable_two startable
  is_startable b e = e

  pub refused : (t : ℕ) → tested c (length l) (length k) ks js ≡ false → start_two c l k ks js t ≡ after_two (told notValid (head 0 0)) l k
  unfolding start_two
  refused t e = rw (is_startable false e)

  module _ (t : ℕ) (e : tested c (length l) (length k) ks js ≡ true) where
    pub started : start_two c l k ks js t ≡ after_two (told taken (head 0 t)) (fresh_line ks) (fresh_line js)
    unfolding start_two
    started = rw (is_startable true e)

    pub first_started : start_of l ks t ≡ after (told taken (head 0 t)) (fresh_line ks)
    first_started = alone l ks t ((startable_iff c l k ks js).0 (is_startable true e)).own

    pub second-started : start_of k js t ≡ after (told taken (head 0 t)) (fresh_line js)
    second-started = alone k js t ((startable_iff c l k ks js).0 (is_startable true e)).other
