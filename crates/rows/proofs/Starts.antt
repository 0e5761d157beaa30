-- Two rows started by value: what a start of the first of 32 blank records of each leaves are the rows that hold the fresh lines, or none.
-- Assumes nothing.
use Rattle.std.proofs.Common.{◌≡◌, ℕ, List, ◌++◌, length, min, take, drop, replicate, refl, arith}
use mathlib.Core.Bool.{Bool, true, false, ◌&&◌}
use lib.Dec.{eqb}
use Rattle.relay.proofs.Truth.{and_facts, eqb_facts}
use Rattle.relay.specs.Answers.{taken, notValid}
use Rattle.relay.specs.Choice.{pick}
use Rattle.relay.specs.Kinds.{table_ok}
use Rattle.relay.specs.Line.{head, told, fresh_line}
use Rattle.relay.specs.Posts.{blank}
use Rattle.relay.specs.declared.Post.{Post}
use Rattle.relay.specs.declared.Told.{Told}
use Rattle.row.proofs.Starts.{startable_first, fresh_first, none_first}
use Rattle.row.specs.Row.{most}
use Rattle.tracks.specs.Circuit.{circuit_ok, after_two, startable_two, start_two, GivesTwo}
use Rattle.rows.specs.Rows.{stood_two, start_rows}

module _ (c : ℕ) (ks js : List ℕ) (t : ℕ) where
  -- what is tested before two rows are started
  abbrev tables : Bool
  tables = circuit_ok c && (table_ok ks && (table_ok js && eqb (length ks) (length js)))

  module _ (k j : ℕ) (ek : k ≡ min (length ks) most) (ej : j ≡ min (length js) most) where
    abbrev own : List Post
    own = take k (replicate most blank)

    abbrev other : List Post
    other = take j (replicate most blank)

    started_by : (b : Bool) → tables ≡ b → start_two c own other ks js t
        ≡ pick b (after_two (told taken (head 0 t)) (fresh_line ks) (fresh_line js)) (after_two (told notValid (head 0 0)) own other)
    unfolding start_two startable_two
    started_by b h = rw (startable_first ks t k ek, startable_first js t j ej, h)

    module _ (r : Told) (l m : List Post) (g : GivesTwo (start_two c own other ks js t) r l m) where
      done_by : (b : Bool) → tables ≡ b → r.answer ≡ taken
          → stood_two r (record { posts = l ++ drop k (replicate most blank); n = length ks }) (record { posts = m ++ drop j (replicate most blank); n = length ks }) ≡ start_rows c ks js t
      unfolding start_rows
      done_by true h z =
          let x = (and_facts (circuit_ok c) (table_ok ks && (table_ok js && eqb (length ks) (length js)))).0 h in
          let y = (and_facts (table_ok ks) (table_ok js && eqb (length ks) (length js))).0 x.1 in
          let w = (and_facts (table_ok js) (eqb (length ks) (length js))).0 y.1 in
          let long : length ks ≡ length js = (eqb_facts (length ks) (length js)).0 w.1 in
          rw (h, g.0, g.1, g.2, started_by true h, fresh_first ks t k ek y.0, long, fresh_first js t j ej w.0) refl
      done_by false h z = absurd (let o : r.answer ≡ notValid = rw (g.0, started_by false h) refl in omega (arith, o, z))

      pub start_done : r.answer ≡ taken
          → stood_two r (record { posts = l ++ drop k (replicate most blank); n = length ks }) (record { posts = m ++ drop j (replicate most blank); n = length ks }) ≡ start_rows c ks js t
      start_done = done_by tables refl

      none_by : (b : Bool) → tables ≡ b → (r.answer ≡ taken → ⊥)
          → stood_two r (record { posts = l ++ drop k (replicate most blank); n = 0 }) (record { posts = m ++ drop j (replicate most blank); n = 0 }) ≡ start_rows c ks js t
      unfolding start_rows
      none_by false h z = rw (h, g.0, g.1, g.2, started_by false h, none_first ks t k ek, none_first js t j ej) refl
      none_by true h z = absurd (z (rw (g.0, started_by true h) refl))

      pub start_none : (r.answer ≡ taken → ⊥)
          → stood_two r (record { posts = l ++ drop k (replicate most blank); n = 0 }) (record { posts = m ++ drop j (replicate most blank); n = 0 }) ≡ start_rows c ks js t
      start_none = none_by tables refl
