-- A call on the first records of two rows, as many as their lines have, is the call on their lines.
-- Assumes nothing.
use Rattle.std.proofs.Common.{◌≡◌, ℕ, List, ◌++◌, length, take, drop, ◌∙◌}
use Rattle.relay.specs.declared.Head.{Head}
use Rattle.relay.specs.declared.Post.{Post}
use Rattle.relay.specs.declared.Told.{Told}
use Rattle.row.proofs.Lines.{line_first, put_first, first_long}
use Rattle.row.specs.Row.{most, line_of}
use Rattle.row.specs.declared.Row.{Row}
use Rattle.tracks.specs.Circuit.{event_two, GivesTwo}
use Rattle.rows.proofs.Held.{two_long}
use Rattle.rows.specs.Rows.{stood_two, event_rows}

module _ (a b : Row) (fa : length a.posts ≡ most) (fb : length b.posts ≡ most)
    (k j : ℕ) (hk : k ≡ length (line_of a)) (hj : j ≡ length (line_of b)) where
  pub event_first : (c : ℕ) (s : Head) (track n i t : ℕ) (r : Told) (l m : List Post)
      → GivesTwo (event_two c (take k a.posts) (take j b.posts) s track n i t) r l m
      → stood_two r (record { posts = l ++ drop k a.posts; n = a.n }) (record { posts = m ++ drop j b.posts; n = b.n }) ≡ event_rows c a b s track n i t
  unfolding event_rows
  event_first c s track n i t r l m g =
      let e = event_two c (take k a.posts) (take j b.posts) s track n i t in
      let two = two_long c (take k a.posts) (take j b.posts) s track n i t in
      let p : length e.first ≡ k = two.0 ∙ first_long a fa k hk in
      let q : length e.second ≡ j = two.1 ∙ first_long b fb j hj in
      rw (line_first a fa k hk, line_first b fb j hj, g.0, g.1, g.2, put_first a fa k hk e.first p, put_first b fb j hj e.second q)
