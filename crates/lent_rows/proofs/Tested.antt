-- What the calls on two rows rest on beside the laws of the circuit.
--     facing_in        the section of one row that faces a section of the other
--     nowhere_else     the answer on a track that is neither, where the two may be used together
-- Assumes nothing.
use Prim.Native.Nat.{ℕ, ◌<◌}
use native.Mathlib.Omega.{arith}
use mathlib.Core.Path.{◌≡◌}
use mathlib.Core.Bool.{true}
use mathlib.Core.List.{List}
use Rattle.relay.specs.declared.Head.{Head}
use Rattle.relay.specs.declared.Post.{Post}
use Rattle.tracks.specs.Circuit.{facing, valid_two, no_track, nowhere}

-- the section that faces one of a row is one of the other
pub facing_in : (n m i : ℕ) → n ≡ m → i < n → facing n i < m
unfolding facing
facing_in n m i e h = omega arith

-- the answer on a track that is neither, where the two may be used together
pub nowhere_else : (c : ℕ) (l k : List Post) (s : Head) (n : ℕ) → valid_two c l k s ≡ true → nowhere c l k s n ≡ no_track n
unfolding nowhere
nowhere_else c l k s n e = rw e
