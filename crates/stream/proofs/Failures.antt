-- Which calls fail: a read exactly where it gave an error; a write exactly where it gave an error or took nothing. A reading and a writing that go on come further at each step and stay in their room.
-- Assumes nothing.
use Rattle.std.proofs.Common.{ℕ, zero, suc, ◌≤◌, ◌<◌, ◌≡◌, Result, Ok, Err, Continue, Break, refl, arith}
use Rattle.stream.specs.declared.Unread.{Unread}
use Rattle.stream.specs.Steps.{after_read, after_write, further}

module _ {E : Type 0} (at room : ℕ) where
  -- a read that gave an error is a failed one
  pub failed_read : (e : E) → after_read (Err e) at room ≡ Err (record {})
  unfolding after_read
  failed_read e = refl

  -- and no other is
  pub failed_read_only : (got : Result ℕ E) (f : Unread) → after_read got at room ≡ Err f → (e : E) × (got ≡ Err e)
  unfolding after_read
  failed_read_only (Ok zero) f e = cc e
  failed_read_only (Ok (suc k)) f e = cc e
  failed_read_only (Err x) f e = (x, refl)

  -- a write that gave an error, or took nothing, is a failed one
  pub failed_write : ((e : E) → after_write (Err e) at room ≡ Err (record {})) × (after_write {E = E} (Ok 0) at room ≡ Err (record {}))
  unfolding after_write
  failed_write = (λ e. refl, refl)

  -- a write that took some bytes is not
  pub taken_write : (got : Result ℕ E) (k : ℕ) → got ≡ Ok (suc k) → after_write got at room ≡ Ok (further at room (suc k))
  unfolding after_write
  taken_write got k e = rw e

  -- a reading that goes on stands further in its room, and one that is over stands where it stood
  pub read_further : (got : Result ℕ E) (p : ℕ) → after_read got at room ≡ Ok (Continue p) → at < room → (at < p) × (p ≤ room)
  unfolding after_read
  read_further (Ok zero) p e b = cc e
  read_further (Ok (suc k)) p e b = let q : further at room (suc k) ≡ p = cc e in (omega arith, omega arith)
  read_further (Err x) p e b = cc e

  pub read_over : (got : Result ℕ E) (n : ℕ) → after_read got at room ≡ Ok (Break n) → at ≡ n
  unfolding after_read
  read_over (Ok zero) n e = cc e
  read_over (Ok (suc k)) n e = cc e
  read_over (Err x) n e = cc e

  -- the same of a writing that goes on
  pub written_further : (got : Result ℕ E) (p : ℕ) → after_write got at room ≡ Ok p → at < room → (at < p) × (p ≤ room)
  unfolding after_write
  written_further (Ok zero) p e b = cc e
  written_further (Ok (suc k)) p e b = let q : further at room (suc k) ≡ p = cc e in (omega arith, omega arith)
  written_further (Err x) p e b = cc e
