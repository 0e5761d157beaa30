-- The words of a sheet's blocks, one law for each place of the layout.
-- Assumes nothing.
use mathlib.Core.Path.{◌≡◌, refl}
use Prim.Native.Nat.{ℕ, zero, suc, ◌+◌, ◌-◌, ◌*◌, ◌/◌, ◌%◌, ◌^◌, ◌≤◌, ◌<◌}
use mathlib.Core.List.{◌∷◌}
use borrow.Author.Tests.{eq-eqb, ne_eqb, lt-ltb, le-ltb}
use lib.ListN.{length, get_or, get_or-eq_default}
use native.Mathlib.Omega.{arith}
use Rattle.sheet.specs.Layout.{check_at, per_block}
use Rattle.sheet.specs.Check.{sum, seal}
use Rattle.sheet.specs.Entry.{entry_word, on_track, stamp_of}
use Rattle.sheet.specs.Sheet.{Tracked, entry_at, track_at, posts_of, held, head_word, events_word, body_word, sheet_word}
use Rattle.sheet.proofs.Bytes.{Below}

-- ---- block 0
module _ (t : Tracked) where
  pub head_first : head_word t 0 ≡ t.form
  unfolding head_word
  head_first = refl

  pub head-count : head_word t 1 ≡ posts_of t.form (length t.table)
  unfolding head_word
  head-count = refl

  pub head-stamp : head_word t 2 ≡ t.stamp
  unfolding head_word
  head-stamp = refl

  pub head-kind : (i : ℕ) → head_word t (3 + i) ≡ get_or t.table i 0
  unfolding head_word
  head-kind i = let e : 3 + i ≡ suc (suc (suc i)) = omega arith in rw e

  pub head-zero : (k : ℕ) → 3 + length t.table ≤ k → head_word t k ≡ 0
  unfolding head_word
  head-zero k h = get_or-eq_default (t.form ∷ posts_of t.form (length t.table) ∷ t.stamp ∷ t.table) 0 {n = k} (omega arith)

  pub head_small : t.form < 2 ^ 32 → posts_of t.form (length t.table) < 2 ^ 32 → t.stamp < 2 ^ 32 → Below (2 ^ 32) t.table → (k : ℕ) → head_word t k < 2 ^ 32
  unfolding head_word
  head_small f n s h zero = f
  head_small f n s h (suc zero) = n
  head_small f n s h (suc (suc zero)) = s
  head_small f n s h (suc (suc (suc i))) = h i

-- ---- event block c
module _ (t : Tracked) (c : ℕ) where
  abbrev m : ℕ
  m = held (length t.events) c

  pub events-count : events_word t c 0 ≡ m
  unfolding events_word
  events-count = refl

  pub events-word : (j : ℕ) → j < m → events_word t c (1 + j * 2) ≡ on_track (entry_word (entry_at t (c * per_block + j))) (track_at t (c * per_block + j))
  unfolding events_word
  events-word j h =
      let o : 1 + j * 2 ≡ 0 → ⊥ = λ e. omega arith in
      let b : (1 + j * 2 - 1) / 2 ≡ j = omega arith in
      rw (ne_eqb (1 + j * 2) 0 o, le-ltb (m * 2) (1 + j * 2) (omega arith), eq-eqb ((1 + j * 2) % 2) 1 (omega arith), b)

  pub events-stamp : (j : ℕ) → j < m → events_word t c (2 + j * 2) ≡ stamp_of (entry_at t (c * per_block + j))
  unfolding events_word
  events-stamp j h =
      let o : 2 + j * 2 ≡ 0 → ⊥ = λ e. omega arith in
      let p : (2 + j * 2) % 2 ≡ 1 → ⊥ = λ e. omega arith in
      let b : (2 + j * 2 - 1) / 2 ≡ j = omega arith in
      rw (ne_eqb (2 + j * 2) 0 o, le-ltb (m * 2) (2 + j * 2) (omega arith), ne_eqb ((2 + j * 2) % 2) 1 p, b)

  pub events-zero : (k : ℕ) → 1 + m * 2 ≤ k → events_word t c k ≡ 0
  unfolding events_word
  events-zero k h =
      let o : k ≡ 0 → ⊥ = λ e. omega arith in
      rw (ne_eqb k 0 o, lt-ltb (m * 2) k (omega arith))

-- ---- any block
module _ (t : Tracked) (b : ℕ) where
  pub body_is : (k : ℕ) → k < check_at → sheet_word t b k ≡ body_word t b k
  unfolding sheet_word
  body_is k h = rw (lt-ltb k check_at h)

  pub check_is : sheet_word t b check_at ≡ seal (sum (body_word t b) check_at) b
  unfolding sheet_word
  check_is = refl

-- a later block's body is that of its events
pub body_events : (t : Tracked) (c k : ℕ) → body_word t (c + 1) k ≡ events_word t c k
body_events t c k =
    let o : c + 1 ≡ 0 → ⊥ = λ e. omega arith in
    let b : c + 1 - 1 ≡ c = omega arith in
    rw (ne_eqb (c + 1) 0 o, b)
