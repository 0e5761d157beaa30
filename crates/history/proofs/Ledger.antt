-- The ledger: whatever befalls a fresh line, and so after any run from it, in each section, what demand 3 asks.
-- Each holds by the equations of a valid section, once the counts of its records are those of the history.
use Prim.Native.Nat.{ℕ, ◌+◌, ◌<◌}
use mathlib.Core.Path.{◌≡◌, refl, sym, ◌∙◌}
use mathlib.Core.Bool.{true, false≢true}
use mathlib.Core.List.{List}
use native.Mathlib.Omega.{arith}
use lib.ListN.{length}
use Rattle.relay.specs.Examples.{Event}
use Rattle.relay.specs.Line.{startable}
use Rattle.relay.specs.Posts.{at, form}
use Rattle.relay.specs.Relays.{RL, signal, up}
use Rattle.relay.specs.declared.Post.{Post}
use Rattle.relay.proofs.Facts.{PostOk, SectionOk, ValidLine, valid_iff}
use Rattle.relay.proofs.KeptPosts.{not_terminus}
use Rattle.relay.proofs.Truth.{ones, up_or_down, split}
use Rattle.history.specs.History.{Entry, losses, not_restored}
use Rattle.history.specs.Run.{State, run, begun, Reached, at_first}
use Rattle.history.specs.Demand.{Counted, Ends, Conserved, holders, HeldByOne, Locked}
use Rattle.history.proofs.Agrees.{Agrees}
use Rattle.history.proofs.Reached.{run-reached}
use Rattle.history.proofs.Runs.{reached-sound, reached-length, begun-sound, begun-length}
use Rattle.history.proofs.RunsBefore.{Sound}

-- ---- one section
-- the equations of a valid section, with counts for the records'
held_by : {s : ℕ} {h : List Entry} {p d : Post} (ks : List ℕ) → SectionOk p d → Agrees ks s h p d → HeldByOne s h p d
unfolding holders not_restored losses
held_by {p = p} ks r z =
    record {
      restored = omega (arith, up_or_down (up RL p.word));
      occupied = λ e. omega (arith, ones, up_or_down (up RL p.word));
      free = λ e. omega (arith, ones, up_or_down (up RL p.word));
    }

-- an open signal requires a reversed lever, and RL down a normal one
locks : {n i t : ℕ} {p : Post} → PostOk n i t p → i + 1 < n → Locked p
locks {n} {i} {p = p} r k =
    let f = r.word.held-locked (not_terminus n i (form p) r.kind k) in
    record {
      closed = λ e. split (up signal p.word) (λ c. absurd (false≢true (sym (f e).1 ∙ r.word.open_reversed c))) (λ c. c);
      l_down = λ e. (f e).0;
      normal = λ e. (f e).1;
    }

-- ---- in every state w reached from a line started on a row l from a table ks at a stamp t
module _ (l : List Post) (ks : List ℕ) (t : ℕ) (started : startable l ks ≡ true) {w : State} (r : Reached (begun l ks t) w) where
  -- the state is sound, the line is valid, and it has a post for each kind
  sound : Sound ks w
  sound = reached-sound r (begun-sound l ks t started)

  line : ValidLine w.line w.head
  line = (valid_iff _ _).0 sound.valid

  posts : length w.line ≡ length ks
  posts = reached-length r ∙ begun-length l ks t started

  -- a section of the table is one of the line
  within : (s : ℕ) → s + 1 < length ks → s + 1 < length w.line
  within s fits = omega (arith, posts)

  -- the nine counts are the history's
  pub reached-counted : (s : ℕ) → s + 1 < length ks → Counted ks s w.history (at w.line s) (at w.line (s + 1))
  reached-counted s fits = omega (arith, sound.agrees s (within s fits))

  -- the first post and the last have no others
  pub reached-ends : (i : ℕ) → i + 1 ≡ length ks → Ends (at w.line 0) (at w.line i)
  reached-ends i last =
      let z = line.each 0 (omega (arith, line.least)) in
      let y = line.each i (omega (arith, posts)) in
      let f = z.zeros.origin-zero (z.kind.first refl) in
      let g = y.zeros.terminus-zero (y.kind.last (λ e. omega (arith, line.least, posts)) (omega (arith, posts))) in
      omega arith

  -- what was sent is received, lost or under way; what was passed is released or waiting
  pub reached-conserved : (s : ℕ) → s + 1 < length ks → Conserved ks s w.history (at w.line s) (at w.line (s + 1))
  reached-conserved s fits = omega (arith, sound.agrees s (within s fits), line.sections s (within s fits))

  -- an occupied section is held by exactly one thing, a free one by none
  pub reached-held_by_one : (s : ℕ) → s + 1 < length ks → HeldByOne s w.history (at w.line s) (at w.line (s + 1))
  reached-held_by_one s fits = held_by ks (line.sections s (within s fits)) (sound.agrees s (within s fits))

  -- while it is held its semaphore is closed and its lever locked
  pub reached-locked : (s : ℕ) → s + 1 < length ks → Locked (at w.line s)
  reached-locked s fits = locks (line.each s (omega (arith, within s fits))) (within s fits)

-- ---- so after any run from it
module _ (l : List Post) (ks : List ℕ) (t : ℕ) (started : startable l ks ≡ true) (es : List Event) where
  -- the history and the line
  abbrev written : List Entry
  written = (run es (begun l ks t)).history

  abbrev post : ℕ → Post
  post i = at (run es (begun l ks t)).line i

  -- its state is reached
  ran : Reached (begun l ks t) (run es (begun l ks t))
  ran = run-reached es (begun l ks t) at_first

  pub counted : (s : ℕ) → s + 1 < length ks → Counted ks s written (post s) (post (s + 1))
  counted = reached-counted l ks t started ran

  pub ends : (i : ℕ) → i + 1 ≡ length ks → Ends (post 0) (post i)
  ends = reached-ends l ks t started ran

  pub conserved : (s : ℕ) → s + 1 < length ks → Conserved ks s written (post s) (post (s + 1))
  conserved = reached-conserved l ks t started ran

  pub held_by_one : (s : ℕ) → s + 1 < length ks → HeldByOne s written (post s) (post (s + 1))
  held_by_one = reached-held_by_one l ks t started ran

  pub locked : (s : ℕ) → s + 1 < length ks → Locked (post s)
  locked = reached-locked l ks t started ran
