-- At the start L and RL are up at every post but the terminus, on each track; and a post's kind stays. So what a refusal of 8 or 9 says was not so at the start, and what a refusal of 13 says was.
-- Assumes nothing.
use Prim.Native.Nat.{ℕ, zero, suc, ◌<◌}
use mathlib.Core.Path.{◌≡◌, refl, sym, ap, ◌∙◌}
use mathlib.Core.Logic.{◌⊎◌, ⊎_elim}
use mathlib.Core.Bool.{true, false}
use mathlib.Core.List.{List, [], ◌∷◌}
use native.Mathlib.Omega.{arith}
use borrow.Author.Tests.{ne_eqb}
use lib.Dec.{eqb}
use lib.ListN.{length, take}
use Rattle.relay.proofs.Fresh.{length-fresh}
use Rattle.relay.proofs.GivenForms.{forms}
use Rattle.relay.proofs.Truth.{split}
use Rattle.relay.proofs.Word.{relays}
use Rattle.relay.specs.Answers.{lDown, rlDown, rlUp}
use Rattle.relay.specs.Choice.{pick}
use Rattle.relay.specs.Kinds.{terminus, ordinary}
use Rattle.relay.specs.Line.{fresh_line}
use Rattle.relay.specs.Posts.{at, form, fresh_word, fresh_post}
use Rattle.relay.specs.Relays.{L, RL, up}
use Rattle.relay.specs.declared.Post.{Post}
use Rattle.sheet.specs.Layout.{two_tracks}
use Rattle.sheet.specs.Sheet.{Tracked, first_kinds, second_kinds, circuit_of}
use Rattle.tracks.specs.Circuit.{track_two}
use Rattle.working.proofs.Steps.{goes_by}
use Rattle.working.specs.Run.{marked, begun_by}
use Rattle.why.specs.Why.{so, begun_of, state_after, line_at, so_after}
use Rattle.why.proofs.Says.{Says}
use Rattle.why.proofs.Track.{run_long, run-kinds}

-- 'Fresh line: L and RL up at all posts but the terminus'
fresh_up : (ks : List ℕ) (p : ℕ) → p < length ks → (form (at (fresh_line ks) p) ≡ terminus → ⊥)
    → (up L (at (fresh_line ks) p).word ≡ true) × (up RL (at (fresh_line ks) p).word ≡ true)
unfolding fresh_line fresh_post fresh_word
fresh_up [] p h n = absurd (omega (arith, h))
fresh_up (k ∷ ks) zero h n = rw (ne_eqb (ordinary k) terminus n) (simp relays, simp relays)
fresh_up (k ∷ ks) (suc p) h n = fresh_up ks p (omega arith) n

-- the kinds of a track; beside the line of one track there is none
abbrev pub kinds_on : Tracked → ℕ → List ℕ
kinds_on t track =
    pick (eqb t.form two_tracks)
    (pick (eqb track track_two) (second_kinds t.table) (first_kinds t.table))
    (pick (eqb track track_two) [] t.table)

-- its line at the start is the fresh one
pub starts-fresh : (t : Tracked) (track : ℕ) → line_at track (begun_of t) ≡ fresh_line (kinds_on t track)
unfolding begun_by fresh_line
starts-fresh t track =
    split (eqb t.form two_tracks)
    (λ y. split (eqb track track_two) (λ z. rw (y, z) refl) (λ z. rw (y, z) refl))
    (λ y. split (eqb track track_two) (λ z. rw (y, z) refl) (λ z. rw (y, z) refl))

-- ---- a post of which a refusal speaks after some events
module _ (t : Tracked) (track n p i : ℕ) (s : Says n (line_at track (state_after t i)) p) where
  abbrev Up : List Post → Type 0
  Up l = (up L (at l p).word ≡ true) × (up RL (at l p).word ≡ true)

  first_up : Up (line_at track (state_after t 0))
  first_up =
      let c = circuit_of t.table in
      let xs = take i (marked t.events t.tracks) in
      let f = starts-fresh t track in
      rw ((goes_by t.form c).run_none (begun_of t), f)
      (fresh_up (kinds_on t track) p
      (omega (arith, s.there, run_long t.form c track (begun_of t) xs, ap (λ (l : List Post). length l) f, length-fresh (kinds_on t track)))
      (λ e. s.not_terminus (sym (forms _).0 ∙ ap ordinary (run-kinds t.form c track (begun_of t) xs p) ∙ ap (λ (l : List Post). form (at l p)) f ∙ e)))

  pub at_start : (n ≡ rlUp → so_after t track n p 0 ≡ true) × ((n ≡ lDown) ⊎ (n ≡ rlDown) → so_after t track n p 0 ≡ false)
  unfolding so
  at_start =
      (λ e. rw e first_up.1, ⊎_elim (λ e. rw (e, first_up.0)) (λ e. rw (e, first_up.1)))
