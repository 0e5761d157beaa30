-- 02, item 5, over positions of the history and over both forms at once: every release follows a passage recorded since the previous one, and an announcement received since then; at an ordinary post the passage follows the announcement.
-- A release taken found An and KPg up, and these are what the history says since the last release.
-- Assumes nothing.
use Prim.Native.Nat.{ℕ, ◌+◌}
use mathlib.Core.Path.{◌≡◌, refl, ◌∙◌}
use mathlib.Core.Bool.{true}
use mathlib.Core.List.{List, ◌∷◌, ◌++◌}
use Rattle.relay.specs.Examples.{Event}
use Rattle.relay.specs.Line.{startable}
use Rattle.relay.specs.Posts.{at}
use Rattle.relay.specs.declared.Post.{Post}
use Rattle.history.specs.Demand.{Follows}
use Rattle.history.specs.History.{Entry, releases, announced, passed}
use Rattle.history.specs.Run.{State, run, begun, Reached, at_first}
use Rattle.history.proofs.Agrees.{recorded}
use Rattle.history.proofs.Reached.{run-reached}
use Rattle.history.proofs.Releases.{Found, releases-behind}
use Rattle.history.proofs.Runs.{reached-sound, begun-sound}
use Rattle.history.proofs.RunsBefore.{Sound}
use Rattle.history.proofs.PassedOrder.{since, announced-since, passed-since, in_order}

-- the history before a release
follows : (ks : List ℕ) (s : ℕ) (h : List Entry) → announced s h ≡ true → passed ks s h ≡ true → Follows ks s h
follows ks s h a p =
    let r = since (passed-since ks s) h p in
    record {
      passage = r;
      announced = since (announced-since s) h a;
      in_order = λ f. since (announced-since s) r.earlier (in_order ks s r.entry r.earlier r.passes f);
    }

-- ---- from a line started on a row l from a table ks at a stamp t
module _ (l : List Post) (ks : List ℕ) (t : ℕ) (started : startable l ks ≡ true) where
  sound : {w : State} → Reached (begun l ks t) w → Sound ks w
  sound r = reached-sound r (begun-sound l ks t started)

  -- what a release finds, the history says
  found-follows : (s : ℕ) (w : State) → Reached (begun l ks t) w → Found w.line (s + 1) → Follows ks s w.history
  found-follows s w r f =
      let z = recorded ks s w.history (at w.line s) (at w.line (s + 1)) ((sound r).agrees s f.place) in
      follows ks s w.history (z.0 ∙ f.recorded) (z.1 ∙ f.passed)

  -- in the history of every state reached: y is a release of the post downstream of section s, taken after the history h
  pub reached-follows : {w : State} → Reached (begun l ks t) w → (s : ℕ) (later : List Entry) (y : Entry) (h : List Entry)
      → w.history ≡ later ++ (y ∷ h) → releases s y ≡ true
      → Follows ks s h
  unfolding begun releases
  reached-follows r s = releases-behind (s + 1) (Follows ks s) refl (found-follows s) r

  -- so in the history of any run
  pub release-follows : (es : List Event) (s : ℕ) (later : List Entry) (y : Entry) (h : List Entry)
      → (run es (begun l ks t)).history ≡ later ++ (y ∷ h) → releases s y ≡ true
      → Follows ks s h
  release-follows es = reached-follows (run-reached es (begun l ks t) at_first)
