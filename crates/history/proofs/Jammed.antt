-- What the jam is for, over positions of the history: at a post whose button is jammed no release is taken, and An does not rise, before the button is freed.
-- A release taken found bit 8 down, which is what the history says; and An says what was received, which nothing is while the history says jammed.
-- Assumes nothing.
use Prim.Native.Nat.{ℕ, ◌+◌, ◌<◌}
use mathlib.Core.Path.{◌≡◌, refl, sym, ◌∙◌}
use mathlib.Core.Bool.{true, false, not, ◌||◌, false≢true}
use mathlib.Core.List.{List, [], ◌∷◌, ◌++◌}
use native.Mathlib.Omega.{arith}
use lib.Dec.{eqb}
use lib.ListN.{length}
use Rattle.relay.specs.Examples.{Event}
use Rattle.relay.specs.Line.{startable}
use Rattle.relay.specs.Posts.{at}
use Rattle.relay.specs.Relays.{An, up}
use Rattle.relay.specs.declared.Post.{Post}
use Rattle.relay.proofs.Truth.{and_facts, not_facts, nor_facts, split}
use Rattle.history.specs.Demand.{Unjammed}
use Rattle.history.specs.History.{Entry, did, is_up, is_jammed, announcement, releases, announced, receives, jam_loses}
use Rattle.history.specs.Run.{State, run, begun, Reached, at_first}
use Rattle.history.proofs.Agrees.{and-false, recorded}
use Rattle.history.proofs.Reached.{run-reached}
use Rattle.history.proofs.JamMoves.{frees}
use Rattle.history.proofs.Releases.{Behind, releases-behind}
use Rattle.history.proofs.Reopened.{did_facts}
use Rattle.history.proofs.Runs.{reached-sound, reached-length, begun-sound, begun-length}
use Rattle.history.proofs.RunsBefore.{Sound}

-- ---- positions
-- freed within a stretch is freed within a longer one
later-on : {i : ℕ} {m : List Entry} (y : Entry) → Unjammed i m → Unjammed i (y ∷ m)
later-on y r =
    record { later = y ∷ r.later; freeing = r.freeing; earlier = r.earlier; splits = rw r.splits; freed = r.freed }

-- a button that jammed at x and is not jammed after m was freed within m
freed-since : (i : ℕ) (m : List Entry) (x : Entry) (b : List Entry) → did 11 i x ≡ true → is_jammed i (m ++ (x ∷ b)) ≡ false → Unjammed i m
unfolding is_up
freed-since i [] x b d e = absurd (false≢true (sym ((nor_facts (did 11 i x) _).0 e).0 ∙ d))
freed-since i (y ∷ m) x b d e =
    split (frees i y)
    (λ f. record { later = []; freeing = y; earlier = m; splits = refl; freed = f })
    (λ f. later-on y (freed-since i m x b d (rw f at ((nor_facts (did 11 i y) _).0 e).1)))

-- ---- an announcement recorded
-- an entry has one number
one_number : (n m i j : ℕ) (x : Entry) → eqb n m ≡ false → did n i x ≡ true → did m j x ≡ false
unfolding did
one_number n m i j x f d = let g = did_facts n i x d in simp (g.1.0, f, and-false)

-- none is received between the jam at x and the freeing, in any history: y receives one after m, so the button was freed within m
pub not_received : (s : ℕ) (y : Entry) (m : List Entry) (x : Entry) (b : List Entry)
    → receives announcement s y (m ++ (x ∷ b)) ≡ true → did 11 (s + 1) x ≡ true
    → Unjammed (s + 1) m
unfolding receives jam_loses
not_received s y m x b e d = freed-since (s + 1) m x b d (simp (and_facts, not_facts) at e).1.0

-- An is up after m and was down when the button jammed at x: it was freed within m
recorded-since : (s : ℕ) (m : List Entry) (x : Entry) (b : List Entry) → did 11 (s + 1) x ≡ true → announced s b ≡ false
    → announced s (m ++ (x ∷ b)) ≡ true
    → Unjammed (s + 1) m
unfolding announced receives jam_loses
recorded-since s [] x b d e a =
    absurd (false≢true (simp (one_number 11 8 (s + 1) s x refl d, e, and-false) at a))
recorded-since s (y ∷ m) x b d e a =
    split (is_jammed (s + 1) (m ++ (x ∷ b)))
    (λ f. later-on y (recorded-since s m x b d e ((and_facts (not (releases s y)) (announced s (m ++ (x ∷ b)))).0 (simp (f, and-false) at a)).1))
    (λ f. later-on y (freed-since (s + 1) m x b d f))

-- ---- from a line started on a row l from a table ks at a stamp t
module _ (l : List Post) (ks : List ℕ) (t : ℕ) (started : startable l ks ≡ true) where
  sound : {w : State} → Reached (begun l ks t) w → Sound ks w
  sound r = reached-sound r (begun-sound l ks t started)

  -- a release stands behind a history that does not say jammed
  free : (i : ℕ) {w : State} → Reached (begun l ks t) w → Behind i (λ h. is_jammed i h ≡ false) w.history
  unfolding begun
  free i = releases-behind i _ refl (λ w r f. sym ((sound r).jams i) ∙ f.free)

  -- no release is taken at a post between its jam and its freeing: in the history of every state reached, x is an 11 taken at post i, y a later 6 or 7 taken there
  pub reached_not_released : {w : State} → Reached (begun l ks t) w → (i : ℕ)
      → (later : List Entry) (y : Entry) (m : List Entry) (x : Entry) (b : List Entry)
      → w.history ≡ later ++ (y ∷ (m ++ (x ∷ b)))
      → (did 6 i y || did 7 i y) ≡ true → did 11 i x ≡ true
      → Unjammed i m
  reached_not_released r i later y m x b z d e = freed-since i m x b e (free i r later y (m ++ (x ∷ b)) z d)

  -- An of the post downstream of a section is up exactly when the history says that it received an announcement since its last release
  pub reached-recorded : {w : State} → Reached (begun l ks t) w → (s : ℕ) → s + 1 < length ks
      → up An (at w.line (s + 1)).word ≡ announced s w.history
  reached-recorded {w} r s fits =
      let k : s + 1 < length w.line = omega (arith, reached-length r, begun-length l ks t started) in
      sym (recorded ks s w.history (at w.line s) (at w.line (s + 1)) ((sound r).agrees s k)).0

  -- An does not rise between the jam and the freeing: x is an 11 taken there when An was down, and An is up in the state reached
  pub reached_not_recorded : {w : State} → Reached (begun l ks t) w → (s : ℕ) → s + 1 < length ks
      → (m : List Entry) (x : Entry) (b : List Entry)
      → w.history ≡ m ++ (x ∷ b)
      → did 11 (s + 1) x ≡ true → announced s b ≡ false → up An (at w.line (s + 1)).word ≡ true
      → Unjammed (s + 1) m
  reached_not_recorded {w} r s fits m x b z d e a = recorded-since s m x b d e (rw z at (sym (reached-recorded r s fits) ∙ a))

  -- so after any run, and in its history
  module _ (es : List Event) where
    pub not_released : (i : ℕ) (later : List Entry) (y : Entry) (m : List Entry) (x : Entry) (b : List Entry)
        → (run es (begun l ks t)).history ≡ later ++ (y ∷ (m ++ (x ∷ b)))
        → (did 6 i y || did 7 i y) ≡ true → did 11 i x ≡ true
        → Unjammed i m
    not_released = reached_not_released (run-reached es (begun l ks t) at_first)

    pub recorded_is : (s : ℕ) → s + 1 < length ks
        → up An (at (run es (begun l ks t)).line (s + 1)).word ≡ announced s (run es (begun l ks t)).history
    recorded_is = reached-recorded (run-reached es (begun l ks t) at_first)

    pub not_recorded : (s : ℕ) → s + 1 < length ks → (m : List Entry) (x : Entry) (b : List Entry)
        → (run es (begun l ks t)).history ≡ m ++ (x ∷ b)
        → did 11 (s + 1) x ≡ true → announced s b ≡ false → up An (at (run es (begun l ks t)).line (s + 1)).word ≡ true
        → Unjammed (s + 1) m
    not_recorded = reached_not_recorded (run-reached es (begun l ks t) at_first)
