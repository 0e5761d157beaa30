-- One event on a line: the records that it leaves say of each section what the history says with its entry in front. And nothing that befalls a line alters how many posts it has.
-- By where the event's two posts lie beside the section: proofs/Agrees.antt says what becomes of the section then.
use Prim.Native.Nat.{ℕ, ◌+◌, ◌<◌}
use mathlib.Core.Path.{◌≡◌, refl, sym, ap, ◌∙◌}
use mathlib.Core.Bool.{true}
use mathlib.Core.List.{List}
use native.Mathlib.Omega.{arith}
use borrow.Author.Tests.{eq-eqb, ne_eqb}
use lib.ListN.{length}
use Rattle.relay.specs.Examples.{Event}
use Rattle.relay.specs.Line.{neighbour, changed_line}
use Rattle.relay.specs.Posts.{at}
use Rattle.relay.specs.Relays.{jam, up}
use Rattle.relay.specs.Valid.{valid}
use Rattle.relay.specs.declared.Head.{Head}
use Rattle.relay.specs.declared.Pair.{Pair}
use Rattle.relay.specs.declared.Post.{Post}
use Rattle.relay.proofs.Accepted.{event_cases}
use Rattle.relay.proofs.Cases.{accepted-case}
use Rattle.relay.proofs.Facts.{SectionOk}
use Rattle.relay.proofs.Frame.{Replaced, taken_replaces, length-stays}
use Rattle.relay.proofs.Truth.{equal_or_not}
use Rattle.history.specs.History.{Entry, is_jammed}
use Rattle.history.specs.Run.{State, next, step, Befalls, given_event, refused-outside, moved-elsewhere}
use Rattle.history.proofs.Agrees.{Agrees, Below, Above, Apart, more, apart, refused, Moves, single, back, onward, moves}

-- ---- the line l' that an event n at post i leaves of l, its neighbour being post j
-- where the neighbour is as it was, no post but the one named is altered
unaltered : {i j : ℕ} {l l' : List Post} {p q : Post} → Replaced l l' i j p q → q ≡ at l j → (k : ℕ) → (k ≡ i → ⊥) → at l' k ≡ at l k
unaltered {j = j} R z k f = equal_or_not k j (λ e. rw e (R.second ∙ z)) (λ e. R.rest k f e)

module _ {i j : ℕ} {b : Pair} (ks : List ℕ) (n t : ℕ) (h : List Entry) (l l' : List Post) (R : Replaced l l' i j b.here b.other) (s : ℕ) (k : SectionOk (at l s) (at l (s + 1))) (z : Agrees ks s h (at l s) (at l (s + 1))) where
  -- what is to be shown of section s
  abbrev Moved : Type 0
  Moved = Agrees ks s (more n i t h) (at l' s) (at l' (s + 1))

  -- the post named is upstream of it
  below-moves : Below i s → i ≡ s → Moves ks n i j t h (at l i) (at l j) b → Moved
  below-moves f e (single o g a) =
      let w : at l s ≡ at l i = ap (at l) (sym e) in
      let x : at l' s ≡ b.here = ap (at l') (sym e) ∙ R.first in
      let y : at l' (s + 1) ≡ at l (s + 1) = unaltered R o (s + 1) (λ c. omega arith) in
      rw (x, y) (g s (at l (s + 1)) f (rw w at k) (rw w at z))
  below-moves f e (back q a g p) =
      let w : at l s ≡ at l i = ap (at l) (sym e) in
      let x : at l' s ≡ b.here = ap (at l') (sym e) ∙ R.first in
      let y : at l' (s + 1) ≡ at l (s + 1) = R.rest (s + 1) (λ c. omega arith) (λ c. omega arith) in
      rw (x, y) (g s (at l (s + 1)) f (rw w at z))
  below-moves f e (onward q g a p) =
      let v : s + 1 ≡ j = omega arith in
      let w : at l s ≡ at l i = ap (at l) (sym e) in
      let x : at l' s ≡ b.here = ap (at l') (sym e) ∙ R.first in
      let y : at l' (s + 1) ≡ b.other = ap (at l') v ∙ R.second in
      rw (x, y) (g s f (rw (w, ap (at l) v) at k) (rw (w, ap (at l) v) at z))

  -- the post named is downstream of it
  above-moves : Above i s → i ≡ s + 1 → Moves ks n i j t h (at l i) (at l j) b → Moved
  above-moves f e (single o g a) =
      let w : at l (s + 1) ≡ at l i = ap (at l) (sym e) in
      let x : at l' (s + 1) ≡ b.here = ap (at l') (sym e) ∙ R.first in
      let y : at l' s ≡ at l s = unaltered R o s (λ c. omega arith) in
      rw (x, y) (a s (at l s) f (rw w at z))
  above-moves f e (back q a g p) =
      let v : s ≡ j = omega arith in
      let w : at l (s + 1) ≡ at l i = ap (at l) (sym e) in
      let x : at l' (s + 1) ≡ b.here = ap (at l') (sym e) ∙ R.first in
      let y : at l' s ≡ b.other = ap (at l') v ∙ R.second in
      rw (x, y) (a s f (rw (w, ap (at l) v) at k) (rw (w, ap (at l) v) at z))
  above-moves f e (onward q g a p) =
      let w : at l (s + 1) ≡ at l i = ap (at l) (sym e) in
      let x : at l' (s + 1) ≡ b.here = ap (at l') (sym e) ∙ R.first in
      let y : at l' s ≡ at l s = R.rest s (λ c. omega arith) (λ c. omega arith) in
      rw (x, y) (a s (at l s) f (rw w at z))

  -- the post named is neither
  apart-moves : Apart i s → (i ≡ s → ⊥) → (i ≡ s + 1 → ⊥) → Moves ks n i j t h (at l i) (at l j) b → Moved
  apart-moves f d e (single o g a) =
      let x : at l' s ≡ at l s = unaltered R o s (λ c. d (sym c)) in
      let y : at l' (s + 1) ≡ at l (s + 1) = unaltered R o (s + 1) (λ c. e (sym c)) in
      rw (x, y) (apart ks n i t h s (at l s) (at l (s + 1)) f z)
  apart-moves f d e (back q a g p) =
      let x : at l' s ≡ at l s = R.rest s (λ c. d (sym c)) (λ c. e (omega arith)) in
      equal_or_not (s + 1) j
      (λ v.
      let y : at l' (s + 1) ≡ b.other = ap (at l') v ∙ R.second in
      rw (x, y) (p s (at l s) f (rw (ap (at l) v) at z)))
      (λ v.
      let y : at l' (s + 1) ≡ at l (s + 1) = R.rest (s + 1) (λ c. e (sym c)) v in
      rw (x, y) (apart ks n i t h s (at l s) (at l (s + 1)) f z))
  apart-moves f d e (onward q g a p) =
      let y : at l' (s + 1) ≡ at l (s + 1) = R.rest (s + 1) (λ c. e (sym c)) (λ c. d (omega arith)) in
      equal_or_not s j
      (λ v.
      let x : at l' s ≡ b.other = ap (at l') v ∙ R.second in
      rw (x, y) (p s (at l (s + 1)) f (rw (ap (at l) v) at z)))
      (λ v.
      let x : at l' s ≡ at l s = R.rest s (λ c. d (sym c)) v in
      rw (x, y) (apart ks n i t h s (at l s) (at l (s + 1)) f z))

  -- wherever it lies
  section-moves : Moves ks n i j t h (at l i) (at l j) b → Moved
  section-moves m =
      equal_or_not i s
      (λ e. below-moves (eq-eqb i s e, ne_eqb i (s + 1) (λ c. omega arith)) e m)
      (λ d.
      equal_or_not i (s + 1)
      (λ e. above-moves (ne_eqb i s d, eq-eqb i (s + 1) e) e m)
      (λ e. apart-moves (ne_eqb i s d, ne_eqb i (s + 1) e) d e m))

-- ---- a state
-- the line is valid, and each button and each section agrees with the history
pub record Sound (ks : List ℕ) (w : State) : Type 0 where
  pub valid : valid w.line w.head ≡ true
  pub jams : (i : ℕ) → up jam (at w.line i).word ≡ is_jammed i w.history
  pub agrees : (s : ℕ) → s + 1 < length w.line → Agrees ks s w.history (at w.line s) (at w.line (s + 1))

-- an event keeps the agreement of each section
pub event-agrees : (ks : List ℕ) (e : Event) (h : List Entry) (l : List Post) (v : Head) → ((i : ℕ) → up jam (at l i).word ≡ is_jammed i h)
    → (s : ℕ) → s + 1 < length l → Agrees ks s h (at l s) (at l (s + 1))
    → Agrees ks s (step e (record { history = h; line = l; head = v })).history
    (at (step e (record { history = h; line = l; head = v })).line s)
    (at (step e (record { history = h; line = l; head = v })).line (s + 1))
unfolding step
event-agrees ks e h l v J s k z =
    event_cases (λ a. Agrees ks s (next e h a).history (at a.line s) (at a.line (s + 1))) l v e.number e.post e.stamp
    (λ c.
    section-moves ks e.number e.stamp h l (changed_line l e.number e.post) (taken_replaces l v e.number e.post e.stamp c)
    s (c.valid.sections s k) z
    (moves c.room (c.valid.each e.post c.place) (J (neighbour e.number e.post)) (accepted-case l v e.number e.post e.stamp c)))
    (λ c. refused ks e _ h s (at l s) (at l (s + 1)) (ne_eqb _ 0 c) z)

-- no event alters the number of posts
pub step-length : (e : Event) (w : State) → length (step e w).line ≡ length w.line
unfolding step
step-length e w = length-stays w.line w.head e.number e.post e.stamp

-- nothing alters the number of posts
pub befalls-length : {w v : State} → Befalls w v → length v.line ≡ length w.line
befalls-length {w} (given_event e) = step-length e w
befalls-length (refused-outside e n f) = refl
befalls-length (moved-elsewhere s f g) = refl
