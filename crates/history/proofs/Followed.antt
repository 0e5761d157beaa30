-- A relay that a history says, followed through whatever befalls a line: if each case of an event moves it as the entry says, at the post named alone, then in every state reached it is what the history says.
-- It is down on a fresh line, and what is refused, happens elsewhere or names another post does not move it.
-- Assumes nothing.
use Prim.Native.Nat.{ℕ, zero, suc}
use mathlib.Core.Path.{◌≡◌, refl, sym, ◌∙◌}
use mathlib.Core.Bool.{Bool, true, false, ◌&&◌, ◌||◌}
use mathlib.Core.List.{List, [], ◌∷◌}
use native.Mathlib.Omega.{arith}
use borrow.Author.Tests.{eqb-true, eq-eqb, ne_eqb}
use lib.Dec.{eqb, ltb}
use Rattle.relay.specs.Answers.{taken}
use Rattle.relay.specs.Examples.{Event, ev_at}
use Rattle.relay.specs.Line.{neighbour, fresh_line, startable, start_of}
use Rattle.relay.specs.Posts.{at, fresh_post, fresh_word}
use Rattle.relay.specs.Relays.{An, W241, width, up}
use Rattle.relay.specs.declared.Pair.{Pair}
use Rattle.relay.specs.declared.Post.{Post}
use Rattle.relay.proofs.Accepted.{event_cases}
use Rattle.relay.proofs.Cases.{Taken, accepted-case}
use Rattle.relay.proofs.Facts.{WordOk}
use Rattle.relay.proofs.Frame.{taken_replaces}
use Rattle.relay.proofs.Touched.{touched, here-stays, other-stays}
use Rattle.relay.proofs.Truth.{equal_or_not, split}
use Rattle.history.specs.History.{Entry, entry, did, leaves_up, is_up}
use Rattle.history.specs.Run.{State, given, answer, step, begun, Befalls, given_event, refused-outside, moved-elsewhere, Reached}
use Rattle.history.proofs.Agrees.{and-false}
use Rattle.history.proofs.Reached.{always}

-- event n, taken at post m, makes of relay k there what its entry says of post i, which is that post
abbrev pub Moves : ℕ → (ℕ → Entry → Bool) → (ℕ → Entry → Bool) → ℕ → ℕ → ℕ → ℕ → Type 0
Moves k raises drops i t m n =
    (j : ℕ) (p o : Post) (b : Pair) → eqb m i ≡ true → WordOk p.kind p.word → Taken m j p o n b
    → up k b.here.word ≡ leaves_up (raises i) (drops i) (entry (ev_at n m t) 0) (up k p.word)

-- an event whose number passes the test f was taken at post i
abbrev pub taken_by : (ℕ → Bool) → ℕ → Entry → Bool
taken_by f i x = eqb x.answer taken && (f x.event.number && eqb x.event.post i)

-- where none of them was, the event n of them was not
pub not_did : (n : ℕ) (f : ℕ → Bool) (i : ℕ) (x : Entry) → f n ≡ true → taken_by f i x ≡ false → did n i x ≡ false
unfolding did
not_did n f i x g e =
    split (eqb x.event.number n)
    (λ z. let passes : f x.event.number ≡ true = rw (eqb-true x.event.number n z) g in rw z (rw passes at e))
    (λ z. rw z (and-false (eqb x.answer taken)))

-- relay k of post i is raised by the entries that pass `raises i`, dropped by those that pass `drops i`, and by no others; `moves` are the numbers of both
pub record Followed (k : ℕ) (raises drops : ℕ → Entry → Bool) (moves : ℕ → Bool) : Type 0 where
  -- an event of such a number, at the post named
  pub here : (i t m n : ℕ) → moves n ≡ true → Moves k raises drops i t m n
  -- no other event may alter it
  pub still : (n : ℕ) → moves n ≡ false → touched n k ≡ false
  -- nor do other entries pass
  pub only : (i : ℕ) (x : Entry) → taken_by moves i x ≡ false → (raises i x ≡ false) × (drops i x ≡ false)
  -- it is a relay, and none that an event alters at a neighbour
  pub relay : ltb k width ≡ true
  pub own : (eqb k An || eqb k W241) ≡ false
  -- it is down at a fresh post, and past the line
  pub fresh : (kind : ℕ) → up k (fresh_word kind) ≡ false
  pub blank : up k 0 ≡ false

module _ {k : ℕ} {raises drops : ℕ → Entry → Bool} {moves : ℕ → Bool} (F : Followed k raises drops moves) where
  -- an entry that no test passes leaves it as it was
  idle : (i : ℕ) (x : Entry) (b : Bool) → taken_by moves i x ≡ false → leaves_up (raises i) (drops i) x b ≡ b
  idle i x b e = let f = F.only i x e in rw (f.0, f.1)

  -- so does one at another post, and one that is refused
  away : (n i m t : ℕ) (b : Bool) → eqb m i ≡ false → leaves_up (raises i) (drops i) (entry (ev_at n m t) 0) b ≡ b
  away n i m t b f = idle i (entry (ev_at n m t) 0) b (rw f (and-false (moves n)))

  refused : (i : ℕ) (e : Event) (n : ℕ) (b : Bool) → eqb n 0 ≡ false → leaves_up (raises i) (drops i) (entry e n) b ≡ b
  refused i e n b f = idle i (entry e n) b (rw f)

  -- any event, at the post named
  here : (i t m n : ℕ) → Moves k raises drops i t m n
  here i t m n j p o b f r T =
      split (moves n)
      (λ e. F.here i t m n e j p o b f r T)
      (λ e. here-stays T k F.relay (F.still n e) ∙ sym (idle i (entry (ev_at n m t) 0) (up k p.word) (rw e)))

  -- relay k of each post is what the history says
  abbrev pub Says : State → Type 0
  Says w = (i : ℕ) → up k (at w.line i).word ≡ is_up (raises i) (drops i) w.history

  -- any post, by any event
  moved : (e : Event) (w : State) (i : ℕ)
      → up k (at (given e w).line i).word ≡ leaves_up (raises i) (drops i) (entry e (answer e w)) (up k (at w.line i).word)
  moved e w i =
      event_cases
      (λ a. up k (at a.line i).word ≡ leaves_up (raises i) (drops i) (entry e a.told.answer) (up k (at w.line i).word))
      w.line w.head e.number e.post e.stamp
      (λ c.
      let R = taken_replaces w.line w.head e.number e.post e.stamp c in
      let T = accepted-case w.line w.head e.number e.post e.stamp c in
      equal_or_not i e.post
      (λ f. rw (f, R.first) (here e.post e.stamp e.post e.number _ _ _ _ (eq-eqb e.post e.post refl) (c.valid.each e.post c.place).word T))
      (λ f.
      let same = away e.number i e.post e.stamp (up k (at w.line i).word) (ne_eqb e.post i (λ d. f (sym d))) in
      equal_or_not i (neighbour e.number e.post)
      (λ g. rw same (rw (g, R.second) (other-stays T k F.own)))
      (λ g. rw (same, R.rest i f g))))
      (λ c. sym (refused i e _ (up k (at w.line i).word) (ne_eqb _ 0 c)))

  -- every event keeps it so
  pub step-says : (e : Event) (w : State) → Says w → Says (step e w)
  unfolding step is_up
  step-says e w z i = rw (← z i) (moved e w i)

  -- and whatever befalls the line
  pub befalls-says : {w v : State} → Befalls w v → Says w → Says v
  unfolding is_up
  befalls-says {w} (given_event e) z i = step-says e w z i
  befalls-says {w} (refused-outside e n f) z i =
      z i ∙ sym (refused i e n (is_up (raises i) (drops i) w.history) (ne_eqb n 0 (λ c. omega arith)))
  befalls-says (moved-elsewhere s f g) z i = z i

  -- it is down at every post of a fresh line
  fresh_down : (ks : List ℕ) (i : ℕ) → up k (at (fresh_line ks) i).word ≡ false
  unfolding fresh_line fresh_post
  fresh_down [] i = F.blank
  fresh_down (x ∷ ks) zero = F.fresh x
  fresh_down (x ∷ ks) (suc i) = fresh_down ks i

  pub begun-says : (l : List Post) (ks : List ℕ) (t : ℕ) → startable l ks ≡ true → Says (begun l ks t)
  unfolding begun start_of is_up
  begun-says l ks t e i = rw e (fresh_down ks i)

  -- in every state reached from a line started from a table
  pub reached-says : (l : List Post) (ks : List ℕ) (t : ℕ) → startable l ks ≡ true → {w : State} → Reached (begun l ks t) w → Says w
  reached-says l ks t e r = always Says (λ w v x. befalls-says x) r (begun-says l ks t e)
