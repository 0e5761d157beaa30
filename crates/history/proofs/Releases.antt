-- What a release taken found at its post, and so what every release of a history stands behind, in every state reached.
-- A release is taken with the button free, An and KPg up; and whatever befalls a line adds one entry at most, which is no release taken where it is refused from outside.
-- Assumes nothing.
use Prim.Native.Nat.{ℕ, ◌<◌}
use mathlib.Core.Path.{◌≡◌}
use mathlib.Core.Bool.{true, false, ◌||◌}
use mathlib.Core.List.{List, [], ◌∷◌, ◌++◌}
use native.Mathlib.Omega.{arith}
use lib.ListN.{length}
use Rattle.relay.specs.Examples.{Event}
use Rattle.relay.specs.Posts.{at}
use Rattle.relay.specs.Relays.{An, KPg, jam, up}
use Rattle.relay.specs.declared.Pair.{Pair}
use Rattle.relay.specs.declared.Post.{Post}
use Rattle.relay.proofs.Accepted.{event_cases}
use Rattle.relay.proofs.Cases.{Taken, release, garage, accepted-case}
use Rattle.relay.proofs.Truth.{or_facts}
use Rattle.history.specs.History.{Entry, entry, did}
use Rattle.history.specs.Run.{State, answer, step, Befalls, given_event, refused-outside, moved-elsewhere, Reached, at_first, further}
use Rattle.history.proofs.Reopened.{did_facts, none}

-- ---- one release
-- x is a 6 or 7 taken at post i
abbrev pub Releases : ℕ → Entry → Type 0
Releases i x = (did 6 i x || did 7 i x) ≡ true

-- it was taken
released-taken : (i : ℕ) (e : Event) (n : ℕ) → Releases i (entry e n) → n ≡ 0
released-taken i e n =
    or_facts (did 6 i (entry e n)) (did 7 i (entry e n)) (λ d. (did_facts 6 i (entry e n) d).0) (λ d. (did_facts 7 i (entry e n) d).0)

-- what it found at post i: the button free, an announcement recorded and a passage
pub record Found (l : List Post) (i : ℕ) : Type 0 where
  pub place : i < length l
  pub free : up jam (at l i).word ≡ false
  pub recorded : up An (at l i).word ≡ true
  pub passed : up KPg (at l i).word ≡ true

release-found : {l : List Post} {i j : ℕ} {o : Post} {b : Pair} → i < length l → Taken i j (at l i) o 6 b → Found l i
release-found k (release m a f r p c d) = record { place = k; free = f; recorded = r; passed = p }

garage-found : {l : List Post} {i j : ℕ} {o : Post} {b : Pair} → i < length l → Taken i j (at l i) o 7 b → Found l i
garage-found k (garage m a f r p) = record { place = k; free = f; recorded = r; passed = p }

event-found : (i : ℕ) (e : Event) (w : State) → Releases i (entry e (answer e w)) → Found w.line i
event-found i e w =
    event_cases (λ a. Releases i (entry e a.told.answer) → Found w.line i) w.line w.head e.number e.post e.stamp
    (λ c.
    let T = accepted-case w.line w.head e.number e.post e.stamp c in
    or_facts (did 6 i (entry e 0)) (did 7 i (entry e 0))
    (λ d. let f = did_facts 6 i (entry e 0) d in rw f.1.1 at (release-found {l = w.line} c.place (rw f.1.0 at T)))
    (λ d. let f = did_facts 7 i (entry e 0) d in rw f.1.1 at (garage-found {l = w.line} c.place (rw f.1.0 at T))))
    (λ c d. absurd (c (released-taken i e _ d)))

-- ---- every release
-- each release of post i in a history stands behind one with P
abbrev pub Behind : ℕ → (List Entry → Type 0) → List Entry → Type 0
Behind i P h = (later : List Entry) (y : Entry) (rest : List Entry) → h ≡ later ++ (y ∷ rest) → Releases i y → P rest

-- one entry more
behind_more : (i : ℕ) (P : List Entry → Type 0) (n : Entry) (h : List Entry) → (Releases i n → P h) → Behind i P h → Behind i P (n ∷ h)
behind_more i P n h c o [] y rest z d =
    let f : y ≡ n = cc in
    let g : rest ≡ h = cc in
    rw g (c (rw f at d))
behind_more i P n h c o (v ∷ later) y rest z d = let g : h ≡ later ++ (y ∷ rest) = cc in o later y rest g d

-- whatever befalls the line
befalls-behind : (i : ℕ) (P : List Entry → Type 0) {w v : State} → Befalls w v → (Found w.line i → P w.history) → Behind i P w.history
    → Behind i P v.history
unfolding step
befalls-behind i P {w} (given_event e) c o = behind_more i P _ w.history (λ d. c (event-found i e w d)) o
befalls-behind i P {w} (refused-outside e n f) c o =
    behind_more i P _ w.history (λ d. absurd (omega (arith, released-taken i e n d))) o
befalls-behind i P (moved-elsewhere s f g) c o = o

-- in every state reached from one with no history, where P holds of every state that a release finds
pub releases-behind : (i : ℕ) (P : List Entry → Type 0) {b : State} → b.history ≡ []
    → ((w : State) → Reached b w → Found w.line i → P w.history)
    → {w : State} → Reached b w → Behind i P w.history
releases-behind i P e c at_first = λ later y rest z d. absurd (none later y rest (rw e at z))
releases-behind i P e c (further {w} r x) = befalls-behind i P x (c w r) (releases-behind i P e c r)
