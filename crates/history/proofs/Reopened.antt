-- A semaphore passed open, at a post that blocks at the signal pedal, stays closed until an announcement is sent and then a release received or a restoration made.
-- L is down after the strike with RL up; nothing raises L while RL is up, RL drops by an announcement only, and rises by a release received or a restoration only.
use Prim.Native.Nat.{ℕ, ◌<◌}
use mathlib.Core.Path.{◌≡◌, refl, sym, ◌∙◌}
use mathlib.Core.Bool.{true, false, false≢true}
use mathlib.Core.List.{List, [], ◌∷◌, ◌++◌}
use native.Mathlib.Omega.{arith}
use lib.ListN.{length, get_or}
use Rattle.relay.specs.Examples.{Event, ev_at}
use Rattle.relay.specs.Kinds.{terminus, ordinary, blocks_at_pedal}
use Rattle.relay.specs.Line.{startable}
use Rattle.relay.specs.Posts.{at, form}
use Rattle.relay.specs.Relays.{L, RL, lever, signal, up}
use Rattle.relay.specs.declared.Pair.{Pair}
use Rattle.relay.specs.declared.Post.{Post}
use Rattle.relay.proofs.Accepted.{event_cases}
use Rattle.relay.proofs.Cases.{Taken, reverse, strike_block, strike_close, strike_idle, accepted-case}
use Rattle.relay.proofs.Facts.{PostOk, valid_iff}
use Rattle.relay.proofs.Frame.{taken_replaces}
use Rattle.relay.proofs.Truth.{facts, split}
use Rattle.relay.proofs.Word.{relays}
use Rattle.history.specs.History.{Entry, entry, did, is_open, announces}
use Rattle.history.specs.Run.{State, given, answer, step, run, begun, Befalls, given_event, refused-outside, moved-elsewhere, Reached, at_first, further}
use Rattle.history.specs.Demand.{Freed}
use Rattle.history.proofs.Reached.{run-reached}
use Rattle.history.proofs.Runs.{reached-sound, begun-sound}
use Rattle.history.proofs.RunsBefore.{Sound}
use Rattle.history.proofs.Kind.{reached-kinds}
use Rattle.history.proofs.Signal.{Says, reached_open}
use Rattle.history.proofs.Turns.{Turn, quiet, sends, frees, turn}

-- ---- since a history base: post q, at i, after the history h
pub data Blocked (i : ℕ) (base h : List Entry) (q : Post) : Type 0 where
  -- no announcement yet
  shut : up L q.word ≡ false → up RL q.word ≡ true → (earlier : List Entry) → h ≡ earlier ++ base → Blocked i base h q
  -- an announcement, and no release received or restoration since
  sent : up RL q.word ≡ false → (between : List Entry) (sending : Entry) (earlier : List Entry)
      → h ≡ between ++ (sending ∷ (earlier ++ base)) → announces i sending ≡ true
      → Blocked i base h q
  -- both
  freed : Freed i h base → Blocked i base h q

-- one entry more
blocked_turns : {i : ℕ} {base h : List Entry} {x : Entry} {q q' : Post} → Blocked i base h q → Turn i h x q q' → Blocked i base (x ∷ h) q'
blocked_turns {x = x} (shut a b e z) (quiet f g) = shut (f a) (g ∙ b) (x ∷ e) (rw z)
blocked_turns {x = x} (shut a b e z) (sends f g) = sent g [] x e (rw z) f
blocked_turns (shut a b e z) (frees f g) = absurd (false≢true (sym f ∙ b))
blocked_turns {x = x} (sent a m y e z c) (quiet f g) = sent (g ∙ a) (x ∷ m) y e (rw z) c
blocked_turns {x = x} (sent a m y e z c) (sends f g) = sent g (x ∷ m) y e (rw z) c
blocked_turns {x = x} (sent a m y e z c) (frees f g) =
    freed (record { later = []; freeing = x; between = m; sending = y; earlier = e; splits = rw z; sent = c; freed = rw z at g })
blocked_turns {x = x} (freed r) t =
    freed
    (record {
      later = x ∷ r.later;
      freeing = r.freeing;
      between = r.between;
      sending = r.sending;
      earlier = r.earlier;
      splits = rw r.splits;
      sent = r.sent;
      freed = r.freed;
    })

-- ---- the two ends
-- a post that blocks at the signal pedal is not the terminus
not_last : (k : ℕ) → blocks_at_pedal k ≡ true → k ≡ terminus → ⊥
unfolding blocks_at_pedal
not_last k a e = false≢true (rw e at a)

-- a strike taken there with the lever reversed: L drops, and RL stays
strike_drops : {i j : ℕ} {p o : Post} {b : Pair} → blocks_at_pedal (form p) ≡ true → up lever p.word ≡ true → Taken i j p o 4 b
    → (up L b.here.word ≡ false) × (up RL b.here.word ≡ up RL p.word)
strike_drops k x (strike_block a b) = (simp relays, simp relays)
strike_drops {p = p} k x (strike_close a b) = absurd (not_last (form p) k a)
strike_drops k x (strike_idle a b) = absurd (false≢true (sym b ∙ x))

-- a strike with the signal open leaves L down and RL up
strike_shuts : (w : State) (i t : ℕ) → blocks_at_pedal (form (at w.line i)) ≡ true → up signal (at w.line i).word ≡ true
    → answer (ev_at 4 i t) w ≡ 0
    → (up L (at (given (ev_at 4 i t) w).line i).word ≡ false) × (up RL (at (given (ev_at 4 i t) w).line i).word ≡ true)
strike_shuts w i t b o =
    event_cases
    (λ a. a.told.answer ≡ 0 → (up L (at a.line i).word ≡ false) × (up RL (at a.line i).word ≡ true))
    w.line w.head 4 i t
    (λ c e.
    let p = c.valid.each i c.place in
    let x : up lever (at w.line i).word ≡ true = p.word.open_reversed o in
    let y : up RL (at w.line i).word ≡ true =
    split (up RL (at w.line i).word) (λ d. d)
    (λ d. absurd (false≢true (sym (p.word.held-locked (not_last (form (at w.line i)) b) d).1 ∙ x))) in
    let f = strike_drops b x (accepted-case w.line w.head 4 i t c) in
    rw (taken_replaces w.line w.head 4 i t c).first (f.0, f.1 ∙ y))
    (λ c e. absurd (c e))

-- a lever reversed at a post but the terminus had L up
reverse_had : {i j : ℕ} {p o : Post} {b : Pair} → (form p ≡ terminus → ⊥) → Taken i j p o 1 b → up L p.word ≡ true
reverse_had k (reverse a b) = b k

-- a lever is reversed with L up
reverse-opens : (w : State) (i t : ℕ) → blocks_at_pedal (form (at w.line i)) ≡ true → answer (ev_at 1 i t) w ≡ 0
    → (i < length w.line) × (up L (at w.line i).word ≡ true)
reverse-opens w i t b =
    event_cases (λ a. a.told.answer ≡ 0 → (i < length w.line) × (up L (at w.line i).word ≡ true)) w.line w.head 1 i t
    (λ c e. (c.place, reverse_had (not_last (form (at w.line i)) b) (accepted-case w.line w.head 1 i t c)))
    (λ c e. absurd (c e))

-- L up is not blocked
unblocked : {n i t : ℕ} {base h : List Entry} {q : Post} → PostOk n i t q → blocks_at_pedal (form q) ≡ true → up L q.word ≡ true
    → Blocked i base h q
    → Freed i h base
unblocked r k o (shut a b e z) = absurd (false≢true (sym a ∙ o))
unblocked {q = q} r k o (sent a m y e z c) = absurd (false≢true (sym (r.word.held-locked (not_last (form q) k) a).0 ∙ o))
unblocked r k o (freed f) = f

-- ---- an entry of event n taken at i
pub did_facts : (n i : ℕ) (x : Entry) → did n i x ≡ true → (x.answer ≡ 0) × ((x.event.number ≡ n) × (x.event.post ≡ i))
unfolding did
did_facts n i x d = simp facts at d

-- what an entry x is at post i, after the history h: q before it, q' after
pub record Comes (i : ℕ) (h : List Entry) (x : Entry) (q q' : Post) : Type 0 where
  pub turns : Turn i h x q q'
  -- a strike taken with the semaphore open shuts it
  pub shuts : did 4 i x ≡ true → is_open i h ≡ true → (up L q'.word ≡ false) × (up RL q'.word ≡ true)
  -- where a lever is reversed it was freed
  pub opens : did 1 i x ≡ true → (base : List Entry) → Blocked i base h q → Freed i h base

-- what is known of a post i that blocks at the signal pedal
pub record Known (ks : List ℕ) (i : ℕ) (w : State) : Type 0 where
  pub sound : Sound ks w
  pub says : Says w
  pub blocks : blocks_at_pedal (form (at w.line i)) ≡ true

-- an event, taken or refused
event-comes : {ks : List ℕ} (i : ℕ) (e : Event) (w : State) → Known ks i w
    → Comes i w.history (entry e (answer e w)) (at w.line i) (at (given e w).line i)
event-comes i e w r =
    record {
      turns = turn e w r.sound i;
      shuts = λ d o.
          let f = did_facts 4 i (entry e (answer e w)) d in
          rw (f.1.0, f.1.1)
          (strike_shuts w i e.stamp r.blocks (r.says i ∙ o) (rw (f.1.0, f.1.1) at f.0));
      opens = λ d base b.
          let f = did_facts 1 i (entry e (answer e w)) d in
          let k = reverse-opens w i e.stamp r.blocks (rw (f.1.0, f.1.1) at f.0) in
          unblocked (((valid_iff _ _).0 r.sound.valid).each i k.0) r.blocks k.1 b;
    }

-- an event refused from outside
outside-comes : (i : ℕ) (e : Event) (n : ℕ) (h : List Entry) (q : Post) → (n ≡ 0 → ⊥) → Comes i h (entry e n) q q
outside-comes i e n h q f =
    record {
      turns = quiet (λ d. d) refl;
      shuts = λ d o. absurd (f (did_facts 4 i (entry e n) d).0);
      opens = λ d base b. absurd (f (did_facts 1 i (entry e n) d).0);
    }

-- ---- any two entries
-- post q, at i, after the history h: since a strike x that passed its semaphore open it is blocked, or freed; and it was freed before an opening y
pub record Order (i : ℕ) (h : List Entry) (q : Post) : Type 0 where
  pub since : (m : List Entry) (x : Entry) (b : List Entry) → h ≡ m ++ (x ∷ b) → did 4 i x ≡ true → is_open i b ≡ true
      → Blocked i (x ∷ b) h q
  pub before : (later : List Entry) (y : Entry) (m : List Entry) (x : Entry) (b : List Entry)
      → h ≡ later ++ (y ∷ (m ++ (x ∷ b))) → did 1 i y ≡ true → did 4 i x ≡ true → is_open i b ≡ true
      → Freed i (m ++ (x ∷ b)) (x ∷ b)

-- one entry n more
module _ {i : ℕ} {h : List Entry} {n : Entry} {q q' : Post} (c : Comes i h n q q') (o : Order i h q) where
  -- it is the strike, or it comes after it
  more_since : (m : List Entry) (x : Entry) (b : List Entry) → n ∷ h ≡ m ++ (x ∷ b) → did 4 i x ≡ true → is_open i b ≡ true
      → Blocked i (x ∷ b) (n ∷ h) q'
  more_since [] x b z d k =
      let f : x ≡ n = cc in
      let g : b ≡ h = cc in
      let s = c.shuts (rw f at d) (rw g at k) in
      shut s.0 s.1 [] z
  more_since (y ∷ m) x b z d k =
      let g : h ≡ m ++ (x ∷ b) = cc in
      blocked_turns (o.since m x b g d k) c.turns

  -- it is the opening, or it comes after it
  more_before : (later : List Entry) (y : Entry) (m : List Entry) (x : Entry) (b : List Entry)
      → n ∷ h ≡ later ++ (y ∷ (m ++ (x ∷ b))) → did 1 i y ≡ true → did 4 i x ≡ true → is_open i b ≡ true
      → Freed i (m ++ (x ∷ b)) (x ∷ b)
  more_before [] y m x b z a d k =
      let f : y ≡ n = cc in
      let g : h ≡ m ++ (x ∷ b) = cc in
      rw g at (c.opens (rw f at a) (x ∷ b) (o.since m x b g d k))
  more_before (v ∷ later) y m x b z a d k =
      let g : h ≡ later ++ (y ∷ (m ++ (x ∷ b))) = cc in
      o.before later y m x b g a d k

  more_order : Order i (n ∷ h) q'
  more_order = record { since = more_since; before = more_before }

-- whatever befalls the line keeps the order
befalls_order : {ks : List ℕ} (i : ℕ) {w v : State} → Befalls w v → Known ks i w → Order i w.history (at w.line i)
    → Order i v.history (at v.line i)
unfolding step
befalls_order i {w} (given_event e) r o = more_order (event-comes i e w r) o
befalls_order i {w} (refused-outside e n f) r o = more_order (outside-comes i e n w.history (at w.line i) (λ z. omega arith)) o
befalls_order i (moved-elsewhere s f g) r o = o

-- a history with no entries has no strike and no opening
pub none : (m : List Entry) (x : Entry) (b : List Entry) → [] ≡ m ++ (x ∷ b) → ⊥
none [] x b z = let o : ◌≡◌ {A = ℕ} 0 1 = cc in omega arith
none (y ∷ m) x b z = let o : ◌≡◌ {A = ℕ} 0 1 = cc in omega arith

-- so that a line just started is in order
begun_order : (i : ℕ) (l : List Post) (ks : List ℕ) (t : ℕ) → Order i (begun l ks t).history (at (begun l ks t).line i)
unfolding begun
begun_order i l ks t =
    record {
      since = λ m x b z d o. absurd (none m x b z);
      before = λ later y m x b z c d o. absurd (none later y (m ++ (x ∷ b)) z);
    }

-- ---- from a line started on a row l from a table ks at a stamp t, at a post i that blocks at the signal pedal
module _ (l : List Post) (ks : List ℕ) (t : ℕ) (f : startable l ks ≡ true) (i : ℕ) (k : blocks_at_pedal (ordinary (get_or ks i 0)) ≡ true) where
  -- every state reached is in order
  reached_order : {w : State} → Reached (begun l ks t) w → Order i w.history (at w.line i)
  reached_order at_first = begun_order i l ks t
  reached_order (further r x) =
      befalls_order i x
      (record {
        sound = reached-sound r (begun-sound l ks t f);
        says = reached_open l ks t f r;
        blocks = rw (reached-kinds l ks t f r i) k;
      })
      (reached_order r)

-- 'At an origin post, or a station that blocks at the signal pedal, a semaphore passed open can't open again before an announcement is sent and then a release received or a restoration made.'
-- In the history of every state reached: x is a strike taken at post i with the semaphore open, y a later 1 taken there
pub reached_not_reopened : (l : List Post) (ks : List ℕ) (t : ℕ) → startable l ks ≡ true → {w : State} → Reached (begun l ks t) w → (i : ℕ)
    → blocks_at_pedal (ordinary (get_or ks i 0)) ≡ true
    → (later : List Entry) (y : Entry) (m : List Entry) (x : Entry) (b : List Entry)
    → w.history ≡ later ++ (y ∷ (m ++ (x ∷ b)))
    → did 1 i y ≡ true → did 4 i x ≡ true → is_open i b ≡ true
    → Freed i (m ++ (x ∷ b)) (x ∷ b)
reached_not_reopened l ks t f r i k = (reached_order l ks t f i k r).before

-- so in the history of any run
pub not_reopened : (l : List Post) (ks : List ℕ) (t : ℕ) → startable l ks ≡ true → (es : List Event) (i : ℕ)
    → blocks_at_pedal (ordinary (get_or ks i 0)) ≡ true
    → (later : List Entry) (y : Entry) (m : List Entry) (x : Entry) (b : List Entry)
    → (run es (begun l ks t)).history ≡ later ++ (y ∷ (m ++ (x ∷ b)))
    → did 1 i y ≡ true → did 4 i x ≡ true → is_open i b ≡ true
    → Freed i (m ++ (x ∷ b)) (x ∷ b)
not_reopened l ks t f es = reached_not_reopened l ks t f (run-reached es (begun l ks t) at_first)
