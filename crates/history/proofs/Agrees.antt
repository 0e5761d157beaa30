-- What a history says of a section is what the records of its two posts say, and each event that is taken keeps it so.
-- Each case holds because the test that grows a count of the history is the test that grows the count of the record.
use Prim.Native.Nat.{ℕ, ◌+◌, ◌≤◌, ◌<◌}
use mathlib.Core.Path.{◌≡◌, refl, sym}
use mathlib.Core.Bool.{Bool, true, false, ◌&&◌, ◌||◌}
use mathlib.Core.List.{List, [], ◌∷◌}
use native.Mathlib.Omega.{arith}
use borrow.Author.Tests.{eqb-true}
use lib.Dec.{eqb}
use lib.ListN.{get_or}
use Rattle.relay.specs.Choice.{one, grown}
use Rattle.relay.specs.Events.{pair, may_record}
use Rattle.relay.specs.Examples.{Event, ev_at}
use Rattle.relay.specs.Kinds.{terminus, is_short, ordinary}
use Rattle.relay.specs.Posts.{word_to, more_a, more_x, more_y, more_v, more_g, more_r, more_q, fresh_word, fresh_post}
use Rattle.relay.specs.Relays.{An, KPg, L, RL, W314, W241, jam, up, raise, lower}
use Rattle.relay.specs.Valid.{most_events}
use Rattle.relay.specs.declared.Pair.{Pair}
use Rattle.relay.specs.declared.Post.{Post}
use Rattle.relay.proofs.Cases.{sent_back, under_way, Taken, reverse, normalise, pass, pass-idle, strike_block, strike_close, strike_idle, announce, release, garage, announcement_arrives, announcement-jammed, release_arrives, announcement-lost, release-lost, restore, button_jams, button_freed}
use Rattle.relay.proofs.Facts.{PostOk, SectionOk}
use Rattle.relay.proofs.KeptPosts.{Alike, alike}
use Rattle.relay.proofs.Truth.{nor_facts, ones, up_or_down, split}
use Rattle.relay.proofs.Word.{relays}
use Rattle.history.specs.History.{Entry, entry, did, is_up, is_jammed, announces, releases, last_sent, jam_loses, receives, loses, announced, short_at, records, passed, records_passage, tally, announcements_sent, releases_sent, garage_releases, received, lost, restorations, passages}

-- the section s between the posts p and d of a line of the kinds ks, after the history h
abbrev pub Agrees : List ℕ → ℕ → List Entry → Post → Post → Type 0
Agrees ks s h p d =
    record {
      sent : p.a ≡ announcements_sent s h;
      announcements-lost : p.x ≡ lost 314 s h;
      releases-lost : p.y ≡ lost 241 s h;
      releases-received : p.v ≡ received 241 s h;
      restored : p.g ≡ restorations s h;
      announcements-received : d.r ≡ received 314 s h;
      passages-recorded : d.q ≡ passages ks s h;
      releases-sent : d.e ≡ releases_sent s h;
      garages : d.c ≡ garage_releases s h;
      -- what is under way is what was last sent
      announcement_last : one (up W314 p.word) ≤ one (eqb (last_sent s h) 314);
      release_last : one (up W241 p.word) ≤ one (eqb (last_sent s h) 241);
      -- An and KPg say what was received and passed since the last release
      received-since : one (up An d.word) ≡ one (announced s h);
      passed-since : one (up KPg d.word) ≡ one (passed ks s h);
      -- the post downstream has the form that the table gives it
      table-form : one (is_short d.kind) ≡ one (short_at ks (s + 1));
    }

-- every definition of a history
unfoldable pub counting : Unit {0}
unfolding announcements_sent releases_sent garage_releases received lost restorations passages tally last_sent announced passed records_passage
    receives loses jam_loses is_up records releases announces did
counting = tt

-- ---- where section s lies from the post i that an event names: downstream of it, upstream of it, or apart
abbrev pub Below : ℕ → ℕ → Type 0
Below i s = (eqb i s ≡ true) × (eqb i (s + 1) ≡ false)

abbrev pub Above : ℕ → ℕ → Type 0
Above i s = (eqb i s ≡ false) × (eqb i (s + 1) ≡ true)

abbrev pub Apart : ℕ → ℕ → Type 0
Apart i s = (eqb i s ≡ false) × (eqb i (s + 1) ≡ false)

-- the history with one more event, n at i, taken
abbrev pub more : ℕ → ℕ → ℕ → List Entry → List Entry
more n i t h = entry (ev_at n i t) 0 ∷ h

-- a test that fails, last
pub and-false : (b : Bool) → (b && false) ≡ false
and-false true = refl
and-false false = refl

-- an event changes nothing that the history says of a section apart from the post that it names
pub apart : (ks : List ℕ) (n i t : ℕ) (h : List Entry) (s : ℕ) (u d : Post) → Apart i s → Agrees ks s h u d → Agrees ks s (more n i t h) u d
unfolding counting
apart ks n i t h s u d f z = simp (f.0, f.1, and-false) (omega arith)

-- nor does one that is refused, of any section
pub refused : (ks : List ℕ) (e : Event) (n : ℕ) (h : List Entry) (s : ℕ) (u d : Post) → eqb n 0 ≡ false → Agrees ks s h u d
    → Agrees ks s (entry e n ∷ h) u d
unfolding counting
refused ks e n h s u d f z = simp f (omega arith)

-- ---- what event n at post i keeps, its neighbour being post j: p is the post named, o the neighbour, b the two as the event leaves them
pub data Moves (ks : List ℕ) (n i j t : ℕ) (h : List Entry) (p o : Post) (b : Pair) : Type 0 where
  -- the neighbour is not altered
  single : b.other ≡ o
      → ((s : ℕ) (d : Post) → Below i s → SectionOk p d → Agrees ks s h p d → Agrees ks s (more n i t h) b.here d)
      → ((s : ℕ) (u : Post) → Above i s → Agrees ks s h u p → Agrees ks s (more n i t h) u b.here)
      → Moves ks n i j t h p o b
  -- the neighbour is the post before
  back : i ≡ j + 1
      → ((s : ℕ) → Above i s → SectionOk o p → Agrees ks s h o p → Agrees ks s (more n i t h) b.other b.here)
      → ((s : ℕ) (d : Post) → Below i s → Agrees ks s h p d → Agrees ks s (more n i t h) b.here d)
      → ((s : ℕ) (u : Post) → Apart i s → Agrees ks s h u o → Agrees ks s (more n i t h) u b.other)
      → Moves ks n i j t h p o b
  -- the neighbour is the next post
  onward : j ≡ i + 1
      → ((s : ℕ) → Below i s → SectionOk p o → Agrees ks s h p o → Agrees ks s (more n i t h) b.here b.other)
      → ((s : ℕ) (u : Post) → Above i s → Agrees ks s h u p → Agrees ks s (more n i t h) u b.here)
      → ((s : ℕ) (d : Post) → Apart i s → Agrees ks s h o d → Agrees ks s (more n i t h) b.other d)
      → Moves ks n i j t h p o b

-- what is under way was last sent
last_is : (b : Bool) (m k : ℕ) → one b ≤ one (eqb m k) → b ≡ true → m ≡ k
last_is b m k f e = split (eqb m k) (λ c. eqb-true m k c) (λ c. absurd (omega (arith, ones, rw (e, c) at f)))

announcement-sent : (s : ℕ) (h : List Entry) (p : Post) → one (up W314 p.word) ≤ one (eqb (last_sent s h) 314) → up W314 p.word ≡ true
    → last_sent s h ≡ 314
announcement-sent s h p = last_is (up W314 p.word) (last_sent s h) 314

pub release-sent : (s : ℕ) (h : List Entry) (p : Post) → one (up W241 p.word) ≤ one (eqb (last_sent s h) 241) → up W241 p.word ≡ true
    → last_sent s h ≡ 241
release-sent s h p = last_is (up W241 p.word) (last_sent s h) 241

-- two relays that are the same number are the same
one_same : (b c : Bool) → one b ≡ one c → c ≡ b
one_same true true e = refl
one_same false false e = refl
one_same true false e = absurd (omega arith)
one_same false true e = absurd (omega arith)

-- An and KPg are what the history says, and the form what the table says
pub recorded : (ks : List ℕ) (s : ℕ) (h : List Entry) (u p : Post) → Agrees ks s h u p
    → (announced s h ≡ up An p.word) × (passed ks s h ≡ up KPg p.word) × (short_at ks (s + 1) ≡ is_short p.kind)
recorded ks s h u p z = (
  one_same (up An p.word) (announced s h) z.received-since,
  one_same (up KPg p.word) (passed ks s h) z.passed-since,
  one_same (is_short p.kind) (short_at ks (s + 1)) z.table-form,
)

-- ---- each case of an event
-- 1, 2, 4, 11 and 12 are counted nowhere: the events that are
abbrev counts : ℕ → Bool
counts n = eqb n 3 || (eqb n 5 || (eqb n 6 || (eqb n 7 || (eqb n 8 || (eqb n 9 || eqb n 10)))))

uncounted : (ks : List ℕ) (n i t : ℕ) (h : List Entry) (s : ℕ) (u d : Post) → counts n ≡ false → Agrees ks s h u d → Agrees ks s (more n i t h) u d
unfolding counting
uncounted ks n i t h s u d q z =
    let f = simp nor_facts at q in
    simp (f.0, f.1.0, f.1.1.0, f.1.1.1.0, f.1.1.1.1.0, f.1.1.1.1.1.0, f.1.1.1.1.1.1) (omega arith)

-- the history's jam at the post o downstream of section s is bit 8 of its record
jam-there : (i j s : ℕ) (h : List Entry) (o : Post) → j ≡ i + 1 → up jam o.word ≡ is_jammed j h → Below i s
    → is_jammed (s + 1) h ≡ up jam o.word
jam-there i j s h o k J f = let e : s + 1 ≡ j = omega (arith, eqb-true i s f.0) in rw e (sym J)

module _ {ks : List ℕ} {N T i j t : ℕ} {h : List Entry} {p o : Post} (room : T < most_events) (r : PostOk N i T p) where
  -- an event that is counted nowhere, with a word w that looks from the sections as before
  unseen : {n w : ℕ} → counts n ≡ false → Alike w p.word → Moves ks n i j t h p o (pair (word_to w p) o)
  unseen {n} q e =
      single refl
      (λ s d f k z. simp (e.3, e.4) (uncounted ks n i t h s p d q z))
      (λ s u f z. simp (e.0, e.1) (uncounted ks n i t h s u p q z))

  -- 3, a passage recorded
  passes : may_record p.kind p.word ≡ true → up KPg p.word ≡ false → Moves ks 3 i j t h p o (pair (more_q (word_to (raise KPg p.word) p)) o)
  unfolding counting
  passes b c =
      single refl (λ s d f k z. simp (relays, f.1) (omega arith))
      (λ s u f z.
      let x = recorded ks s h u p z in
      simp (relays, f.1, x.0, x.1, x.2, b, c) (omega (arith, ones, r.counts)))

  -- 3 with no effect
  passes-idle : (may_record p.kind p.word ≡ true → up KPg p.word ≡ true) → Moves ks 3 i j t h p o (pair p o)
  unfolding counting
  passes-idle b =
      single refl (λ s d f k z. simp f.1 (omega arith))
      (λ s u f z.
      let x = recorded ks s h u p z in
      split (may_record p.kind p.word)
      (λ e. simp (f.1, x.0, x.1, x.2, e, b e) (omega (arith, ones)))
      (λ e. simp (f.1, x.0, x.1, x.2, e) (omega (arith, ones))))

  -- 5, an announcement sent
  sends : up RL p.word ≡ true → Moves ks 5 i j t h p o (pair (more_a (word_to (raise W314 (lower L (lower RL p.word))) p)) o)
  unfolding counting
  sends b =
      single refl
      (λ s d f k z. simp (relays, f.0) (omega (arith, ones, r.counts, up_or_down (up RL p.word))))
      (λ s u f z. simp (relays, f.0) (omega arith))

  -- 6 and 7, a release sent
  sends-back : i ≡ j + 1 → up An p.word ≡ true → up KPg p.word ≡ true → Moves ks 6 i j t h p o (pair (sent_back p.c p) (under_way o))
  unfolding counting
  sends-back k b c =
      back k
      (λ s f k z. simp (relays, f.1) (omega (arith, ones, r.counts, up_or_down (up RL o.word))))
      (λ s y f z. simp (relays, f.1) (omega arith))
      (λ s u f z. simp (relays, f.1) (omega arith))

  sends-garage : i ≡ j + 1 → up An p.word ≡ true → up KPg p.word ≡ true → Moves ks 7 i j t h p o (pair (sent_back (grown p.c) p) (under_way o))
  unfolding counting
  sends-garage k b c =
      back k
      (λ s f k z. simp (relays, f.1) (omega (arith, ones, r.counts, up_or_down (up RL o.word))))
      (λ s y f z. simp (relays, f.1) (omega arith))
      (λ s u f z. simp (relays, f.1) (omega arith))

  -- 8, an announcement received
  announcement_in : j ≡ i + 1 → up jam o.word ≡ is_jammed j h → up W314 p.word ≡ true → up jam o.word ≡ false
      → Moves ks 8 i j t h p o (pair (word_to (lower W314 p.word) p) (more_r (word_to (raise An o.word) o)))
  unfolding counting
  announcement_in m J a b =
      onward m
      (λ s f k z. simp (relays, f.0, announcement-sent s h p z.announcement_last a, jam-there i j s h o m J f, b) (omega (arith, ones, r.counts, up_or_down (up RL p.word))))
      (λ s u f z. simp (relays, f.0) (omega arith))
      (λ s d f z. simp (relays, f.0) (omega arith))

  -- 8, an announcement lost to the jam
  announcement_barred : j ≡ i + 1 → up jam o.word ≡ is_jammed j h → up W314 p.word ≡ true → up jam o.word ≡ true
      → Moves ks 8 i j t h p o (pair (more_x (word_to (lower W314 p.word) p)) o)
  unfolding counting
  announcement_barred m J a b =
      single refl
      (λ s d f k z. simp (relays, f.0, announcement-sent s h p z.announcement_last a, jam-there i j s h o m J f, b) (omega (arith, ones, r.counts, up_or_down (up RL p.word))))
      (λ s u f z. simp (relays, f.0) (omega arith))

  -- 8, a release received
  release_in : up W314 p.word ≡ false → up W241 p.word ≡ true
      → Moves ks 8 i j t h p o (pair (more_v (word_to (raise RL (raise L (lower W241 p.word))) p)) o)
  unfolding counting
  release_in a b =
      single refl
      (λ s d f k z. simp (relays, f.0, release-sent s h p z.release_last b, and-false) (omega (arith, ones, r.counts, up_or_down (up RL p.word))))
      (λ s u f z. simp (relays, f.0) (omega arith))

  -- 9, an announcement lost
  announcement-gone : up W314 p.word ≡ true → Moves ks 9 i j t h p o (pair (more_x (word_to (lower W314 p.word) p)) o)
  unfolding counting
  announcement-gone a =
      single refl
      (λ s d f k z. simp (relays, f.0, announcement-sent s h p z.announcement_last a) (omega (arith, ones, r.counts, up_or_down (up RL p.word))))
      (λ s u f z. simp (relays, f.0) (omega arith))

  -- 9, a release lost
  release-gone : up W314 p.word ≡ false → up W241 p.word ≡ true
      → Moves ks 9 i j t h p o (pair (more_y (word_to (lower W241 p.word) p)) o)
  unfolding counting
  release-gone a b =
      single refl
      (λ s d f k z. simp (relays, f.0, release-sent s h p z.release_last b) (omega (arith, ones, r.counts, up_or_down (up RL p.word))))
      (λ s u f z. simp (relays, f.0) (omega arith))

  -- 10, a restoration
  restores : Moves ks 10 i j t h p o (pair (more_g (word_to (raise RL (raise L p.word)) p)) o)
  unfolding counting
  restores =
      single refl
      (λ s d f k z. simp (relays, f.0) (omega (arith, r.counts)))
      (λ s u f z. simp (relays, f.0) (omega arith))

-- every case
pub moves : {ks : List ℕ} {N T n i j t : ℕ} {h : List Entry} {p o : Post} {b : Pair} → T < most_events → PostOk N i T p → up jam o.word ≡ is_jammed j h
    → Taken i j p o n b
    → Moves ks n i j t h p o b
moves {p = p} room r J (reverse a b) = unseen room r refl (simp relays (alike p.word))
moves {p = p} room r J (normalise a) = unseen room r refl (simp relays (alike p.word))
moves room r J (pass a b c) = passes room r b c
moves room r J (pass-idle a b) = passes-idle room r b
moves {p = p} room r J (strike_block a b) = unseen room r refl (simp relays (alike p.word))
moves {p = p} room r J (strike_close a b) = unseen room r refl (simp relays (alike p.word))
moves {p = p} room r J (strike_idle a b) = unseen room r refl (alike p.word)
moves room r J (announce a b c) = sends room r b
moves room r J (release k a m b c d e) = sends-back room r k b c
moves room r J (garage k a m b c) = sends-garage room r k b c
moves room r J (announcement_arrives k a b) = announcement_in room r k J a b
moves room r J (announcement-jammed k a b) = announcement_barred room r k J a b
moves room r J (release_arrives k a b) = release_in room r a b
moves room r J (announcement-lost k a) = announcement-gone room r a
moves room r J (release-lost k a b) = release-gone room r a b
moves room r J (restore k a b c d) = restores room r
moves {p = p} room r J (button_jams a b) = unseen room r refl (simp relays (alike p.word))
moves {p = p} room r J (button_freed a b) = unseen room r refl (simp relays (alike p.word))

-- ---- a fresh line
-- no count has grown, and An, KPg and the W bits are down
pub fresh-agrees : (ks : List ℕ) (s j : ℕ) → Agrees ks s [] (fresh_post j) (fresh_post (get_or ks (s + 1) 0))
unfolding counting fresh_post fresh_word up raise short_at
fresh-agrees ks s j =
    split (eqb (ordinary j) terminus)
    (λ a. split (eqb (ordinary (get_or ks (s + 1) 0)) terminus) (λ b. simp (a, b) (omega arith)) (λ b. simp (a, b) (omega arith)))
    (λ a. split (eqb (ordinary (get_or ks (s + 1) 0)) terminus) (λ b. simp (a, b) (omega arith)) (λ b. simp (a, b) (omega arith)))
