-- What working refuses, and with which block, exactly when: by the words of the sheet's blocks, with no event's place in the sheet reckoned.
-- An event of the sheet stands in one block at one place, and each place of a block up to its number is an event; so the first answered event stands in the first block that has one.
-- Assumes nothing.
use Prim.Native.Nat.{ℕ, ◌+◌, ◌-◌, ◌*◌, ◌/◌, ◌%◌, ◌≤◌, ◌<◌}
use mathlib.Core.Path.{◌≡◌, refl, sym, ap, ◌∙◌}
use mathlib.Core.Bool.{false}
use mathlib.Core.List.{List, []}
use native.Mathlib.Omega.{arith}
use borrow.Author.Tests.{eq-eqb, ne_eqb, eqb-true, eqb-false, lt-ltb, le-ltb, ltb-true, ltb-false, leb-true, leb-false, le-leb, lt-leb}
use lib.Dec.{eqb, ltb, leb}
use lib.ListN.{length, get_or}
use Rattle.relay.proofs.Truth.{split, least_or_below}
use Rattle.sheet.proofs.Accepts.{accepted-good}
use Rattle.sheet.proofs.First.{NamedSheet, verdict_iff}
use Rattle.sheet.proofs.Good.{Good}
use Rattle.sheet.proofs.Rooms.{placed, all_events, events-long}
use Rattle.sheet.proofs.Tabs.{get_d_tab}
use Rattle.sheet.specs.Check.{word}
use Rattle.sheet.specs.Entry.{answer_of, answer_in}
use Rattle.sheet.specs.Layout.{per_block, unanswered, contents_wrong, room_short}
use Rattle.sheet.specs.Reading.{verdict, verdict_up_to, blocks_in, entries_in, entry_in, decode}
use Rattle.sheet.specs.declared.Verdict.{Verdict}
use Rattle.working.proofs.Answers.{unanswered-before, answered-there}
use Rattle.working.specs.Working.{first_answered, work_verdict_up_to}

-- no later block before block e has an answer other than 31
abbrev pub Unanswered : List ℕ → ℕ → Type 0
Unanswered s e = (b j : ℕ) → 1 ≤ b → b < e → j < word s b 0 → answer_in (word s b (1 + j * 2)) ≡ unanswered

-- what a verdict on working a sheet of so many tracks at the most may be, with an output of m bytes
pub data NamedWork (most : ℕ) (s : List ℕ) (m : ℕ) : Verdict → Type 0 where
  -- 'reads it whole first'
  unread : {v : Verdict} → (v.number ≡ 0 → ⊥) → NamedSheet most s v → NamedWork most s m v
  -- 'refuses 20 at the first block with an answer other than 31'
  answered : (b j : ℕ) → (verdict_up_to most s).number ≡ 0 → 1 ≤ b → b < blocks_in (length s) → j < word s b 0
      → (answer_in (word s b (1 + j * 2)) ≡ unanswered → ⊥)
      → Unanswered s b
      → NamedWork most s m (verdict contents_wrong b)
  -- 'needs an output at least as long as the sheet (else 21)'
  short : (verdict_up_to most s).number ≡ 0 → Unanswered s (blocks_in (length s)) → m < length s → NamedWork most s m (verdict room_short 0)
  fits : (verdict_up_to most s).number ≡ 0 → Unanswered s (blocks_in (length s)) → length s ≤ m → NamedWork most s m (verdict 0 0)

-- ---- places
module _ (most : ℕ) (s : List ℕ) (z : (verdict_up_to most s).number ≡ 0) where
  abbrev n : ℕ
  n = blocks_in (length s)

  good : Good most n s
  good = accepted-good most s z

  -- each place of a block up to its number is an event's
  event_at : (b j : ℕ) → 1 ≤ b → b < n → j < word s b 0 → (b - 1) * per_block + j < entries_in s
  unfolding entries_in
  event_at b j h k l =
      split (leb n 1)
      (λ e. absurd (omega (arith, leb-true n 1 e)))
      (λ e.
      rw e
      (least_or_below n (b + 1)
      (λ last. let here : word s b 0 ≡ word s (n - 1) 0 = ap (λ (x : ℕ). word s x 0) (omega arith) in omega arith)
      (λ before. omega (arith, good.full b h before))))

  -- its answer
  answer_at : (i : ℕ) → i < entries_in s → answer_of (get_or (decode s).events i []) ≡ answer_in (word s (1 + i / per_block) (1 + i % per_block * 2))
  answer_at i h = rw (all_events s) (ap answer_of (get_d_tab (entry_in s) [] (entries_in s) i h))

  -- an event by its block and place in it
  at_place : (b j : ℕ) → 1 ≤ b → b < n → j < word s b 0
      → answer_of (get_or (decode s).events ((b - 1) * per_block + j) []) ≡ answer_in (word s b (1 + j * 2))
  at_place b j h k l =
      let i = (b - 1) * per_block + j in
      let m = good.many b h k in
      let x : 1 + i / per_block ≡ b = omega arith in
      let y : i % per_block ≡ j = omega arith in
      rw (x, y) at (answer_at i (event_at b j h k l))

  abbrev first : ℕ
  first = first_answered (decode s).events

  long : length (decode s).events ≡ entries_in s
  long = events-long s

  -- no block before block e has an answer other than 31 where its events come before the first answered one
  before : (e : ℕ) → e ≤ n → ((i : ℕ) → i < entries_in s → 1 + i / per_block < e → i < first) → Unanswered s e
  before e h f b j k l m =
      let i = (b - 1) * per_block + j in
      let there = event_at b j k (omega arith) m in
      sym (at_place b j k (omega arith) m)
      ∙ unanswered-before (decode s).events i (f i there (omega (arith, good.many b k (omega arith)))) (omega (arith, long))

  -- and its events come before it where it has none
  after : (e : ℕ) → Unanswered s e → (i : ℕ) → i < entries_in s → 1 + i / per_block < e → i ≡ first → ⊥
  after e u i h k q =
      answered-there (decode s).events (omega (arith, long)) (rw (← q) (answer_at i h ∙ u (1 + i / per_block) (i % per_block) (omega arith) k (placed most s z i h).1))

-- ---- what working refuses
pub work_named : (most : ℕ) (s : List ℕ) (m : ℕ) → NamedWork most s m (work_verdict_up_to most s m)
unfolding work_verdict_up_to
work_named most s m =
    split (eqb (verdict_up_to most s).number 0)
    (λ a.
    let z = eqb-true (verdict_up_to most s).number 0 a in
    split (ltb (first most s z) (length (decode s).events))
    (λ t.
    let l = ltb-true (first most s z) (length (decode s).events) t in
    let p = placed most s z (first most s z) (omega (arith, long most s z)) in
    rw (a, t)
    (answered (1 + first most s z / per_block) (first most s z % per_block) z (omega arith) p.0 p.1
    (λ e. answered-there (decode s).events l (answer_at most s z (first most s z) (omega (arith, long most s z)) ∙ e))
    (before most s z (1 + first most s z / per_block) (omega (arith, p.0)) (λ i h k. omega arith))))
    (λ t.
    let none = ltb-false (first most s z) (length (decode s).events) t in
    let u = before most s z (blocks_in (length s)) (omega arith) (λ i h k. omega (arith, long most s z)) in
    split (leb (length s) m)
    (λ r. rw (a, t, r) (fits z u (leb-true (length s) m r)))
    (λ r. rw (a, t, r) (short z u (leb-false (length s) m r)))))
    (λ a. rw a (unread (eqb-false (verdict_up_to most s).number 0 a) ((verdict_iff most s (verdict_up_to most s)).0 refl)))

-- no event is answered where no block has an answer
pub none : (most : ℕ) (s : List ℕ) (z : (verdict_up_to most s).number ≡ 0) → Unanswered s (blocks_in (length s)) → ltb (first most s z) (length (decode s).events) ≡ false
none most s z u =
    least_or_below (length (decode s).events) (first most s z)
    (λ h. le-ltb (first most s z) (length (decode s).events) h)
    (λ h.
    let l : first most s z < entries_in s = omega (arith, long most s z) in
    absurd (after most s z (blocks_in (length s)) u (first most s z) l (placed most s z (first most s z) l).0 refl))

pub names_work : (most : ℕ) (s : List ℕ) (m : ℕ) (v : Verdict) → NamedWork most s m v → work_verdict_up_to most s m ≡ v
unfolding work_verdict_up_to
names_work most s m v (unread h b) = let e = (verdict_iff most s v).1 b in rw (e, ne_eqb v.number 0 h)
names_work most s m v (answered b j z h k l q u) =
    let i = (b - 1) * per_block + j in
    let there = event_at most s z b j h k l in
    let few = (good most s z).many b h k in
    let least : first most s z ≤ i =
    least_or_below (first most s z) i (λ x. x)
    (λ x. absurd (q (sym (at_place most s z b j h k l) ∙ unanswered-before (decode s).events i x (omega (arith, long most s z))))) in
    let here : 1 + first most s z / per_block ≡ b =
    least_or_below b (1 + first most s z / per_block)
    (λ x. omega arith)
    (λ x. absurd (after most s z b u (first most s z) (omega arith) x refl)) in
    rw (eq-eqb (verdict_up_to most s).number 0 z, lt-ltb (first most s z) (length (decode s).events) (omega (arith, long most s z)), here)
names_work most s m v (short z u h) = rw (eq-eqb (verdict_up_to most s).number 0 z, none most s z u, lt-leb (length s) m h)
names_work most s m v (fits z u h) = rw (eq-eqb (verdict_up_to most s).number 0 z, none most s z u, le-leb (length s) m h)
