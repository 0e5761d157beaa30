-- Reading into lent room, by its outcomes: a refusal leaves both rooms, and a good sheet with room enough hands out its kinds and events.
-- Assumes nothing.
use Prim.Native.Nat.{ℕ, ◌+◌, ◌-◌, ◌*◌, ◌/◌, ◌%◌, ◌≤◌, ◌<◌}
use mathlib.Core.Path.{◌≡◌, refl, sym, ap, ◌∙◌}
use mathlib.Core.Bool.{Bool, true, false, ◌&&◌}
use mathlib.Core.List.{List, ◌++◌}
use native.Mathlib.Omega.{arith}
use borrow.Author.Tests.{eq-eqb, ne_eqb, le-leb, lt-leb, leb-true, leb-false}
use lib.Dec.{eqb, leb}
use lib.ListN.{length, drop}
use Rattle.relay.proofs.Truth.{split}
use Rattle.relay.specs.Kinds.{table_ok}
use Rattle.sheet.specs.Layout.{most_entries, per_block, one_track, room_short}
use Rattle.sheet.specs.Words.{tab}
use Rattle.sheet.specs.Check.{word}
use Rattle.sheet.specs.Sheet.{table_words}
use Rattle.sheet.specs.Reading.{form_in, kinds_in, form_ok, blocks_in, words_in, verdict, verdict_up_to, verdict_of, entries_in, entry_in, decode, refused, found, room_for, read_of, Reads}
use Rattle.sheet.specs.Writing.{bytes_for}
use Rattle.sheet.specs.Shape.{NoUpper, Kept}
use Rattle.sheet.specs.declared.Verdict.{Verdict}
use Rattle.sheet.proofs.Accepts.{accepted-good}
use Rattle.sheet.proofs.Good.{Good}
use Rattle.sheet.proofs.UpperBits.{zero-upper}
use Rattle.relay.proofs.Truth.{facts, least_or_below}
use Rattle.sheet.proofs.Table.{fits-few, fits_one, words-few}
use Rattle.sheet.proofs.Tabs.{length-tab}

-- ---- what a good sheet has
module _ (most : ℕ) (s : List ℕ) (z : (verdict_up_to most s).number ≡ 0) where
  abbrev n : ℕ
  n = blocks_in (length s)

  good : Good most n s
  good = accepted-good most s z

  pub posts-few : word s 0 1 ≤ 32
  posts-few = fits-few s good.table

  pub one_block : 512 ≤ length s
  one_block = omega (arith, good.some, good.long)

  pub not_long : length s ≤ 32768
  not_long = omega (arith, good.most, good.long)

  -- its events, and that they stand in its blocks
  entries_by : (b : Bool) → leb n 1 ≡ b → (entries_in s ≤ most_entries) × ((entries_in s + 59) / 60 * 512 + 512 ≤ length s)
  unfolding entries_in
  entries_by true e = rw e (omega arith, omega (arith, one_block))
  entries_by false e =
      let h : 1 < n = leb-false n 1 e in
      let m = good.many (n - 1) (omega arith) (omega arith) in
      let l = good.long in
      let k = good.most in
      rw e (omega arith, omega arith)

  pub entries-few : entries_in s ≤ most_entries
  entries-few = (entries_by (leb n 1) refl).0

  pub entries-within : (entries_in s + 59) / 60 * 512 + 512 ≤ length s
  entries-within = (entries_by (leb n 1) refl).1

  -- event i stands in a block, at a place up to the block's number
  pub placed : (i : ℕ) → i < entries_in s → (1 + i / per_block < n) × (i % per_block < word s (1 + i / per_block) 0)
  unfolding entries_in
  placed i =
      split (leb n 1)
      (λ e. rw e (λ h. absurd (omega arith)))
      (λ e.
      rw e
      (λ h.
      let more : 1 < n = leb-false n 1 e in
      let many = good.many (n - 1) (omega arith) (omega arith) in (
        omega arith,
        least_or_below n (1 + i / per_block + 1)
            (λ last. let here : 1 + i / per_block ≡ n - 1 = omega arith in rw here (omega arith))
            (λ before. rw (good.full (1 + i / per_block) (omega arith) before) (omega arith)),
      )))

  -- and its word has no upper bits
  pub no_upper : NoUpper s (entries_in s)
  no_upper i h =
      let p = placed i h in
      zero-upper _ _ (good.fields (1 + i / per_block) (omega arith) p.0 (i % per_block) p.1)

  pub kept : Kept s
  kept =
      record {
        one_block = one_block;
        not_long = not_long;
        few_words = words-few s posts-few;
        few_entries = entries-few;
        within = entries-within;
        no_upper = no_upper;
      }

  -- its events fill its blocks
  blocks_by : (b : Bool) → leb n 1 ≡ b → bytes_for (entries_in s) ≡ length s
  unfolding entries_in
  blocks_by true e =
      let h : n ≤ 1 = leb-true n 1 e in
      let a = good.some in
      let l = good.long in
      rw e (omega arith)
  blocks_by false e =
      let h : 1 < n = leb-false n 1 e in
      let f = good.few (n - 1) (omega arith) (omega arith) in
      let m = good.many (n - 1) (omega arith) (omega arith) in
      let l = good.long in
      rw e (omega arith)

  pub bytes_are : bytes_for (entries_in s) ≡ length s
  bytes_are = blocks_by (leb n 1) refl

-- ---- what a good sheet of one track has
module _ (s : List ℕ) (z : (verdict_of s).number ≡ 0) where
  pub form_one : form_in s ≡ one_track
  unfolding form_ok
  form_one = let f = simp facts at (accepted-good one_track s z).first in omega (arith, f.0, f.1)

  pub table-right : table_ok (kinds_in s) ≡ true
  table-right = sym (fits_one s (λ e. omega (arith, form_one))) ∙ (accepted-good one_track s z).table

-- ---- what it says
module _ (s : List ℕ) where
  pub all_kinds : (decode s).kinds ≡ tab (λ i. word s 0 (3 + i)) (word s 0 1)
  unfolding decode
  all_kinds = refl

  pub all_events : (decode s).events ≡ tab (entry_in s) (entries_in s)
  unfolding decode
  all_events = refl

  pub kinds-long : length (decode s).kinds ≡ word s 0 1
  unfolding decode
  kinds-long = length-tab (λ i. word s 0 (3 + i)) (word s 0 1)

  pub events-long : length (decode s).events ≡ entries_in s
  unfolding decode
  events-long = length-tab (entry_in s) (entries_in s)

  pub stamp_is : (decode s).stamp ≡ word s 0 2
  unfolding decode
  stamp_is = refl

  pub found_is : found (decode s) ≡ record { number = 0; block = 0; position = 0; posts = word s 0 1; stamp = word s 0 2; events = entries_in s }
  found_is = rw (kinds-long, events-long, stamp_is)

  -- what the loops store is what is handed out
  pub kinds_out : (ks : List ℕ) (n : ℕ) → n ≡ word s 0 1 → tab (λ i. word s 0 (3 + i)) n ++ drop n ks ≡ (decode s).kinds ++ drop (length (decode s).kinds) ks
  kinds_out ks n e = rw (kinds-long, e) (ap (λ (l : List ℕ). l ++ drop (word s 0 1) ks) (sym all_kinds))

  pub events_out : (es : List (List ℕ)) (m : ℕ) → m ≡ entries_in s → tab (entry_in s) m ++ drop m es ≡ (decode s).events ++ drop (length (decode s).events) es
  events_out es m e = rw (events-long, e) (ap (λ (l : List (List ℕ)). l ++ drop (entries_in s) es) (sym all_events))

-- ---- the outcomes
module _ (s : List ℕ) (ks : List ℕ) (es : List (List ℕ)) where
  pub read-refused : (v : Verdict) → v ≡ verdict_of s → (v.number ≡ 0 → ⊥) → Reads s (refused v) ks ks es es
  unfolding read_of
  read-refused v e h = let no : eqb v.number 0 ≡ false = ne_eqb v.number 0 h in (rw (← e, no), rw no, rw no)

  module _ (z : (verdict_of s).number ≡ 0) where
    pub read_short : room_for (decode s) (length ks) (length es) ≡ false → Reads s (refused (verdict room_short 0)) ks ks es es
    unfolding read_of
    read_short e = (rw (eq-eqb (verdict_of s).number 0 z, e), refl, refl)

    pub read_found : room_for (decode s) (length ks) (length es) ≡ true
        → Reads s (found (decode s)) ks ((decode s).kinds ++ drop (length (decode s).kinds) ks) es ((decode s).events ++ drop (length (decode s).events) es)
    unfolding read_of
    read_found e = (rw (eq-eqb (verdict_of s).number 0 z, e), refl, refl)

  pub room-kinds : length ks < word s 0 1 → room_for (decode s) (length ks) (length es) ≡ false
  unfolding room_for
  room-kinds h = rw (kinds-long s, lt-leb (word s 0 1) (length ks) h)

  module _ (k : word s 0 1 ≤ length ks) where
    pub room-events : length es < entries_in s → room_for (decode s) (length ks) (length es) ≡ false
    unfolding room_for
    room-events h = rw (kinds-long s, events-long s, le-leb (word s 0 1) (length ks) k, lt-leb (entries_in s) (length es) h)

    pub room-both : entries_in s ≤ length es → room_for (decode s) (length ks) (length es) ≡ true
    unfolding room_for
    room-both h = rw (kinds-long s, events-long s, le-leb (word s 0 1) (length ks) k, le-leb (entries_in s) (length es) h)

-- the rooms of a good sheet of one track, whose table is its kinds
module _ (s : List ℕ) (z : (verdict_of s).number ≡ 0) where
  pub words_one : words_in s ≡ word s 0 1
  unfolding table_words
  words_one = rw (form_one s z)

  pub room_one : (a b : ℕ) → room_for (decode s) a b ≡ (leb (words_in s) a && leb (entries_in s) b)
  unfolding room_for
  room_one a b = rw (kinds-long s, events-long s, words_one)
