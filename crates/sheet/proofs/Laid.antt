-- The blocks of a sheet laid one after the other are its bytes, and each number of writing with the output that goes with it.
-- Assumes nothing.
use mathlib.Core.Path.{◌≡◌, refl, sym, ap, ap₂, ◌∙◌}
use Prim.Native.Nat.{ℕ, zero, suc, ◌+◌, ◌-◌, ◌*◌, ◌/◌, ◌%◌, ◌≤◌, ◌<◌}
use mathlib.Core.Bool.{true, false, and-true}
use mathlib.Core.Logic.{◌↔◌}
use mathlib.Core.List.{List, [], ◌++◌}
use borrow.Author.Tests.{eq-eqb, le-leb, lt-leb}
use lib.Dec.{eqb, ltb}
use lib.ListN.{length, get_or, take, drop, replicate, length-replicate, get_or-replicate, get_or-eq_default}
use lib.Seq.{length-take-le}
use native.Mathlib.Omega.{arith}
use Rattle.relay.specs.Choice.{pick}
use Rattle.relay.specs.Kinds.{count_fits, kinds_fit, table_ok}
use Rattle.relay.proofs.Truth.{split, least_or_below}
use Rattle.sheet.specs.Layout.{check_at, block_words, per_block, one_track}
use Rattle.sheet.specs.Words.{bytes, tab}
use Rattle.sheet.specs.Check.{seal}
use Rattle.sheet.specs.Sheet.{Sheet, Tracked, of_one, blocks_for, head_word, events_word, body_word, sheet_word, encode, encode_tracked}
use Rattle.sheet.specs.Reading.{form_ok, tables_ok, table_fits}
use Rattle.sheet.specs.Puts.{puts, put_block, head_only, events_only}
use Rattle.sheet.specs.Writing.{all_in_fields, all_below, tracks_fit, may_start, all_fit, bytes_for, size_number, tracked_number, leaves, WritesTracked, Lays, write_number, written, Writes}
use Rattle.sheet.proofs.Sums.{sum_agree}
use Rattle.sheet.proofs.Puts.{puts_agree, puts-on, puts_all}
use Rattle.sheet.proofs.BlockWords.{body_events}
use Rattle.sheet.proofs.Tabs.{length-tab, get_d_tab, tab_is}
use Rattle.sheet.proofs.Along.{both}
use Rattle.sheet.proofs.Table.{few}

-- a right table has at most 32 kinds, and of two tracks at most 65 words
pub table-few : (ks : List ℕ) → table_ok ks ≡ true → length ks ≤ 32
unfolding table_ok
table-few ks e = few (length ks) (both (count_fits (length ks)) (kinds_fit (length ks) 0 ks) e).0

pub fits-long : (form : ℕ) (ks : List ℕ) → table_fits form ks ≡ true → length ks ≤ 65
unfolding table_fits tables_ok
fits-long form ks =
    split (eqb form 2)
    (λ e. rw e (λ f.
    let n = length ks / 2 in
    let h = (both (table_ok (take n ks)) _ (both (eqb (length ks % 2) 1) _ f).1).0 in
    let l : length (take n ks) ≡ n = length-take-le n ks (omega arith) in
    omega (arith, rw l at (table-few (take n ks) h))))
    (λ e. rw e (λ f. omega (arith, table-few ks f)))

module _ (t : Tracked) where
  -- word i of the sheet, and word i past block 0
  abbrev pub flat : ℕ → ℕ
  flat i = sheet_word t (i / block_words) (i % block_words)

  abbrev pub later : ℕ → ℕ
  later i = flat (128 + i)

  -- block 0 says no more than the form, the stamp and the table, a later one no more than the events and their tracks
  head_same : (k : ℕ) → sheet_word (head_only t.form t.stamp t.table) 0 k ≡ sheet_word t 0 k
  unfolding sheet_word head_word
  head_same k = refl

  body_same : (c k : ℕ) → body_word (events_only t.events t.tracks) (c + 1) k ≡ body_word t (c + 1) k
  unfolding events_word
  body_same c k = body_events (events_only t.events t.tracks) c k ∙ sym (body_events t c k)

  events_same : (c k : ℕ) → sheet_word (events_only t.events t.tracks) (c + 1) k ≡ sheet_word t (c + 1) k
  unfolding sheet_word
  events_same c k =
      ap₂ (pick (ltb k check_at)) (body_same c k) (ap (λ (n : ℕ). seal n (c + 1)) (sum_agree _ _ check_at (λ j l. body_same c j)))

  -- one event block more
  pub block_more : (c : ℕ) (d : List ℕ) → put_block (events_only t.events t.tracks) (c + 1) (puts later 512 (c * 128) d) ≡ puts later 512 ((c + 1) * 128) d
  block_more c d =
      let o : (c + 1) * 512 ≡ 512 + c * 128 * 4 = omega arith in
      let e : c * 128 + 128 ≡ (c + 1) * 128 = omega arith in
      let at : (i : ℕ) → i < 128 → sheet_word (events_only t.events t.tracks) (c + 1) i ≡ later (c * 128 + i) = λ i h.
      let b : (128 + (c * 128 + i)) / 128 ≡ c + 1 = omega arith in
      let k : (128 + (c * 128 + i)) % 128 ≡ i = omega arith in
      events_same c i ∙ rw (b, k) in
      rw o (puts-on _ later 512 (c * 128) 128 d at ∙ rw e)

  -- block 0 and then n event blocks
  pub laid : (n : ℕ) (d : List ℕ) → n + 1 ≡ blocks_for (length t.events) → bytes_for (length t.events) ≤ length d
      → puts later 512 (n * 128) (put_block (head_only t.form t.stamp t.table) 0 d) ≡ encode_tracked t ++ drop (bytes_for (length t.events)) d
  unfolding encode_tracked
  laid n d e h =
      let w = blocks_for (length t.events) * 128 in
      let m : 128 + n * 128 ≡ w = omega arith in
      let f : w * 4 ≡ bytes_for (length t.events) = omega arith in
      let at : (i : ℕ) → i < 128 → sheet_word (head_only t.form t.stamp t.table) 0 i ≡ flat i = λ i l.
      let b : i / 128 ≡ 0 = omega arith in
      let k : i % 128 ≡ i = omega arith in
      head_same i ∙ rw (b, k) in
      let all : puts flat 0 w d ≡ bytes (tab flat w) ++ drop (bytes_for (length t.events)) d =
      puts_all flat w d (omega arith) ∙ rw f in
      ap (puts later 512 (n * 128)) (puts_agree _ flat 0 128 d at) ∙ puts-on later flat 0 128 (n * 128) d (λ i l. refl) ∙ rw m all

-- ---- each number of writing, and the output
module _ (t : Tracked) (out : List ℕ) where
  left : (n : ℕ) → eqb n 0 ≡ false → leaves t n out ≡ out
  unfolding leaves
  left n e = rw e

  pub too_many : 3780 < length t.events → Lays t 18 out out
  unfolding size_number
  too_many h = (rw (lt-leb (length t.events) 3780 h), sym (left 18 refl))

  module _ (h : length t.events ≤ 3780) where
    pub no_room : length out < bytes_for (length t.events) → Lays t 21 out out
    unfolding size_number
    no_room l = (rw (le-leb (length t.events) 3780 h, lt-leb (bytes_for (length t.events)) (length out) l), sym (left 21 refl))

    pub wrote : bytes_for (length t.events) ≤ length out → Lays t 0 out (encode_tracked t ++ drop (bytes_for (length t.events)) out)
    unfolding size_number leaves
    wrote l = (rw (le-leb (length t.events) 3780 h, le-leb (bytes_for (length t.events)) (length out) l), refl)

  pub no_table : may_start t ≡ false → WritesTracked t 1 out out
  unfolding tracked_number
  no_table a = (rw a, sym (left 1 refl))

  module _ (a : may_start t ≡ true) where
    pub no_fields : all_fit t ≡ false → WritesTracked t 20 out out
    unfolding tracked_number
    no_fields b = (rw (a, b), sym (left 20 refl))

    pub passes : all_fit t ≡ true → (r : ℕ) (out' : List ℕ) → Lays t r out out' → WritesTracked t r out out'
    unfolding tracked_number
    passes b r out' l = (rw (a, b) l.0, l.1)

-- ---- a sheet of one track is one of them
abbrev nought : ℕ → List ℕ
nought n = replicate n 0

nought-long : (n : ℕ) → length (nought n) ≡ n
nought-long n = let z : ℕ = 0 in length-replicate n z

zero_at : (n i : ℕ) → get_or (nought n) i 0 ≡ 0
zero_at n i =
    least_or_below n i
    (λ h. get_or-eq_default (nought n) 0 {n = i} (rw (nought-long n) h))
    (λ h. get_or-replicate n i 0 0 h)

all_zero : (n : ℕ) → all_below 1 (nought n) ≡ true
unfolding all_below
all_zero zero = refl
all_zero (suc n) = all_zero n

module _ (t : Sheet) where
  -- it says no more than it says with no tracks at all
  abbrev pub bare : Tracked
  bare = record { form = one_track; stamp = t.stamp; table = t.kinds; events = t.events; tracks = [] }

  bare-word : (b k : ℕ) → body_word bare b k ≡ body_word (of_one t) b k
  unfolding events_word head_word
  bare-word b k = rw (zero_at (length t.events) ((b - 1) * per_block + (k - 1) / 2))

  bare_same : (b k : ℕ) → sheet_word bare b k ≡ sheet_word (of_one t) b k
  unfolding sheet_word
  bare_same b k =
      ap₂ (pick (ltb k check_at)) (bare-word b k) (ap (λ (n : ℕ). seal n b) (sum_agree _ _ check_at (λ j l. bare-word b j)))

  pub bare-bytes : encode_tracked bare ≡ encode t
  unfolding encode encode_tracked
  bare-bytes =
      let n = blocks_for (length t.events) * block_words in
      ap bytes (tab_is (flat bare) 0 n (tab (flat (of_one t)) n) (sym (length-tab (flat (of_one t)) n)) (λ i q.
      let l : i < n = rw (length-tab (flat (of_one t)) n) at q in
      bare_same (i / block_words) (i % block_words) ∙ sym (get_d_tab (flat (of_one t)) 0 n i l)))

  -- and is refused as one of them is
  pub start_one : may_start (of_one t) ≡ table_ok t.kinds
  unfolding form_ok table_fits
  start_one = refl

  pub tracks_one : tracks_fit one_track (length t.events) (of_one t).tracks ≡ true
  unfolding tracks_fit
  tracks_one =
      rw (eq-eqb (length (nought (length t.events))) (length t.events) (nought-long (length t.events)), all_zero (length t.events))

  pub fit_one : all_fit (of_one t) ≡ all_in_fields t.events
  fit_one = rw tracks_one (and-true (all_in_fields t.events))

  pub number_one : (m : ℕ) → tracked_number (of_one t) m ≡ write_number t m
  unfolding tracked_number write_number size_number
  number_one m = rw (start_one, fit_one)

  pub writes_one : (r : ℕ) (out out' : List ℕ) → (WritesTracked (of_one t) r out out') ↔ (Writes t r out out')
  unfolding leaves written encode
  writes_one r out out' = (
    λ w. let e : r ≡ write_number t (length out) = w.0 ∙ number_one (length out) in (e, w.1 ∙ rw e),
    λ w. (w.0 ∙ sym (number_one (length out)), w.1 ∙ rw w.0),
  )

  -- written where the output has room
  pub wrote_one : (out : List ℕ) → table_ok t.kinds ≡ true → all_in_fields t.events ≡ true → length t.events ≤ 3780 → bytes_for (length t.events) ≤ length out
      → Writes t 0 out (encode t ++ drop (bytes_for (length t.events)) out)
  unfolding encode
  wrote_one out a b h l = (writes_one 0 out _).0 (passes (of_one t) out (start_one ∙ a) (fit_one ∙ b) 0 _ (wrote (of_one t) out h l))

  -- laid with no tracks, once the table and the fields are past
  pub laid_one : table_ok t.kinds ≡ true → all_in_fields t.events ≡ true → (r : ℕ) (out out' : List ℕ) → Lays bare r out out' → Writes t r out out'
  unfolding leaves encode
  laid_one a b r out out' l =
      (writes_one r out out').0 (passes (of_one t) out (start_one ∙ a) (fit_one ∙ b) r out' (
        l.0,
        l.1 ∙ ap (λ (x : List ℕ). pick (eqb r 0) (x ++ drop (bytes_for (length t.events)) out) out) bare-bytes,
      ))
