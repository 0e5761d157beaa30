-- Written, then read: a written sheet is a good one, and it says what was written. Each of its words is the one that the description names, so each fact of a good sheet is one of the layout.
-- Assumes nothing.
use mathlib.Core.Path.{◌≡◌, refl, sym, ap, subst, ◌∙◌}
use mathlib.Core.Logic.{⊎_elim}
use Prim.Native.Nat.{ℕ, ◌+◌, ◌-◌, ◌*◌, ◌/◌, ◌%◌, ◌^◌, ◌≤◌, ◌<◌}
use mathlib.Core.Bool.{true}
use mathlib.Core.List.{List, []}
use borrow.Author.Tests.{ne_eqb, le-leb, lt-leb, eqb-true}
use lib.Dec.{eqb}
use Rattle.relay.proofs.Truth.{split}
use lib.ListN.{length, get_or}
use native.Mathlib.Omega.{arith}
use Rattle.sheet.specs.Layout.{block_bytes, block_words, check_at, per_block, one_track}
use Rattle.sheet.specs.Words.{tab}
use Rattle.sheet.specs.Check.{sum, word, target}
use Rattle.sheet.specs.Entry.{entry_word, on_track, stamp_of}
use Rattle.sheet.specs.Sheet.{Sheet, Tracked, of_one, encode, table_words, posts_of, entry_at, track_at, held, blocks_for, head_word, events_word, body_word, sheet_word, encode_tracked}
use Rattle.sheet.specs.Reading.{form_in, table_in, tables_ok, table_fits, form_ok, blocks_in, entries_in, entry_in, track_on, kinds_in, decode, decode_tracked}
use Rattle.sheet.proofs.Sums.{sum_agree, sum_more, seal-adds}
use Rattle.sheet.proofs.Good.{Good}
use Rattle.sheet.proofs.Tabs.{length-tab, get_d_tab, tab_is}
use Rattle.sheet.proofs.Bytes.{length-bytes, word_bytes}
use Rattle.sheet.proofs.Packing.{packed-small}
use Rattle.sheet.proofs.PackingBack.{entry-back, track-back}
use Rattle.sheet.proofs.Along.{both}
use Rattle.sheet.proofs.BlockWords.{head_first, head-count, head-stamp, head-kind, head-zero, events-count, events-word, events-stamp, events-zero, body_is, check_is}
use Rattle.sheet.proofs.Laid.{fits-long, flat}
use Rattle.sheet.proofs.Places.{lt_or_le}
use Rattle.sheet.proofs.Table.{words_one}
use Rattle.sheet.proofs.Writable.{Writable, WritableTracked, writable_one, form-few, entry_in_lem, track_in, tracks-long, sheet-small}

pub same_sheet : (a b : Tracked) → a.form ≡ b.form → a.stamp ≡ b.stamp → a.table ≡ b.table → a.events ≡ b.events → a.tracks ≡ b.tracks → a ≡ b
same_sheet a b f p q r o = λ i. record { form = f i; stamp = p i; table = q i; events = r i; tracks = o i }

-- a right table has as many words as its posts ask for
pub words-posts : (form : ℕ) (ks : List ℕ) → table_fits form ks ≡ true → table_words form (posts_of form (length ks)) ≡ length ks
unfolding table_fits tables_ok table_words posts_of
words-posts form ks =
    split (eqb form 2)
    (λ e. rw e (λ f. omega (arith, eqb-true (length ks % 2) 1 (both (eqb (length ks % 2) 1) _ f).0)))
    (λ e. rw e (λ f. refl))

module _ (t : Tracked) (w : WritableTracked t) where
  abbrev n : ℕ
  n = length t.events

  abbrev N : ℕ
  N = blocks_for n

  -- ---- the words of the written sheet
  long : length (encode_tracked t) ≡ N * block_bytes
  unfolding encode_tracked
  long = length-bytes (tab (flat t) (N * block_words)) ∙ rw (length-tab (flat t) (N * block_words)) (omega arith)

  word_is : (b k : ℕ) → b < N → k < block_words → word (encode_tracked t) b k ≡ sheet_word t b k
  unfolding encode_tracked
  word_is b k h l =
      let i = b * 128 + k in
      let o : b * 512 + k * 4 ≡ i * 4 = omega arith in
      let q : i < N * 128 = omega arith in
      let x : i / 128 ≡ b = omega arith in
      let y : i % 128 ≡ k = omega arith in
      let e : get_or (tab (flat t) (N * 128)) i 0 ≡ sheet_word t b k = get_d_tab (flat t) 0 (N * 128) i q ∙ rw (x, y) in
      rw o (word_bytes (tab (flat t) (N * 128)) i (rw (length-tab (flat t) (N * 128)) q) (rw e (sheet-small t w b k)) ∙ e)

  head_at : (k : ℕ) → k < check_at → word (encode_tracked t) 0 k ≡ head_word t k
  head_at k h = word_is 0 k (omega arith) (omega arith) ∙ body_is t 0 k h

  events_at : (b k : ℕ) → 1 ≤ b → b < N → k < check_at → word (encode_tracked t) b k ≡ events_word t (b - 1) k
  events_at b k a h l =
      let o : b ≡ 0 → ⊥ = λ e. omega arith in
      word_is b k h (omega arith) ∙ body_is t b k l ∙ rw (ne_eqb b 0 o)

  says : (b : ℕ) → 1 ≤ b → b < N → word (encode_tracked t) b 0 ≡ held n (b - 1)
  says b a h = events_at b 0 a h (omega arith) ∙ events-count t (b - 1)

  form_is : form_in (encode_tracked t) ≡ t.form
  form_is = head_at 0 (omega arith) ∙ head_first t

  counts : table_words (form_in (encode_tracked t)) (word (encode_tracked t) 0 1) ≡ length t.table
  counts = rw (form_is, head_at 1 (omega arith), head-count t) (words-posts t.form t.table w.table)

  few_words : length t.table ≤ 65
  few_words = fits-long t.form t.table w.table

  table_is : table_in (encode_tracked t) ≡ t.table
  table_is =
      tab_is (λ i. word (encode_tracked t) 0 (3 + i)) 0 (table_words (form_in (encode_tracked t)) (word (encode_tracked t) 0 1)) t.table counts (λ i h. head_at (3 + i) (omega (arith, few_words)) ∙ head-kind t i)

  adds_up : (b : ℕ) → b < N → sum (word (encode_tracked t) b) block_words % 2 ^ 32 ≡ target b
  adds_up b h =
      rw (
        sum_agree (word (encode_tracked t) b) (sheet_word t b) 128 (λ k l. word_is b k h l),
        sum_more (sheet_word t b) 127,
        sum_agree (sheet_word t b) (body_word t b) 127 (body_is t b),
        check_is t b,
      )
      (seal-adds (sum (body_word t b) 127) b (omega (arith, w.most)))

  -- a sheet that was written is a good one
  pub written-good : (most : ℕ) → t.form ≤ most → Good most N (encode_tracked t)
  unfolding form_ok
  written-good tracks fits = record {
    some = omega arith;
    most = omega (arith, w.most);
    long = long;
    sums = adds_up;
    first = rw (form_is, le-leb 1 t.form (form-few t w).0, le-leb t.form tracks fits) refl;
    table = subst (λ (k : ℕ). table_fits k (table_in (encode_tracked t)) ≡ true) (sym form_is) (subst (λ (l : List ℕ). table_fits t.form l ≡ true) (sym table_is) w.table);
    rest = λ k a b. head_at k b ∙ head-zero t k (omega (arith, counts));
    few = λ b a h. rw (says b a h) (omega arith);
    many = λ b a h. rw (says b a h) (omega arith);
    full = λ b a h. says b a (omega arith) ∙ omega arith;
    fields = λ b a h j l.
        let m : j < held n (b - 1) = rw (says b a h) at l in
        rw (events_at b (1 + j * 2) a h (omega arith), events-word t (b - 1) j m)
        (rw form_is (packed-small (entry_at t ((b - 1) * per_block + j)) (track_at t ((b - 1) * per_block + j)) t.form (entry_in_lem t w ((b - 1) * per_block + j) (omega arith)) (track_in t w ((b - 1) * per_block + j) (omega arith))));
    zero = λ b a h k l m. events_at b k a h m ∙ events-zero t (b - 1) k (omega (arith, says b a h));
  }

  -- ---- what it says
  blocks_are : blocks_in (length (encode_tracked t)) ≡ N
  blocks_are = omega (arith, long)

  events_are : entries_in (encode_tracked t) ≡ n
  unfolding entries_in
  events_are =
      rw blocks_are
      (⊎_elim
      (λ more. rw (lt-leb N 1 more, says (N - 1) (omega arith) (omega arith)) (omega arith))
      (λ one. rw (le-leb N 1 one) (omega arith))
      (lt_or_le 1 N))

  module _ (i : ℕ) (h : i < n) where
    word_at : word (encode_tracked t) (1 + i / per_block) (1 + i % per_block * 2) ≡ on_track (entry_word (entry_at t i)) (track_at t i)
    word_at =
        let b : 1 + i / 60 - 1 ≡ i / 60 = omega arith in
        let e : i / 60 * 60 + i % 60 ≡ i = omega arith in
        rw (events_at (1 + i / 60) (1 + i % 60 * 2) (omega arith) (omega arith) (omega arith), b, events-word t (i / 60) (i % 60) (omega arith), e) refl

    stamp_at : word (encode_tracked t) (1 + i / per_block) (2 + i % per_block * 2) ≡ stamp_of (entry_at t i)
    stamp_at =
        let b : 1 + i / 60 - 1 ≡ i / 60 = omega arith in
        let e : i / 60 * 60 + i % 60 ≡ i = omega arith in
        rw (events_at (1 + i / 60) (2 + i % 60 * 2) (omega arith) (omega arith) (omega arith), b, events-stamp t (i / 60) (i % 60) (omega arith), e) refl

    on_two : track_at t i < 2
    on_two = omega (arith, track_in t w i h, (form-few t w).1)

    event_is : entry_in (encode_tracked t) i ≡ entry_at t i
    event_is = rw (word_at, stamp_at) (entry-back (entry_at t i) (track_at t i) (w.four i h) (entry_in_lem t w i h) on_two)

    track_is : track_on (encode_tracked t) i ≡ track_at t i
    track_is = rw word_at (track-back (entry_at t i) (track_at t i) (entry_in_lem t w i h) on_two)

  -- written, then read: the same form, table, start stamp, events and tracks
  pub decode-encode : decode_tracked (encode_tracked t) ≡ t
  unfolding decode_tracked
  decode-encode =
      same_sheet _ t form_is (head_at 2 (omega arith) ∙ head-stamp t) table_is
      (tab_is (entry_in (encode_tracked t)) [] (entries_in (encode_tracked t)) t.events events_are event_is)
      (tab_is (track_on (encode_tracked t)) 0 (entries_in (encode_tracked t)) t.tracks (events_are ∙ sym (tracks-long t w)) (λ i h. track_is i (omega (arith, tracks-long t w))))

-- ---- a sheet of one track
module _ (t : Sheet) (w : Writable t) where
  abbrev one : WritableTracked (of_one t)
  one = writable_one t w

  pub good_one : Good one_track (blocks_for (length t.events)) (encode t)
  unfolding encode
  good_one = written-good (of_one t) one one_track (omega arith)

  pub says_one : decode (encode t) ≡ t
  unfolding encode decode
  says_one =
      let s = encode_tracked (of_one t) in
      let f : form_in s ≡ 1 = form_is (of_one t) one in
      let kinds : kinds_in s ≡ t.kinds = sym (ap (λ (k : ℕ). tab (λ i. word s 0 (3 + i)) k) (words_one s (λ e. omega (arith, f)))) ∙ table_is (of_one t) one in
      λ i. record { stamp = (head_at (of_one t) one 2 (omega arith) ∙ head-stamp (of_one t)) i; kinds = kinds i; events = (tab_is (entry_in s) [] (entries_in s) t.events (events_are (of_one t) one) (event_is (of_one t) one)) i }
