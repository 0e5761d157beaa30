-- Read, then written: a good sheet is what is written of what it says. Each word of the description of what was read is the word that stood there, and the check is the one word that adds up.
-- Assumes nothing.
use mathlib.Core.Path.{◌≡◌, refl, sym, ap, ap₂, subst, ◌∙◌}
use mathlib.Core.Logic.{⊎_elim}
use Prim.Native.Nat.{ℕ, ◌+◌, ◌-◌, ◌*◌, ◌/◌, ◌%◌, ◌^◌, ◌≤◌, ◌<◌}
use mathlib.Core.Bool.{true}
use mathlib.Core.List.{List, []}
use borrow.Author.Tests.{eq-eqb, le-leb, lt-leb}
use lib.Dec.{eqb}
use lib.ListN.{length, get_or, replicate, length-replicate, get_or-replicate, get_or-eq_default}
use native.Mathlib.Nat.{eq-or-lt_of_le}
use native.Mathlib.Omega.{arith}
use Rattle.relay.proofs.Truth.{facts, split}
use Rattle.sheet.specs.Layout.{block_words, check_at, one_track, two_tracks}
use Rattle.sheet.specs.Words.{word_at, bytes, tab}
use Rattle.sheet.specs.Check.{sum, word, target}
use Rattle.sheet.specs.Entry.{entry_word, entry_of, on_track, track_in, stamp_of}
use Rattle.sheet.specs.Sheet.{of_one, table_words, posts_of, entry_at, track_at, held, blocks_for, head_word, events_word, body_word, sheet_word, encode, encode_tracked}
use Rattle.sheet.specs.Reading.{form_in, kinds_in, table_in, table_fits, form_ok, blocks_in, entries_in, entry_in, track_on, decode, decode_tracked}
use Rattle.sheet.specs.Writing.{all_in_fields, tracks_fit}
use Rattle.sheet.proofs.Sums.{sum_agree, sum_more, seal_is}
use Rattle.sheet.proofs.Good.{Good}
use Rattle.sheet.proofs.Tabs.{length-tab, get_d_tab, tab_is}
use Rattle.sheet.proofs.Bytes.{Below, word_small, words_back}
use Rattle.sheet.proofs.Fields.{every, below-every}
use Rattle.sheet.proofs.PackingBack.{word_back, track-small}
use Rattle.sheet.proofs.PackingFields.{unpacked-fields}
use Rattle.sheet.proofs.Accepts.{good-accepted}
use Rattle.sheet.proofs.Rooms.{placed}
use Rattle.sheet.proofs.Table.{words_one}
use Rattle.sheet.proofs.TripWritten.{same_sheet}
use Rattle.sheet.proofs.BlockWords.{head_first, head-count, head-stamp, head-kind, head-zero, events-count, events-word, events-stamp, events-zero, body_is, body_events, check_is}
use Rattle.sheet.proofs.Laid.{flat}
use Rattle.sheet.proofs.Places.{lt_or_le, by_block, by_head, by_place}
use Rattle.sheet.proofs.Writable.{Writable, WritableTracked}

-- ---- what decoding gives
module _ (s : List ℕ) where
  abbrev table_long : ℕ
  table_long = table_words (form_in s) (word s 0 1)

  pub form_is : (decode_tracked s).form ≡ form_in s
  unfolding decode_tracked
  form_is = refl

  pub stamp_is : (decode_tracked s).stamp ≡ word s 0 2
  unfolding decode_tracked
  stamp_is = refl

  pub table_is : (decode_tracked s).table ≡ table_in s
  unfolding decode_tracked
  table_is = refl

  pub table-long : length (decode_tracked s).table ≡ table_long
  table-long = rw table_is (length-tab (λ i. word s 0 (3 + i)) table_long)

  kind_is : (i : ℕ) → i < table_long → get_or (decode_tracked s).table i 0 ≡ word s 0 (3 + i)
  kind_is i h = rw table_is (get_d_tab (λ i. word s 0 (3 + i)) 0 table_long i h)

  pub events-long : length (decode_tracked s).events ≡ entries_in s
  unfolding decode_tracked
  events-long = length-tab (entry_in s) (entries_in s)

  event_is : (i : ℕ) → i < entries_in s → entry_at (decode_tracked s) i ≡ entry_in s i
  unfolding decode_tracked
  event_is i h = get_d_tab (entry_in s) [] (entries_in s) i h

  pub tracks-long : length (decode_tracked s).tracks ≡ entries_in s
  unfolding decode_tracked
  tracks-long = length-tab (track_on s) (entries_in s)

  track_is : (i : ℕ) → i < entries_in s → track_at (decode_tracked s) i ≡ track_on s i
  unfolding decode_tracked
  track_is i h = get_d_tab (track_on s) 0 (entries_in s) i h

-- the posts of a table of as many words as they ask for
pub posts-words : (form n : ℕ) → posts_of form (table_words form n) ≡ n
unfolding posts_of table_words
posts-words form n = split (eqb form 2) (λ e. rw e (omega arith)) (λ e. rw e refl)

module _ (most n : ℕ) (s : List ℕ) (g : Good most n s) (fits : most ≤ 2) where
  form-few : (1 ≤ form_in s) × (form_in s ≤ 2)
  unfolding form_ok
  form-few = let f = simp facts at g.first in (f.0, omega (arith, f.1))

  -- ---- how many events there are
  blocks_are : blocks_in (length s) ≡ n
  blocks_are = omega (arith, g.long)

  none : n ≤ 1 → entries_in s ≡ 0
  unfolding entries_in
  none h = rw (blocks_are, le-leb n 1 h)

  more : 1 < n → entries_in s ≡ (n - 2) * 60 + word s (n - 1) 0
  unfolding entries_in
  more h = rw (blocks_are, lt-leb n 1 h)

  -- what an event block says it holds is what it is to hold
  held_is : (c : ℕ) → c + 1 < n → held (entries_in s) c ≡ word s (c + 1) 0
  held_is c h =
      let q = more (omega arith) in
      ⊎_elim
      (λ inner. omega (arith, g.few (n - 1) (omega arith) (omega arith), g.full (c + 1) (omega arith) inner))
      (λ last.
      let e : n - 1 ≡ c + 1 = omega arith in
      let w : word s (n - 1) 0 ≡ word s (c + 1) 0 = ap (λ (b : ℕ). word s b 0) e in
      omega (arith, w, g.many (c + 1) (omega arith) h))
      (lt_or_le (c + 1 + 1) n)

  blocks-right : blocks_for (entries_in s) ≡ n
  blocks-right =
      ⊎_elim
      (λ l. omega (arith, more l, g.few (n - 1) (omega arith) (omega arith), g.many (n - 1) (omega arith) (omega arith)))
      (λ l. omega (arith, none l, g.some))
      (lt_or_le 1 n)

  entries-most : entries_in s ≤ 3780
  entries-most =
      ⊎_elim
      (λ l. omega (arith, more l, g.most, g.many (n - 1) (omega arith) (omega arith)))
      (λ l. omega (arith, none l))
      (lt_or_le 1 n)

  -- ---- the words of the description
  head_same : (k : ℕ) → k < check_at → head_word (decode_tracked s) k ≡ word s 0 k
  head_same =
      by_head (λ k. k < check_at → head_word (decode_tracked s) k ≡ word s 0 k) (table_long s)
      (λ l. head_first (decode_tracked s) ∙ form_is s)
      (λ l. head-count (decode_tracked s) ∙ rw (form_is s, table-long s) (posts-words (form_in s) (word s 0 1)))
      (λ l. head-stamp (decode_tracked s) ∙ stamp_is s)
      (λ i h l. head-kind (decode_tracked s) i ∙ kind_is s i h)
      (λ k h l. head-zero (decode_tracked s) k (omega (arith, table-long s)) ∙ sym (g.rest k h l))

  module _ (c : ℕ) (h : c + 1 < n) where
    holds : held (length (decode_tracked s).events) c ≡ word s (c + 1) 0
    holds = rw (events-long s) (held_is c h)

    -- event j of the block, and its track
    module _ (j : ℕ) (l : j < word s (c + 1) 0) where
      block_at : 1 + (c * 60 + j) / 60 ≡ c + 1
      block_at = let q = held_is c h in let m = g.many (c + 1) (omega arith) h in omega arith

      place_at : (c * 60 + j) % 60 ≡ j
      place_at = let m = g.many (c + 1) (omega arith) h in omega arith

      entry_at_lem : entry_at (decode_tracked s) (c * 60 + j) ≡ entry_of (word s (c + 1) (1 + j * 2)) (word s (c + 1) (2 + j * 2))
      entry_at_lem = let q = held_is c h in event_is s (c * 60 + j) (omega arith) ∙ rw (block_at, place_at)

      track_at_lem : track_at (decode_tracked s) (c * 60 + j) ≡ track_in (word s (c + 1) (1 + j * 2))
      track_at_lem = let q = held_is c h in track_is s (c * 60 + j) (omega arith) ∙ rw (block_at, place_at)

    events_same : (k : ℕ) → k < check_at → events_word (decode_tracked s) c k ≡ word s (c + 1) k
    events_same =
        by_place (λ k. k < check_at → events_word (decode_tracked s) c k ≡ word s (c + 1) k) (word s (c + 1) 0)
        (λ l. events-count (decode_tracked s) c ∙ holds)
        (λ j m l.
        events-word (decode_tracked s) c j (rw holds m)
        ∙ ap₂ on_track (ap entry_word (entry_at_lem j m)) (track_at_lem j m)
        ∙ word_back (form_in s) (word s (c + 1) (1 + j * 2)) (word s (c + 1) (2 + j * 2)) form-few.1 (g.fields (c + 1) (omega arith) h j m))
        (λ j m l. events-stamp (decode_tracked s) c j (rw holds m) ∙ ap stamp_of (entry_at_lem j m))
        (λ k m l. events-zero (decode_tracked s) c k (rw holds m) ∙ sym (g.zero (c + 1) (omega arith) h k m l))

  body_same : (b : ℕ) → b < n → (k : ℕ) → k < check_at → body_word (decode_tracked s) b k ≡ word s b k
  body_same =
      by_block (λ b. b < n → (k : ℕ) → k < check_at → body_word (decode_tracked s) b k ≡ word s b k)
      (λ h. head_same)
      (λ c h k l. body_events (decode_tracked s) c k ∙ events_same c h k l)

  -- an event's word, wherever it stands
  pub word-within : (i : ℕ) → i < entries_in s → word s (1 + i / 60) (1 + i % 60 * 2) < form_in s * 65536
  word-within i l =
      let p = placed most s (good-accepted most s (subst (λ (m : ℕ). Good most m s) (sym blocks_are) g)) i l in
      g.fields (1 + i / 60) (omega arith) (omega (arith, p.0, blocks_are)) (i % 60) p.1

  -- starting would not refuse what it says, and every event and track is in its field
  pub said-form : form_ok two_tracks (decode_tracked s).form ≡ true
  unfolding form_ok
  said-form = rw (form_is s, le-leb 1 (form_in s) form-few.0, le-leb (form_in s) 2 form-few.1) refl

  pub said-table : table_fits (decode_tracked s).form (decode_tracked s).table ≡ true
  said-table = rw (form_is s, table_is s) g.table

  pub said-fields : all_in_fields (decode_tracked s).events ≡ true
  said-fields = every (decode_tracked s).events (λ i h. rw (event_is s i (rw (events-long s) at h)) (unpacked-fields _ _))

  pub said-tracks : tracks_fit (decode_tracked s).form (length (decode_tracked s).events) (decode_tracked s).tracks ≡ true
  unfolding tracks_fit
  said-tracks =
      rw (form_is s, tracks-long s, events-long s, eq-eqb (entries_in s) (entries_in s) refl)
      (below-every (form_in s) (decode_tracked s).tracks (λ i h.
      let l : i < entries_in s = rw (tracks-long s) at h in
      rw (track_is s i l) (track-small (form_in s) _ (word-within i l))))

  module _ (small : Below 256 s) where
    check_same : (b : ℕ) → b < n → word s b check_at ≡ sheet_word (decode_tracked s) b check_at
    check_same b h =
        let m : sum (word s b) 127 ≡ sum (body_word (decode_tracked s) b) 127 = sum_agree _ _ 127 (λ k l. sym (body_same b h k l)) in
        let e : (sum (body_word (decode_tracked s) b) 127 + word s b 127) % 2 ^ 32 ≡ target b =
        rw (← m) (rw (sum_more (word s b) 127) at (g.sums b h)) in
        seal_is (word s b 127) (sum (body_word (decode_tracked s) b) 127) b (word_small s small (b * 512 + 127 * 4)) e (omega (arith, g.most))
        ∙ sym (check_is (decode_tracked s) b)

    word_same : (b k : ℕ) → b < n → k < block_words → sheet_word (decode_tracked s) b k ≡ word s b k
    word_same b k h l =
        ⊎_elim
        (λ e. rw e (sym (check_same b h)))
        (λ m. body_is (decode_tracked s) b k m ∙ body_same b h k m)
        (eq-or-lt_of_le {n = k} {m = 127} (omega arith))

    abbrev own : ℕ → ℕ
    own i = word_at s (i * 4)

    words_same : tab (flat (decode_tracked s)) (n * 128) ≡ tab own (n * 128)
    words_same =
        tab_is (flat (decode_tracked s)) 0 (n * 128) (tab own (n * 128)) (sym (length-tab own (n * 128))) (λ i q.
        let l : i < n * 128 = rw (length-tab own (n * 128)) at q in
        let e : i / 128 * 512 + i % 128 * 4 ≡ i * 4 = omega arith in
        word_same (i / 128) (i % 128) (omega arith) (omega arith)
        ∙ ap (word_at s) e
        ∙ sym (get_d_tab own 0 (n * 128) i l))

    -- accepted, then read and written: the same bytes
    pub encode-decode : encode_tracked (decode_tracked s) ≡ s
    unfolding encode_tracked
    encode-decode =
        rw (events-long s, blocks-right) (ap bytes words_same ∙ words_back s small (n * 128) (omega (arith, g.long)))

    -- what a good sheet says can be written
    pub decoded_tracked : WritableTracked (decode_tracked s)
    decoded_tracked = record {
      form = said-form;
      table = said-table;
      fields = said-fields;
      tracks = said-tracks;
      most = rw (events-long s) entries-most;
      stamp = rw (stamp_is s) (word_small s small (0 * 512 + 2 * 4));
      words = λ i.
          ⊎_elim
          (λ h. rw (kind_is s i h) (word_small s small (0 * 512 + (3 + i) * 4)))
          (λ h. rw (get_or-eq_default (decode_tracked s).table 0 {n = i} (rw (table-long s) h)) (omega arith))
          (lt_or_le i (table_long s));
      four = λ i h. rw (event_is s i (rw (events-long s) at h));
      stamps = λ i h. rw (event_is s i (rw (events-long s) at h)) (word_small s small _);
    }

-- two different good sheets never say the same
pub decode_one : (most n n' : ℕ) (s s' : List ℕ) → most ≤ 2 → Good most n s → Good most n' s' → Below 256 s → Below 256 s' → decode_tracked s ≡ decode_tracked s' → s ≡ s'
decode_one most n n' s s' f g g' b b' e = sym (encode-decode most n s g f b) ∙ ap encode_tracked e ∙ encode-decode most n' s' g' f b'

-- ---- a sheet of one track
module _ (n : ℕ) (s : List ℕ) (g : Good one_track n s) where
  one : form_in s ≡ one_track
  unfolding form_ok
  one = let f = simp facts at g.first in omega (arith, f.0, f.1)

  track_none : (i : ℕ) → i < entries_in s → track_on s i ≡ 0
  track_none i h = omega (arith, one, track-small (form_in s) _ (word-within one_track n s g (omega arith) i h))

  kinds-table : kinds_in s ≡ table_in s
  kinds-table = rw (words_one s (λ e. omega (arith, one)))

  -- what it says is what it says as one of either form
  says_one : of_one (decode s) ≡ decode_tracked s
  unfolding decode decode_tracked
  says_one =
      let m = entries_in s in
      let long : length (tab (entry_in s) m) ≡ m = length-tab (entry_in s) m in
      let zeros : List ℕ = replicate m 0 in
      let z : length zeros ≡ m = length-replicate m 0 in
      let tracks : tab (track_on s) m ≡ zeros =
      tab_is (track_on s) 0 m zeros (sym z) (λ i q.
      let l : i < m = rw z at q in track_none i l ∙ sym (get_or-replicate m i 0 0 l)) in
      same_sheet _ _ (sym one) refl kinds-table refl (ap (λ (k : ℕ). replicate k 0) long ∙ sym tracks)

  module _ (small : Below 256 s) where
    pub encode_one : encode (decode s) ≡ s
    unfolding encode
    encode_one = ap encode_tracked says_one ∙ encode-decode one_track n s g (omega arith) small

    pub decoded_writable : Writable (decode s)
    unfolding table_fits
    decoded_writable =
        let w : WritableTracked (of_one (decode s)) = subst WritableTracked (sym says_one) (decoded_tracked one_track n s g (omega arith) small) in
        record {
          table = w.table;
          fields = w.fields;
          most = w.most;
          stamp = w.stamp;
          kinds = w.words;
          four = w.four;
          stamps = w.stamps;
        }
