-- What the writers of a block store, put together: the words of the layout in their order, the zeros at the end of the body among them, and then the check.
-- Assumes nothing.
use mathlib.Core.Path.{◌≡◌, refl, sym, ap, ◌∙◌}
use Prim.Native.Nat.{ℕ, ◌+◌, ◌*◌, ◌%◌, ◌^◌, ◌≤◌}
use mathlib.Core.List.{List}
use lib.ListN.{length, get_or}
use native.Mathlib.Omega.{arith}
use Rattle.sheet.specs.Words.{put_word}
use Rattle.sheet.specs.Check.{sum, word, seal}
use Rattle.sheet.specs.Sheet.{Tracked, posts_of, held, head_word, events_word, body_word, sheet_word}
use Rattle.sheet.specs.Puts.{puts, put_block}
use Rattle.sheet.proofs.Sums.{sum_round, seal_round}
use Rattle.sheet.proofs.Puts.{puts_more, puts_agree, puts-on, word-puts}
use Rattle.sheet.proofs.BlockWords.{head-kind, events-count, body_is, check_is, body_events}

module _ (t : Tracked) (b : ℕ) (d : List ℕ) where
  -- the body is stored, and then the check
  pub checked : b * 512 + 512 ≤ length d → (o : List ℕ) → o ≡ puts (body_word t b) (b * 512) 127 d
      → put_word o (b * 512 + 508) (seal (sum (word o b) 127) b) ≡ put_block t b d
  checked fits o e =
      let n : sum (word o b) 127 % 2 ^ 32 ≡ sum (body_word t b) 127 % 2 ^ 32 =
      sum_round (word o b) (body_word t b) 127 (λ k l. rw e (word-puts (body_word t b) (b * 512) 127 d (omega arith) k l)) in
      rw (seal_round _ _ b n, e, puts_agree (body_word t b) (sheet_word t b) (b * 512) 127 d (λ k l. sym (body_is t b k l)), ← check_is t b)
      (puts_more (sheet_word t b) (b * 512) 127 d)

-- ---- block 0
module _ (t : Tracked) (d o : List ℕ) where
  three : put_word (put_word (put_word d 0 t.form) 4 (posts_of t.form (length t.table))) 8 t.stamp ≡ puts (head_word t) 0 3 d
  unfolding puts head_word
  three = refl

  pub head_body :
      o ≡ puts (λ (j : ℕ). get_or t.table j 0) 12 124 (put_word (put_word (put_word d 0 t.form) 4 (posts_of t.form (length t.table))) 8 t.stamp)
      → o ≡ puts (body_word t 0) 0 127 d
  head_body p = p ∙ ap (puts (λ (j : ℕ). get_or t.table j 0) 12 124) three ∙ puts-on _ (head_word t) 0 3 124 d (λ i l. sym (head-kind t i))

-- ---- event block c
module _ (t : Tracked) (c : ℕ) where
  -- an event more: its word and its stamp, or zeros past the last one
  pub pair_more : (at j w v : ℕ) (d : List ℕ) → w ≡ events_word t c (1 + j * 2) → v ≡ events_word t c (2 + j * 2)
      → put_word (put_word (puts (λ (k : ℕ). events_word t c (1 + k)) (at + 4) (j * 2) d) (at + 4 + j * 8) w) (at + 8 + j * 8) v
      ≡ puts (λ (k : ℕ). events_word t c (1 + k)) (at + 4) ((j + 1) * 2) d
  pair_more at j w v d e f =
      let g : ℕ → ℕ = λ k. events_word t c (1 + k) in
      let p : at + 4 + j * 8 ≡ at + 4 + j * 2 * 4 = omega arith in
      let q : at + 8 + j * 8 ≡ at + 4 + (j * 2 + 1) * 4 = omega arith in
      let r : j * 2 + 1 + 1 ≡ (j + 1) * 2 = omega arith in
      let s : 2 + j * 2 ≡ 1 + (j * 2 + 1) = omega arith in
      rw (p, q, e, f, s)
      (ap (λ (x : List ℕ). put_word x (at + 4 + (j * 2 + 1) * 4) (g (j * 2 + 1))) (puts_more g (at + 4) (j * 2) d)
      ∙ puts_more g (at + 4) (j * 2 + 1) d
      ∙ ap (λ (n : ℕ). puts g (at + 4) n d) r)

  module _ (d o : List ℕ) where
    abbrev m : ℕ
    m = held (length t.events) c

    abbrev at : ℕ
    at = (c + 1) * 512

    one : put_word d at m ≡ puts (body_word t (c + 1)) at 1 d
    unfolding puts
    one = let e : at + 0 * 4 ≡ at = omega arith in rw (e, body_events t c 0, events-count t c)

    pub events_body :
        o ≡ puts (λ (k : ℕ). events_word t c (1 + k)) (at + 4) 126 (put_word d at m)
        → o ≡ puts (body_word t (c + 1)) at 127 d
    events_body p =
        p ∙ ap (puts (λ (k : ℕ). events_word t c (1 + k)) (at + 4) 126) one
        ∙ puts-on _ (body_word t (c + 1)) at 1 126 d (λ i l. sym (body_events t c (1 + i)))
