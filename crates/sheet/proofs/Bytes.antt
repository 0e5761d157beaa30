-- The laws of words in bytes: a stored word is read back, a word beside it is as it was, and a list of words comes back from its bytes and gives the same bytes again.
-- Assumes nothing.
use mathlib.Core.Path.{◌≡◌, refl, sym, ap, ap₂, ◌∙◌}
use mathlib.Core.Logic.{◌≢◌, ◌⊎◌, ⊎_elim}
use Prim.Native.Nat.{ℕ, zero, suc, ◌+◌, ◌*◌, ◌/◌, ◌%◌, ◌^◌, ◌≤◌, ◌<◌}
use mathlib.Core.List.{List, [], ◌∷◌, ◌++◌, append-nil}
use lib.ListN.{length, get_or, set, take, drop, length-set, length-append, length-drop, drop_of_length-le}
use lib.Pow.{shr-shr}
use lib.Seq.{set-get_or, get_or-set_same, get_or-set_other, sets-eq, take_at, drop-drop, drop-append-add, get_or-drop, get_or-take}
use native.Mathlib.Nat.{add-zero, add_assoc, div-add-mod'}
use native.Mathlib.Numerals.{add-one}
use native.Mathlib.Omega.{arith}
use Rattle.sheet.specs.Words.{le32, word_at, put_word, bytes, tab}
use Rattle.sheet.proofs.Tabs.{length-tab}

-- every element is below b: what a slice's own rule says, at 256 of bytes and at 2^32 of words
abbrev pub Below : ℕ → List ℕ → Type 0
Below b s = (i : ℕ) → get_or s i 0 < b

-- four digits, each the remainder of what is left of w
digits : (w x y z q a b c d : ℕ) → a < 256 → b < 256 → c < 256 → d < 256
    → x * 256 + a ≡ w → y * 256 + b ≡ x → z * 256 + c ≡ y → q * 256 + d ≡ z → le32 a b c d ≡ w % 2 ^ 32
digits w x y z q a b c d ha hb hc hd p₁ p₂ p₃ p₄ = omega arith

-- a word is that of its four bytes, carried round at 2^32
le32-bytes : (w : ℕ) → le32 (w % 256) (w / 256 % 256) (w / 65536 % 256) (w / 16777216 % 256) ≡ w % 2 ^ 32
le32-bytes w =
    let x = w / 256 in
    let y = w / 256 / 256 in
    let z = w / 256 / 256 / 256 in
    rw (← shr-shr w 8 8, ← shr-shr w 16 8, ← shr-shr w 8 8)
    (digits w x y z (z / 256) _ _ _ _ (omega arith) (omega arith) (omega arith) (omega arith) (div-add-mod' w 256) (div-add-mod' x 256) (div-add-mod' y 256) (div-add-mod' z 256))

-- a word's four bytes
abbrev four : ℕ → List ℕ
four w = w % 256 ∷ w / 256 % 256 ∷ w / 65536 % 256 ∷ w / 16777216 % 256 ∷ []

-- ---- a stored word
pub length_put : (s : List ℕ) (i w : ℕ) → length (put_word s i w) ≡ length s
unfolding put_word
length_put s i w = simp length-set

-- a byte outside the four is as it was
byte_other : (s : List ℕ) (i w j : ℕ) → j ≢ i → j ≢ i + 1 → j ≢ i + 2 → j ≢ i + 3 → get_or (put_word s i w) j 0 ≡ get_or s j 0
unfolding put_word
byte_other s i w j h0 h1 h2 h3 = simp get_or-set_other

module _ (s : List ℕ) (i w : ℕ) (h : i + 4 ≤ length s) where
  -- the four bytes that were stored
  byte_0 : get_or (put_word s i w) i 0 ≡ w % 256
  unfolding put_word
  byte_0 =
      let n1 : i ≢ i + 1 = λ e. omega arith in
      let n2 : i ≢ i + 2 = λ e. omega arith in
      let n3 : i ≢ i + 3 = λ e. omega arith in
      let l : i < length s = omega arith in
      simp (get_or-set_other, get_or-set_same)

  byte_1 : get_or (put_word s i w) (i + 1) 0 ≡ w / 256 % 256
  unfolding put_word
  byte_1 =
      let n2 : i + 1 ≢ i + 2 = λ e. omega arith in
      let n3 : i + 1 ≢ i + 3 = λ e. omega arith in
      let l : i + 1 < length (set s i (w % 256)) = simp length-set (omega arith) in
      simp (get_or-set_other, get_or-set_same)

  byte_2 : get_or (put_word s i w) (i + 2) 0 ≡ w / 65536 % 256
  unfolding put_word
  byte_2 =
      let n3 : i + 2 ≢ i + 3 = λ e. omega arith in
      let l : i + 2 < length (set (set s i (w % 256)) (i + 1) (w / 256 % 256)) = simp length-set (omega arith) in
      simp (get_or-set_other, get_or-set_same)

  byte_3 : get_or (put_word s i w) (i + 3) 0 ≡ w / 16777216 % 256
  unfolding put_word
  byte_3 =
      let l : i + 3 < length (set (set (set s i (w % 256)) (i + 1) (w / 256 % 256)) (i + 2) (w / 65536 % 256)) = simp length-set (omega arith) in
      rw get_or-set_same

  -- what was stored is read back
  pub word_same : word_at (put_word s i w) i ≡ w % 2 ^ 32
  unfolding word_at
  word_same = simp (byte_0, byte_1, byte_2, byte_3) (le32-bytes w)

  -- a stored word, as a cut and a paste
  put_eq : put_word s i w ≡ take i s ++ four w ++ drop (i + 4) s
  unfolding put_word
  put_eq =
      let e1 : i + 1 ≡ suc i = omega arith in
      let e2 : i + 2 ≡ suc (suc i) = omega arith in
      let e3 : i + 3 ≡ suc (suc (suc i)) = omega arith in
      rw (e1, e2, e3) (sets-eq (four w) s i h)

-- a word that shares no byte with the stored one is as it was
pub word-other : (s : List ℕ) (i w j : ℕ) → (j + 4 ≤ i) ⊎ (i + 4 ≤ j) → word_at (put_word s i w) j ≡ word_at s j
unfolding word_at
word-other s i w j d =
    let o : (k : ℕ) → k < 4 → get_or (put_word s i w) (j + k) 0 ≡ get_or s (j + k) 0 = λ k hk.
    ⊎_elim
    (λ b. byte_other s i w (j + k) (λ e. omega arith) (λ e. omega arith) (λ e. omega arith) (λ e. omega arith))
    (λ a. byte_other s i w (j + k) (λ e. omega arith) (λ e. omega arith) (λ e. omega arith) (λ e. omega arith))
    d in
    let o0 : get_or (put_word s i w) j 0 ≡ get_or s j 0 = simp add-zero at (o 0 (omega arith)) in
    omega (arith, o 1 (omega arith), o 2 (omega arith), o 3 (omega arith), o0)

-- ---- a list of words
pub length-bytes : (ws : List ℕ) → length (bytes ws) ≡ length ws * 4
unfolding bytes
length-bytes [] = refl
length-bytes (w ∷ ws) = omega (arith, length-bytes ws)

bytes-append : (a b : List ℕ) → bytes (a ++ b) ≡ bytes a ++ bytes b
unfolding bytes
bytes-append [] b = refl
bytes-append (w ∷ a) b = rw (bytes-append a b)

-- a word of what is left past the first n bytes
pub word-drop : (s : List ℕ) (n i : ℕ) → word_at (drop n s) i ≡ word_at s (n + i)
unfolding word_at
word-drop s n i = simp (get_or-drop, add_assoc)

-- and of the first n bytes
pub word-take : (s : List ℕ) (n i : ℕ) → i + 4 ≤ n → word_at (take n s) i ≡ word_at s i
unfolding word_at
word-take s n i h =
    rw (get_or-take n s i 0 (omega arith), get_or-take n s (i + 1) 0 (omega arith), get_or-take n s (i + 2) 0 (omega arith), get_or-take n s (i + 3) 0 (omega arith))

-- the words come back
pub word_bytes : (ws : List ℕ) (i : ℕ) → i < length ws → get_or ws i 0 < 2 ^ 32 → word_at (bytes ws) (i * 4) ≡ get_or ws i 0
unfolding word_at bytes
word_bytes [] i h b = absurd (omega arith)
word_bytes (w ∷ ws) zero h b = le32-bytes w ∙ omega arith
word_bytes (w ∷ ws) (suc i) h b =
    let e : suc i * 4 ≡ 4 + i * 4 = omega arith in
    rw e (sym (word-drop (bytes (w ∷ ws)) 4 (i * 4)) ∙ word_bytes ws i (omega arith) b)

-- ---- a loop that writes words to the front of lent bytes, one store a turn
abbrev pub front : (ℕ → ℕ) → ℕ → List ℕ → List ℕ
front f n d = bytes (tab f n) ++ drop (n * 4) d

pub front_none : (f : ℕ → ℕ) (d : List ℕ) → front f 0 d ≡ d
unfolding tab bytes
front_none f d = refl

pub front_more : (f : ℕ → ℕ) (i : ℕ) (d : List ℕ) → i * 4 + 4 ≤ length d → put_word (front f i d) (i * 4) (f i) ≡ front f (i + 1) d
unfolding tab bytes
front_more f i d h =
    let p = bytes (tab f i) in
    let l : length p ≡ i * 4 = length-bytes (tab f i) ∙ rw (length-tab f i) in
    let fits : i * 4 + 4 ≤ length (p ++ drop (i * 4) d) = simp (length-append, length-drop, l) (omega arith) in
    let next : i * 4 + 4 ≡ (i + 1) * 4 = omega arith in
    let rest : drop (i * 4 + 4) (p ++ drop (i * 4) d) ≡ drop ((i + 1) * 4) d =
    ap (λ (k : ℕ). drop (k + 4) (p ++ drop (i * 4) d)) (sym l)
    ∙ drop-append-add p (drop (i * 4) d) 4
    ∙ drop-drop 4 (i * 4) d
    ∙ ap (λ (k : ℕ). drop k d) next in
    put_eq (p ++ drop (i * 4) d) (i * 4) (f i) fits
    ∙ ap₂ (λ (x y : List ℕ). x ++ four (f i) ++ y) (take_at p (drop (i * 4) d) (i * 4) l) rest
    ∙ rw (add-one i, bytes-append (tab f i) (f i ∷ []))

-- ---- bytes, read as words and written again
module _ (a b c d : ℕ) (ha : a < 256) (hb : b < 256) (hc : c < 256) (hd : d < 256) where
  four_0 : le32 a b c d % 256 ≡ a
  four_0 = omega arith

  four_1 : le32 a b c d / 256 % 256 ≡ b
  four_1 = omega arith

  four_2 : le32 a b c d / 65536 % 256 ≡ c
  four_2 = omega arith

  four_3 : le32 a b c d / 16777216 % 256 ≡ d
  four_3 = omega arith

module _ (s : List ℕ) (small : Below 256 s) where
  pub word_small : (i : ℕ) → word_at s i < 2 ^ 32
  unfolding word_at
  word_small i = omega (arith, small i, small (i + 1), small (i + 2), small (i + 3))

  -- a word stored where it stands changes nothing
  put_back : (i : ℕ) → put_word s i (word_at s i) ≡ s
  unfolding put_word word_at
  put_back i =
      let a = get_or s i 0 in
      let b = get_or s (i + 1) 0 in
      let c = get_or s (i + 2) 0 in
      let d = get_or s (i + 3) 0 in
      let ha = small i in
      let hb = small (i + 1) in
      let hc = small (i + 2) in
      let hd = small (i + 3) in
      simp (four_0 a b c d ha hb hc hd, four_1 a b c d ha hb hc hd, four_2 a b c d ha hb hc hd, four_3 a b c d ha hb hc hd, set-get_or)

  front-back : (n : ℕ) → n * 4 ≤ length s → front (λ i. word_at s (i * 4)) n s ≡ s
  front-back zero h = front_none (λ i. word_at s (i * 4)) s
  front-back (suc n) h =
      rw (← add-one n)
      (sym (front_more (λ i. word_at s (i * 4)) n s (omega arith))
      ∙ ap (λ (x : List ℕ). put_word x (n * 4) (word_at s (n * 4))) (front-back n (omega arith))
      ∙ put_back (n * 4))

  pub words_back : (n : ℕ) → length s ≡ n * 4 → bytes (tab (λ i. word_at s (i * 4)) n) ≡ s
  words_back n h =
      let e : drop (n * 4) s ≡ [] = drop_of_length-le s {i = n * 4} (omega arith) in
      sym (append-nil _) ∙ ap (λ (x : List ℕ). bytes (tab (λ i. word_at s (i * 4)) n) ++ x) (sym e) ∙ front-back n (omega arith)
