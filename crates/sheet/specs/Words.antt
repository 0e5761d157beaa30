-- Little-endian 32-bit words in bytes. 01, 'The event sheet'. The laws stand in proofs/Bytes.antt.
-- Assumes nothing.
use Rattle.std.specs.Prelude.{ℕ, zero, suc, ◌+◌, ◌*◌, ◌/◌, ◌%◌, List, [], ◌∷◌, ◌++◌, get_or, set}

-- the word of four bytes, the lowest first
abbrev pub le32 : ℕ → ℕ → ℕ → ℕ → ℕ
le32 a b c d = a + b * 256 + c * 65536 + d * 16777216

-- the word that stands at the byte offset i
unfoldable pub word_at : List ℕ → ℕ → ℕ
word_at s i = le32 (get_or s i 0) (get_or s (i + 1) 0) (get_or s (i + 2) 0) (get_or s (i + 3) 0)

-- the bytes after the word w is stored at the byte offset i
unfoldable pub put_word : List ℕ → ℕ → ℕ → List ℕ
put_word s i w =
    set (set (set (set s i (w % 256)) (i + 1) (w / 256 % 256)) (i + 2) (w / 65536 % 256)) (i + 3) (w / 16777216 % 256)

-- the bytes of a list of words
unfoldable pub bytes : List ℕ → List ℕ
bytes [] = []
bytes (w ∷ ws) = w % 256 ∷ w / 256 % 256 ∷ w / 65536 % 256 ∷ w / 16777216 % 256 ∷ bytes ws

-- the list of f's first n values
unfoldable pub tab : {X : Type 0} → (ℕ → X) → ℕ → List X
tab f zero = []
tab f (suc n) = tab f n ++ (f n ∷ [])
