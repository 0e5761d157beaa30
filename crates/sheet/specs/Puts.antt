-- Bytes after a run of words is stored in them: what the writers of a block are stated by. The laws stand in proofs/Puts.antt.
-- Assumes nothing.
use Rattle.std.specs.Prelude.{ℕ, zero, suc, ◌+◌, ◌*◌, List, []}
use Rattle.sheet.specs.Layout.{block_bytes, block_words}
use Rattle.sheet.specs.Words.{put_word}
use Rattle.sheet.specs.Sheet.{Tracked, sheet_word}

-- d after g's first n values are stored as words from the byte offset at on
unfoldable pub puts : (ℕ → ℕ) → ℕ → ℕ → List ℕ → List ℕ
puts g at zero d = d
puts g at (suc n) d = put_word (puts g at n d) (at + n * 4) (g n)

-- d after block b of the sheet t is stored
abbrev pub put_block : Tracked → ℕ → List ℕ → List ℕ
put_block t b d = puts (sheet_word t b) (b * block_bytes) block_words d

-- as much of a sheet as its block 0 says, and as much as its later blocks say
abbrev pub head_only : ℕ → ℕ → List ℕ → Tracked
head_only form stamp table = record { form = form; stamp = stamp; table = table; events = []; tracks = [] }

abbrev pub events_only : List (List ℕ) → List ℕ → Tracked
events_only events tracks = record { form = 0; stamp = 0; table = []; events = events; tracks = tracks }
