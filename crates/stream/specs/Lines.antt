-- The lines that are said on standard error of an input or an output that failed.
-- Assumes nothing.
use Rattle.std.specs.Prelude.{ℕ, List, ◌++◌, codes}

abbrev pub unread : List ℕ
unread = codes "the input could not be read"

abbrev pub unwritten : List ℕ
unwritten = codes "the output could not be written"

-- a line with its end, a line feed
abbrev pub line : List ℕ → List ℕ
line text = text ++ codes "\n"
