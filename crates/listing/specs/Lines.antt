-- The lines of the listing. 01, 'The program and one listing': 'Single spaces, each line ended by a line feed.'
-- Assumes nothing.
use Rattle.std.specs.Prelude.{ℕ, ◌≡◌, List, [], ◌∷◌, ◌++◌, eqb, length}
use Rattle.relay.specs.Choice.{pick}
use Rattle.sheet.specs.Layout.{two_tracks, upper_bits}
use Rattle.digits.specs.Digits.{digits}
use Rattle.digits.specs.Texts.{stored}

abbrev pub space : ℕ
space = 32

abbrev pub line_feed : ℕ
line_feed = 10

-- numbers, each after a single space
unfoldable pub spaced : List ℕ → List ℕ
spaced [] = []
spaced (n ∷ ns) = space ∷ (digits n ++ spaced ns)

-- numbers, each after a single space, then the line feed
abbrev pub ended : List ℕ → List ℕ
ended ns = spaced ns ++ (line_feed ∷ [])

-- a word or a number, then numbers, then the line feed
abbrev pub line : List ℕ → List ℕ → List ℕ
line first ns = first ++ ended ns

-- 02, item 7: of a two-track sheet 'its listing lines get that bit as a last field'; in one of one track there is no such field
unfoldable pub track_named : ℕ → ℕ → List ℕ
track_named form track = pick (eqb form two_tracks) (track ∷ []) []

-- 'one line per event: position from 1, event, post, answer', and the track's field
unfoldable pub event_line : ℕ → ℕ → ℕ → ℕ → List ℕ → List ℕ
event_line position event post answer track = line (digits position) (event ∷ post ∷ answer ∷ track)

-- 'S, section, a, r, x, q, e, y, v, g, h'
-- the section and its nine numbers, after the letter S, and the track's field
unfoldable pub section_line : List ℕ → List ℕ → List ℕ
section_line ns track = line (83 ∷ []) (ns ++ track)

-- 02, item 6: after 24 'the event's position in the block, from 0 (printed last)'; after any other number nothing
unfoldable pub event_named : ℕ → ℕ → List ℕ
event_named number position = pick (eqb number upper_bits) (position ∷ []) []

-- the word "refused"
abbrev pub refused_word : List ℕ
refused_word = 114 ∷ 101 ∷ 102 ∷ 117 ∷ 115 ∷ 101 ∷ 100 ∷ []

-- '"refused", its number and the block', or another place
unfoldable pub refused_line : ℕ → ℕ → ℕ → List ℕ
refused_line number place position = line refused_word (number ∷ place ∷ event_named number position)

-- what a call that puts a text states: r is its length, and it stands at the front of the lent bytes; what stands past it stays
abbrev pub Lined : List ℕ → ℕ → List ℕ → List ℕ → Type 0
Lined t r out out' = (r ≡ length t) × (out' ≡ stored out 0 t)
