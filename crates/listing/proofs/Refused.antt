-- The line of a refusal: what it says, the word "refused" and its space, and the line as the pieces that are put one after the other.
-- Assumes nothing.
use Prim.Native.Nat.{ℕ, ◌≤◌}
use mathlib.Core.Path.{◌≡◌, refl}
use mathlib.Core.List.{List, [], ◌∷◌, ◌++◌, append_assoc}
use native.Mathlib.Omega.{arith}
use borrow.Author.Tests.{ne_eqb}
use lib.Dec.{eqb}
use lib.ListN.{length, take, drop, length-append}
use Rattle.relay.proofs.Truth.{split}
use Rattle.relay.specs.Choice.{pick}
use Rattle.sheet.specs.Layout.{upper_bits}
use Rattle.digits.specs.Digits.{digits}
use Rattle.digits.specs.Texts.{stored}
use Rattle.listing.specs.Lines.{space, spaced, ended, line, event_named, refused_word, refused_line}
use Rattle.listing.proofs.Spaces.{part_only}

-- ---- what is printed. 02, item 6: `refused 24 BLOCK POSITION`, and every other refusal as before it
pub prints_event : (block position : ℕ) → refused_line 24 block position ≡ line refused_word (24 ∷ block ∷ position ∷ [])
unfolding refused_line event_named
prints_event block position = refl

pub prints_others : (number place position : ℕ) → (number ≡ 24 → ⊥) → refused_line number place position ≡ line refused_word (number ∷ place ∷ [])
unfolding refused_line event_named
prints_others number place position n = rw (ne_eqb number 24 n)

-- ---- how it is put
-- the word "refused" and a space
abbrev pub refused : List ℕ
refused = refused_word ++ (space ∷ [])

pub refused_put : (d : List ℕ) → refused ++ drop 8 d ≡ stored d 0 refused
unfolding stored
refused_put d = refl

-- the event that is named, as a part of one number
pub named-part : (n e : ℕ) → take (pick (eqb n upper_bits) 1 0) (e ∷ []) ≡ event_named n e
unfolding event_named
named-part n e = part_only (eqb n upper_bits) e

pub named-long : (n e : ℕ) → length (digits e) ≤ 10 → length (ended (event_named n e)) ≤ 12
unfolding event_named spaced
named-long n e h = split (eqb n upper_bits) (λ t. rw t (simp length-append (omega arith))) (λ t. rw t (omega arith))

-- the line in its pieces
pub refused-pieces : (n p e : ℕ) → (((refused ++ digits n) ++ (space ∷ [])) ++ digits p) ++ ended (event_named n e) ≡ refused_line n p e
unfolding refused_line spaced
refused-pieces n p e = simp append_assoc
