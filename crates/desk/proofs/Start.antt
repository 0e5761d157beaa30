-- The text of a question that no event answers: a 0 alone.
-- Assumes nothing.
use Prim.Native.Nat.{ℕ}
use mathlib.Core.Path.{◌≡◌, refl}
use mathlib.Core.Logic.{◌↔◌}
use mathlib.Core.List.{List}
use Rattle.why.specs.Why.{since_tracks_of}
use Rattle.desk.specs.Text.{start_line, since_text}
use Rattle.desk.proofs.Texts.{text_start, only_start}

-- 'RL up from the start gives position 0': a 0 alone is printed exactly there, and never for a refusal
pub start_iff : (s : List ℕ) (k : ℕ) → (since_text s k ≡ start_line) ↔ (((since_tracks_of s k).number ≡ 0) × ((since_tracks_of s k).position ≡ 0))
start_iff s k = (only_start s k (since_tracks_of s k) refl, λ h. text_start s k (since_tracks_of s k) refl h.0 h.1)
