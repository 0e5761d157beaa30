-- The statement of `list` has one outcome: any two that satisfy it are equal, at every text, so at the listing of the sheet.
-- Assumes nothing.
use Prim.Native.Nat.{ℕ}
use mathlib.Core.Path.{◌≡◌, sym, ◌∙◌}
use mathlib.Core.List.{List}
use Rattle.listing.specs.Lines.{Lined}

pub lined_one : (t out : List ℕ) (r r' : ℕ) (end end' : List ℕ) → Lined t r out end → Lined t r' out end' → (r ≡ r') × (end ≡ end')
lined_one t out r r' end end' a b = (a.0 ∙ sym b.0, a.1 ∙ sym b.1)
