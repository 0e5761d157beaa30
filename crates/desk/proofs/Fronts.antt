-- A text that a call put at the front of a room stands in it.
-- Assumes nothing.
use Rattle.std.proofs.Common.{ℕ, ◌≡◌, ◌≤◌, List, length, take, sym, length-take-le}
use Rattle.digits.proofs.Stores.{text-within}
use Rattle.listing.specs.Lines.{Lined}

pub stands : (t : List ℕ) (m : ℕ) (old new : List ℕ) → Lined t m old new → m ≤ length new
stands t m old new h = rw (h.0, h.1) (text-within _ 0 _)

pub front : (t : List ℕ) (m : ℕ) (old new : List ℕ) → Lined t m old new → m ≡ length (take m new)
front t m old new h = sym (length-take-le _ _ (stands t m old new h))
