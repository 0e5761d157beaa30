-- A text stored in lent bytes from a place on: what stands before and after it stays; one byte more, one text more.
-- Assumes nothing.
use Prim.Native.Nat.{ℕ, suc, ◌+◌, ◌≤◌, ◌<◌}
use mathlib.Core.Path.{◌≡◌, sym, ap, ◌∙◌}
use mathlib.Core.List.{List, [], ◌∷◌, ◌++◌, append_assoc}
use native.Mathlib.Omega.{arith}
use lib.ListN.{length, get_or, set, take, drop, length-append, length-take, length-drop, take-append-drop}
use lib.Seq.{drop-cons, set_at, length-take-le, take_at, drop-append-add, drop-drop}
use Rattle.digits.specs.Texts.{stored, Put}

-- no text
pub stored_none : (d : List ℕ) (k : ℕ) → stored d k [] ≡ d
unfolding stored
stored_none d k = let e : k + 0 ≡ k = omega arith in rw e (take-append-drop k d)

pub length-stored : (d : List ℕ) (k : ℕ) (t : List ℕ) → k + length t ≤ length d → length (stored d k t) ≡ length d
unfolding stored
length-stored d k t h = simp (length-append, length-take, length-drop) (omega arith)

-- a text that stands in bytes is no longer than they are
pub text-within : (d : List ℕ) (k : ℕ) (t : List ℕ) → length t ≤ length (stored d k t)
unfolding stored
text-within d k t = simp length-append (omega arith)

-- one byte more
pub stored_more : (d : List ℕ) (k : ℕ) (t : List ℕ) (b : ℕ) → k + length t < length d → set (stored d k t) (k + length t) b ≡ stored d k (t ++ (b ∷ []))
unfolding stored
stored_more d k t b h =
    let p = take k d ++ t in
    let n : length p ≡ k + length t = length-append (take k d) t ∙ rw (length-take-le k d (omega arith)) in
    let e : k + length (t ++ (b ∷ [])) ≡ suc (k + length t) = rw length-append (omega arith) in
    rw (e, drop-cons d (k + length t) 0 h, ← append_assoc (take k d) t)
    (set_at p (get_or d (k + length t) 0) (drop (suc (k + length t)) d) b (k + length t) n ∙ simp append_assoc)

-- a text of one byte
pub put_one : (d : List ℕ) (k b : ℕ) → k < length d → set d k b ≡ stored d k (b ∷ [])
put_one d k b h =
    let e : k + 0 ≡ k = omega arith in
    sym (ap (λ (xs : List ℕ). set xs k b) (stored_none d k)) ∙ (rw e at (stored_more d k [] b (omega arith)))

-- a text stored right after a text
pub stored-then : (d : List ℕ) (k : ℕ) (t u : List ℕ) → k + length t + length u ≤ length d → stored (stored d k t) (k + length t) u ≡ stored d k (t ++ u)
unfolding stored
stored-then d k t u h =
    let p = take k d ++ t in
    let K = k + length t in
    let r = drop K d in
    let X = take k d ++ (t ++ r) in
    let n : length p ≡ K = length-append (take k d) t ∙ rw (length-take-le k d (omega arith)) in
    let e : X ≡ p ++ r = sym (append_assoc (take k d) t r) in
    let a : take K X ≡ p = ap (λ (xs : List ℕ). take K xs) e ∙ take_at p r K n in
    let b : drop (K + length u) X ≡ drop (K + length u) d =
    ap (λ (xs : List ℕ). drop (K + length u) xs) e
    ∙ ap (λ (j : ℕ). drop (j + length u) (p ++ r)) (sym n)
    ∙ drop-append-add p r (length u)
    ∙ drop-drop (length u) K d in
    let m : k + length (t ++ u) ≡ K + length u = rw length-append (omega arith) in
    rw (a, b, m) (append_assoc (take k d) t (u ++ drop (K + length u) d) ∙ ap (λ (xs : List ℕ). take k d ++ xs) (sym (append_assoc t u (drop (K + length u) d))))

-- ---- after a call that put the text t
module _ (d out t : List ℕ) (k r : ℕ) (put : Put t k r d out) where
  pub put_length : k + length t ≤ length d → length out ≡ length d
  put_length h = ap (λ (xs : List ℕ). length xs) put.1 ∙ length-stored d k t h

  -- one byte more
  pub put_byte : (b : ℕ) → k + length t < length d → Put (t ++ (b ∷ [])) k (r + 1) d (set out r b)
  put_byte b h = (rw length-append (omega (arith, put.0)), rw (put.1, put.0) (stored_more d k t b h))

  -- one text more
  pub put_then : (u : List ℕ) (p : ℕ) (end : List ℕ) → k + length t + length u ≤ length d → Put u r p out end → Put (t ++ u) k p d end
  put_then u p end h next =
      (rw length-append (omega (arith, put.0, next.0)), next.1 ∙ rw (put.1, put.0) (stored-then d k t u h))

-- one text more: where t stands, u is put right after it
module _ (d out t u t' : List ℕ) (k p : ℕ) (stands : out ≡ stored d k t) (place : p ≡ k + length t) (more : t' ≡ t ++ u) (fits : p + length u ≤ length d) where
  pub next_stands : stored out p u ≡ stored d k t'
  next_stands = rw (stands, place, more) (stored-then d k t u (omega (arith, place)))

  pub next_place : p + length u ≡ k + length t'
  next_place = rw (more, length-append) (omega (arith, place))
