-- Events taken one after the other, and what is said of each: one event more. Over any step f, and any g that says what is told of an event where it stands; the runs of a sheet of one track and of either form are two of them.
-- Assumes nothing.
use Prim.Native.Nat.{ℕ, zero, suc, ◌+◌, ◌<◌}
use mathlib.Core.Path.{◌≡◌, refl, sym, ap, ◌∙◌}
use mathlib.Core.List.{List, [], ◌∷◌, ◌++◌}
use native.Mathlib.Numerals.{add-one}
use native.Mathlib.Omega.{arith}
use lib.ListN.{length, get_or, set, take, drop}
use lib.Seq.{take-suc, drop-cons, set_at, append_snoc, length-take-le, get_or_at}

-- run takes the events by f, and said is what g says of each
pub record Goes {S : Type 0} (f : S → List ℕ → S) (g : S → List ℕ → List ℕ) (run : S → List (List ℕ) → S) (said : S → List (List ℕ) → List (List ℕ)) : Type 0 where
  pub run_none : (a : S) → run a [] ≡ a
  pub run_first : (a : S) (e : List ℕ) (es : List (List ℕ)) → run a (e ∷ es) ≡ run (f a e) es
  pub said_none : (a : S) → said a [] ≡ []
  pub said_first : (a : S) (e : List ℕ) (es : List (List ℕ)) → said a (e ∷ es) ≡ g a e ∷ said (f a e) es

module _ {S : Type 0} {f : S → List ℕ → S} {g : S → List ℕ → List ℕ} {run : S → List (List ℕ) → S} {said : S → List (List ℕ) → List (List ℕ)} (w : Goes f g run said) where
  run-append : (a : S) (xs ys : List (List ℕ)) → run a (xs ++ ys) ≡ run (run a xs) ys
  run-append a [] ys = ap (λ (b : S). run b ys) (sym (w.run_none a))
  run-append a (x ∷ xs) ys = w.run_first a x (xs ++ ys) ∙ run-append (f a x) xs ys ∙ ap (λ (b : S). run b ys) (sym (w.run_first a x xs))

  said-append : (a : S) (xs ys : List (List ℕ)) → said a (xs ++ ys) ≡ said a xs ++ said (run a xs) ys
  said-append a [] ys = rw (w.said_none a, w.run_none a) refl
  said-append a (x ∷ xs) ys =
      w.said_first a x (xs ++ ys)
      ∙ ap (λ (l : List (List ℕ)). g a x ∷ l) (said-append (f a x) xs ys)
      ∙ rw (w.said_first a x xs, w.run_first a x xs) refl

  -- as many answers as events
  pub said-long : (a : S) (es : List (List ℕ)) → length (said a es) ≡ length es
  said-long a [] = rw (w.said_none a) refl
  said-long a (e ∷ es) = rw (w.said_first a e es) (ap suc (said-long (f a e) es))

  -- what is said of event i, where it stands
  pub said_at : (a : S) (es : List (List ℕ)) (i : ℕ) → i < length es → get_or (said a es) i [] ≡ g (run a (take i es)) (get_or es i [])
  said_at a [] i h = absurd (omega (arith, h))
  said_at a (e ∷ es) zero h = rw (w.said_first a e es, w.run_none a) refl
  said_at a (e ∷ es) (suc i) h = rw (w.said_first a e es, w.run_first a e (take i es)) (said_at (f a e) es i (omega arith))

  -- the events xs, and a room of as many into which what is said of them is stored
  module _ (a : S) (xs room : List (List ℕ)) (same : length xs ≡ length room) (i : ℕ) (h : i < length xs) where
    abbrev now : S
    now = run a (take i xs)

    abbrev x : List ℕ
    x = get_or xs i []

    pub run_more : run a (take (i + 1) xs) ≡ f now x
    run_more = rw (add-one, take-suc xs i [] h, run-append, w.run_first, w.run_none) refl

    stored : length (said a (take i xs)) ≡ i
    stored = said-long a (take i xs) ∙ length-take-le i xs (omega arith)

    pub said_more : set (said a (take i xs) ++ drop i room) i (g now x) ≡ said a (take (i + 1) xs) ++ drop (i + 1) room
    said_more =
        let one : said now (x ∷ []) ≡ g now x ∷ [] = w.said_first now x [] ∙ rw (w.said_none (f now x)) refl in
        rw (add-one, take-suc xs i [] h, said-append, one, drop-cons room i [] (omega arith))
        (set_at (said a (take i xs)) (get_or room i []) (drop (suc i) room) (g now x) i stored
        ∙ sym (append_snoc (said a (take i xs)) (g now x) (drop (suc i) room)))

    -- place i of the room is still as it was
    pub still : get_or (said a (take i xs) ++ drop i room) i [] ≡ get_or room i []
    still = rw (drop-cons room i [] (omega arith)) (get_or_at (said a (take i xs)) (get_or room i []) (drop (suc i) room) [] i stored)
