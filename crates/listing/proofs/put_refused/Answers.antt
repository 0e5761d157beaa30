-- `listing::put_refused` meets its contract: the word, the number, a space, the place and the line feed, each right after what stands.
-- ---- the numbers, and how long they are
use Prim.Native.Nat.{ℕ, ◌+◌, ◌<◌, ◌≤◌}
use mathlib.Core.Path.{◌≡◌, refl, ap, ◌∙◌}
use mathlib.Core.List.{List, [], ◌∷◌, ◌++◌}
use native.Mathlib.Omega.{arith}
use borrow.Author.Rules.{rules}
use lib.Dec.{eqb}
use lib.ListN.{length, set, take, drop, length-drop, length-append, length-set}
use lib.Seq.{length-take-le}
use Rattle.relay.specs.Choice.{pick}
use Rattle.sheet.specs.Layout.{upper_bits}
use Rattle.digits.specs.Digits.{digits}
use Rattle.digits.specs.Texts.{stored, Put}
use Rattle.digits.proofs.Value.{digits_long, digits-long_64}
use Rattle.digits.proofs.Stores.{put_length, put_byte, put_then}
use Rattle.listing.specs.Lines.{space, ended, event_named}
use Rattle.listing.proofs.Refused.{refused, refused_put, named-part, named-long, refused-pieces}
use Rattle.listing.proofs.Spaces.{part-few}
use Rattle.listing.proofs.put_refused.Goals as goal

-- the event that is named is at most one number
named-few : (n k e : ℕ) → k ≡ pick (eqb n upper_bits) 1 0 → length (take k (e ∷ [])) ≤ 1
named-few n k e z = let m : k ≤ 1 = rw z (part-few (eqb n upper_bits)) in rw (length-take-le k (e ∷ []) m) m

-- ---- what stands, in bytes d of which there are 128
module _ (d : List ℕ) (long : 128 ≤ length d) (n p e : ℕ) (n_fits : n < 4294967296) (p_fits : p < 18446744073709551616) (e_fits : e < 4294967296) where
  number-long : length (digits n) ≤ 10
  number-long = digits_long n n_fits

  place-long : length (digits p) ≤ 20
  place-long = digits-long_64 p p_fits

  rest-long : length (ended (event_named n e)) ≤ 12
  rest-long = named-long n e (digits_long e e_fits)

  -- the word and the number
  abbrev one : List ℕ
  one = refused ++ digits n

  -- and the space and the place
  abbrev two : List ℕ
  two = (one ++ (space ∷ [])) ++ digits p

  abbrev word : List ℕ
  word = refused ++ drop 8 d

  first : (r : ℕ) (o : List ℕ) → Put (digits n) 8 r word o → Put one 0 r d o
  first r o h = put_then d _ refused 0 8 (refl, refused_put d) (digits n) _ _ (omega (arith, number-long)) h

  -- where the number ends, and that the bytes are as many as before
  first-ends : (r : ℕ) (o : List ℕ) → Put (digits n) 8 r word o → (r ≤ 18) × (length o ≡ length d)
  first-ends r o h = let f = first r o h in (omega (arith, number-long, f.0), put_length _ _ _ 0 _ f (omega (arith, number-long)))

  second : (r q : ℕ) (o u : List ℕ) → Put (digits n) 8 r word o → Put (digits p) (r + 1) q (set o r space) u → Put two 0 q d u
  second r q o u h g =
      put_then d _ (one ++ (space ∷ [])) 0 _ (put_byte d _ _ 0 _ (first r o h) space (omega (arith, number-long))) (digits p) _ _ (simp length-append (omega (arith, number-long, place-long))) g

  -- all of which fits
  fits : 0 + length two ≤ 39
  fits = simp length-append (omega (arith, number-long, place-long))

  second-ends : (r q : ℕ) (o u : List ℕ) → Put (digits n) 8 r word o → Put (digits p) (r + 1) q (set o r space) u → (q ≤ 39) × (length u ≡ length d)
  second-ends r q o u h g = let f = second r q o u h g in (omega (arith, fits, f.0), put_length _ _ _ 0 _ f (omega (arith, fits)))

  -- and the rest of the line
  all : (r q k t : ℕ) (o u v : List ℕ) → Put (digits n) 8 r word o → Put (digits p) (r + 1) q (set o r space) u → k ≡ pick (eqb n upper_bits) 1 0
      → Put (ended (take k (e ∷ []))) q t u v → Put (two ++ ended (event_named n e)) 0 t d v
  all r q k t o u v h g z j =
      put_then d _ two 0 _ (second r q o u h g) (ended (event_named n e)) _ _ (omega (arith, fits, rest-long)) (rw (z, named-part n e) at j)

pub put_number-p-requires : goal.put_number-p-requires
put_number-p-requires c = rw c.copy_from_slice.ensures.after (simp (length-append, length-drop) (omega (arith, digits_long c.args.number (omega arith))))

pub bounds-out-p : goal.bounds-out-p
bounds-out-p c = let a = c.args in
    omega (arith, first-ends a.out.now (omega arith) a.number a.place a.position (omega arith) (omega arith) (omega arith) _ _ (rw c.copy_from_slice.ensures.after at c.put_number-p.ensures))

pub overflow_add-p : goal.overflow_add-p
overflow_add-p c = let a = c.args in
    let f = first-ends a.out.now (omega arith) a.number a.place a.position (omega arith) (omega arith) (omega arith) _ _ (rw c.copy_from_slice.ensures.after at c.put_number-p.ensures) in
    search rules

pub put_number-q-requires : goal.put_number-q-requires
put_number-q-requires c = let a = c.args in
    let f = first-ends a.out.now (omega arith) a.number a.place a.position (omega arith) (omega arith) (omega arith) _ _ (rw c.copy_from_slice.ensures.after at c.put_number-p.ensures) in
    simp length-set (omega (arith, f, digits-long_64 a.place (omega arith)))

pub put_rest-requires : goal.put_rest-requires
put_rest-requires c = let a = c.args in
    let f = second-ends a.out.now (omega arith) a.number a.place a.position (omega arith) (omega arith) (omega arith) _ _ _ _ (rw c.copy_from_slice.ensures.after at c.put_number-p.ensures) c.put_number-q.ensures in
    let k = named-few a.number _ a.position c.events_named-k.ensures in
    (omega (arith, k), omega (arith, f, k))

pub returns : goal.returns
returns c = let a = c.args in
    let w = all a.out.now (omega arith) a.number a.place a.position (omega arith) (omega arith) (omega arith) _ _ _ _ _ _ _ (rw c.copy_from_slice.ensures.after at c.put_number-p.ensures) c.put_number-q.ensures c.events_named-k.ensures c.put_rest.ensures.put in
    let e = refused-pieces a.number a.place a.position in
    (omega (arith, w.0, ap (λ (t : List ℕ). length t) e), w.1 ∙ ap (stored a.out.now 0) e)
