-- What one read and one write of known bytes make of a reading and of a writing.
-- Assumes nothing.
use Rattle.std.proofs.Common.{◌≡◌, ℕ, zero, suc, ◌+◌, ◌-◌, ◌<◌, ◌≤◌, List, ◌++◌, Option, Result, Ok, Err, Continue, Break, refl, sym, ap, ◌∙◌, subst, arith, length, take, drop, drop_at, le_refl, append-nil, length-take-le}
use Rattle.std.proofs.lemmas.List.{take_rest}
use Rattle.std.proofs.lemmas.Slice.{take-put_mid_below}
use Rattle.std.specs.Io.{ReadsAtMost, WritesAtMost}
use Rattle.std.specs.Io.KnownBytes.{Appends, Consumes, ReadConsumes, WriteAppends, IsAtEnd}
use Rattle.std.proofs.KnownBytes.{Appends-trans, Appends-kept, Consumes-trans, Consumes-kept}
use borrow.Rule.Slice.PartMut.{put_mid, post_of}
use lib.Seq.{take-add, take-append-le}
use Rattle.stream.specs.declared.Unread.{Unread}
use Rattle.stream.specs.declared.Unwritten.{Unwritten}
use Rattle.stream.specs.Steps.{after_read, after_write, further}

module _ {E : Type 0} (a b c : Option (List ℕ)) (front buf : List ℕ) (at room : ℕ) where
  -- a read after which the reading goes on took bytes
  pub reads_more : (r : Result ℕ E) (p : ℕ) → after_read r at room ≡ Ok (Continue p) → ReadsAtMost r buf → ReadConsumes b c r buf
      → length buf ≡ room - at → at < room → Consumes a b front
      → (n : ℕ) × (p ≡ at + n) × (n ≤ length buf) × Consumes a c (front ++ take n buf)
  unfolding after_read
  reads_more (Ok zero) p e w t l h f = cc e
  reads_more (Ok (suc k)) p e w t l h f =
      let fits : suc k ≤ length buf = w.0 in
      let q : further at room (suc k) ≡ p = cc e in
      (suc k, omega arith, fits, Consumes-trans _ _ _ _ _ f t.0)
  reads_more (Err x) p e w t l h f = cc e

  -- one after which it is over found the end
  pub reads_no_more : (r : Result ℕ E) (n : ℕ) → after_read r at room ≡ Ok (Break n) → ReadConsumes b c r buf
      → 0 < length buf → Consumes a b front → Consumes a c front × IsAtEnd c
  unfolding after_read
  reads_no_more (Ok zero) n e t l f = (subst (Consumes a c) (append-nil front) (Consumes-trans _ _ _ _ _ f t.0), t.1 refl l)
  reads_no_more (Ok (suc k)) n e t l f = cc e
  reads_no_more (Err x) n e t l f = cc e

  -- and one after which it has failed took none
  pub reads_none : (r : Result ℕ E) (u : Unread) → after_read r at room ≡ Err u → ReadConsumes b c r buf → Consumes a b front → Consumes a c front
  unfolding after_read
  reads_none (Ok zero) u e t f = cc e
  reads_none (Ok (suc k)) u e t f = cc e
  reads_none (Err x) u e t f = Consumes-kept _ _ _ _ f t

  -- a write after which the writing goes on took bytes
  pub writes_more : (r : Result ℕ E) (p : ℕ) → after_write r at room ≡ Ok p → WritesAtMost r buf → WriteAppends b c r buf
      → length buf ≡ room - at → at < room → Appends a b front
      → (n : ℕ) × (p ≡ at + n) × (n ≤ length buf) × Appends a c (front ++ take n buf)
  unfolding after_write
  writes_more (Ok zero) p e w t l h f = cc e
  writes_more (Ok (suc k)) p e w t l h f =
      let fits : suc k ≤ length buf = w in
      let q : further at room (suc k) ≡ p = cc e in
      (suc k, omega arith, fits, Appends-trans _ _ _ _ _ f t)
  writes_more (Err x) p e w t l h f = cc e

  -- and one after which it has failed took none
  pub writes_none : (r : Result ℕ E) (u : Unwritten) → after_write r at room ≡ Err u → WriteAppends b c r buf → Appends a b front → Appends a c front
  unfolding after_write
  writes_none (Ok zero) u e t f = subst (Appends a c) (append-nil front) (Appends-trans _ _ _ _ _ f t)
  writes_none (Ok (suc k)) u e t f = cc e
  writes_none (Err x) u e t f = Appends-kept _ _ _ _ f t

-- ---- what was written stands at the front of the text
pub take_more : (at n p : ℕ) (text : List ℕ) → p ≡ at + n → take at text ++ take n (take (length text - at) (drop at text)) ≡ take p text
take_more at n p text e = ap (λ l. take at text ++ take n l) (take_rest text at) ∙ sym (take-add at n text) ∙ ap (λ m. take m text) (sym e)

-- ---- what was read stands at the front of the room
module _ (at : ℕ) (room buf : List ℕ) (within : at ≤ length room) where
  abbrev pub filled : List ℕ
  filled = put_mid at (length room - at) room buf

  pub before_filled : take at filled ≡ take at room
  before_filled = take-put_mid_below _ _ _ _ _ (le_refl _) within

  part : (n : ℕ) → n ≤ length buf → take n (drop at filled) ≡ take n buf
  part n fits =
      ap (take n) (drop_at (take at room) (buf ++ post_of at (length room - at) room) at (length-take-le at room within)) ∙ take-append-le n buf (post_of at (length room - at) room) fits

  pub filled_more : (n p : ℕ) → p ≡ at + n → n ≤ length buf → take at room ++ take n buf ≡ take p filled
  filled_more n p e fits = ap (λ l. take at room ++ l) (sym (part n fits)) ∙ ap (λ l. l ++ take n (drop at filled)) (sym before_filled) ∙ sym (take-add at n filled) ∙ ap (λ m. take m filled) (sym e)
