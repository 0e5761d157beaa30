-- The answer to an event is the number that the paper's table gives it, for every line, head, event, place and stamp; and the table gives exactly one. So is the answer on starting.
-- It holds down the order of the table, reason by reason: proofs/GivenReasons.antt has the reasons, proofs/GivenForms.antt the table as a list.
use Prim.Native.Nat.{ℕ, ◌+◌, ◌-◌, ◌%◌, ◌^◌, ◌≤◌, ◌<◌}
use mathlib.Core.Path.{◌≡◌, refl, sym, ap}
use mathlib.Core.Bool.{Bool, true, false, not, ◌&&◌, ◌||◌, and-true}
use mathlib.Core.List.{List, [], ◌∷◌}
use mathlib.Core.Logic.{◌↔◌}
use native.Mathlib.Omega.{arith}
use borrow.Author.Tests.{eq-eqb, ne_eqb}
use lib.Dec.{eqb, leb, ltb}
use lib.ListN.{length}
use Rattle.relay.specs.Choice.{pick}
use Rattle.relay.specs.Given.{event_reasons, reasons, given_by, given, last_right, other_right, others_right, kinds_right, table_wrong, start_reasons}
use Rattle.relay.specs.Kinds.{count_fits, kind_fits, kinds_fit, table_ok}
use Rattle.relay.specs.Line.{numbered, gate, answer_of, After, startable, start_of}
use Rattle.relay.specs.Posts.{at, form}
use Rattle.relay.specs.Valid.{valid}
use Rattle.relay.specs.declared.Head.{Head}
use Rattle.relay.specs.declared.Post.{Post}
use Rattle.relay.proofs.Facts.{valid_iff}
use Rattle.relay.proofs.KeptPosts.{kind-small}
use Rattle.relay.proofs.Truth.{facts, not_false_facts}
use Rattle.relay.proofs.GivenReasons.{first_form, own-form, gate_first, past, place, stamp}
use Rattle.relay.proofs.GivenForms.{first, absent, once, first_given, forms}

-- the post named is of a kind 0 to 4, in its ordinary form
kind-there : (l : List Post) (s : Head) (i : ℕ) → not (valid l s) ≡ false → i < length l → form (at l i) < 5
kind-there l s i v p =
    kind-small (length l) i (form (at l i))
    (((valid_iff l s).0 (simp not_false_facts at v)).each i p).kind

-- the answer is the first number of the table whose reason holds
answer_first : (l : List Post) (s : Head) (n i t : ℕ) → answer_of l s n i t ≡ first (reasons l s n i t)
unfolding first reasons answer_of gate numbered
answer_first l s n i t =
    past (not (valid l s)) 1
    (λ v.
    simp gate_first
    (past (not (leb 1 n && leb n 12)) 3
    (λ e.
    let h = simp facts at e in
    rw (place (length l) i n)
    (past (not (ltb i (length l)) || (eqb n 8 || eqb n 9 || eqb n 10) && not (ltb (i + 1) (length l))) 2
    (λ p.
    past (leb 1000000 s.taken) 5
    (λ f.
    rw stamp
    (past (leb (2 ^ 31) ((t + 2 ^ 32 - s.last) % 2 ^ 32)) 4
    (λ b. own-form l i (at l i).word n h.0 h.1 (at l i).kind (kind-there l s i v (simp facts at p).0)))))))))

-- ---- by the number
-- 'Given exactly when': the answer is k exactly when the paper's table gives k
pub answer_given : (l : List Post) (s : Head) (n i t k : ℕ) → (answer_of l s n i t ≡ k) ↔ (given k l s n i t ≡ true)
unfolding reasons event_reasons once absent
answer_given l s n i t k = first_given k (reasons l s n i t) refl (answer_first l s n i t)

-- exactly one number is given
pub one_given : (l : List Post) (s : Head) (n i t : ℕ)
    → (given (answer_of l s n i t) l s n i t ≡ true) × ((k : ℕ) → given k l s n i t ≡ true → k ≡ answer_of l s n i t)
one_given l s n i t =
    ((answer_given l s n i t (answer_of l s n i t)).0 refl, λ k e. sym ((answer_given l s n i t k).1 e))

-- ---- on starting
-- the posts past the first
others : (n i : ℕ) (ks : List ℕ) → 1 ≤ i → 1 ≤ length ks → i + length ks ≡ n → kinds_fit n i ks ≡ others_right ks
unfolding kinds_fit others_right kind_fits
others n i [] a b e = absurd (omega arith)
others n i (k ∷ []) a b e =
    rw (ne_eqb i 0 (λ z. omega arith), eq-eqb (i + 1) n (omega arith), (forms k).1.0) (and-true (last_right k))
others n i (k ∷ j ∷ ks) a b e =
    rw (ne_eqb i 0 (λ z. omega arith), ne_eqb (i + 1) n (λ z. omega arith), (forms k).1.1)
    (ap (λ (t : Bool). other_right k && t) (others n (i + 1) (j ∷ ks) (omega arith) (omega arith) (omega arith)))

-- not both
pub not_both : (a b : Bool) → not (a && b) ≡ (not a || not b)
not_both true true = refl
not_both true false = refl
not_both false true = refl
not_both false false = refl

-- a table of kinds is wrong exactly when the paper's sentence says so
pub table-wrong : (ks : List ℕ) → not (table_ok ks) ≡ table_wrong ks
unfolding table_ok count_fits kinds_fit kind_fits table_wrong kinds_right others_right
table-wrong [] = refl
table-wrong (k ∷ []) = refl
table-wrong (k ∷ j ∷ ks) =
    let n = length (k ∷ j ∷ ks) in
    rw (← others n 1 (j ∷ ks) (omega arith) (omega arith) (omega arith), first_form k) (not_both (leb 2 n && leb n 32) (eqb k 0 && kinds_fit n 1 (j ∷ ks)))

-- the answer by two tests that must both pass
either-fails : (a b : Bool) (x y : After) → (pick (a && b) x y).told.answer ≡ pick (not a || not b) y.told.answer x.told.answer
either-fails true true x y = refl
either-fails true false x y = refl
either-fails false true x y = refl
either-fails false false x y = refl

-- the answer is k exactly when the paper's table gives k
pub start_given : (l : List Post) (ks : List ℕ) (t k : ℕ) → ((start_of l ks t).told.answer ≡ k) ↔ (given_by (start_reasons l ks) k ≡ true)
unfolding start_reasons once absent first start_of startable
start_given l ks t k =
    first_given k (start_reasons l ks) refl (rw (← table-wrong ks) (either-fails (eqb (length l) (length ks)) (table_ok ks) _ _))
