-- The test before the loop that starts a row, by its outcome, and that starting keeps how many posts the row has; the laws of the loop itself are relay's, in proofs/Fresh.antt.
-- Assumes nothing.
use mathlib.Core.Path.{◌≡◌, refl, sym, ap, ◌∙◌}
use Prim.Native.Nat.{ℕ}
use mathlib.Core.Bool.{Bool, true, false, ◌&&◌}
use mathlib.Core.List.{List}
use lib.ListN.{length}
use lib.Dec.{eqb}
use borrow.Author.Tests.{eqb-true}
use Rattle.relay.specs.Answers.{taken, notValid}
use Rattle.relay.specs.Kinds.{table_ok}
use Rattle.relay.specs.Line.{After, after, told, head, fresh_line, startable, start_of}
use Rattle.relay.specs.declared.Post.{Post}
use Rattle.relay.proofs.Fresh.{length-fresh, stored, all_stored, covers}
use Rattle.relay.proofs.Truth.{and_facts}

module _ (ys : List Post) (ks : List ℕ) where
  pub same_length : (eqb (length ys) (length ks) && table_ok ks) ≡ true → length ys ≡ length ks
  same_length h = eqb-true (length ys) (length ks) ((and_facts (eqb (length ys) (length ks)) (table_ok ks)).0 h).0

  pub refused : (t : ℕ) → (eqb (length ys) (length ks) && table_ok ks) ≡ false → start_of ys ks t ≡ after (told notValid (head 0 0)) ys
  unfolding start_of startable
  refused t e = rw e

  pub started : (t : ℕ) → (eqb (length ys) (length ks) && table_ok ks) ≡ true → start_of ys ks t ≡ after (told taken (head 0 t)) (fresh_line ks)
  unfolding start_of startable
  started t e = rw e

-- starting keeps the row's length
started_by : (l : List Post) (ks : List ℕ) (t : ℕ) (b : Bool) → (eqb (length l) (length ks) && table_ok ks) ≡ b → length (start_of l ks t).line ≡ length l
started_by l ks t true e = ap (λ (a : After). length a.line) (started l ks t e) ∙ length-fresh ks ∙ sym (same_length l ks e)
started_by l ks t false e = ap (λ (a : After). length a.line) (refused l ks t e)

pub length-started : (l : List Post) (ks : List ℕ) (t : ℕ) → length (start_of l ks t).line ≡ length l
length-started l ks t = started_by l ks t (eqb (length l) (length ks) && table_ok ks) refl

-- what proves the loop that starts a row: the test before it, its steps, its end
pub ruleset starts = (same_length, refused, started, stored, all_stored, covers)
