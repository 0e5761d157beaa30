-- What a refusal of 8, 9 or 13 says of the post that its event names: it stands in the line, is not the terminus, and its relay is so.
-- It holds by the paper's table of numbers, row by row (relay's `answer_given`).
-- Assumes nothing.
use Prim.Native.Nat.{ℕ, ◌<◌}
use mathlib.Core.Path.{◌≡◌, refl, ◌∙◌}
use mathlib.Core.Bool.{true, false, false≢true, ◌||◌}
use mathlib.Core.List.{List}
use borrow.Author.Tests.{eqb-true}
use lib.Dec.{eqb}
use lib.ListN.{length}
use Rattle.relay.proofs.Given.{answer_given}
use Rattle.relay.proofs.GivenForms.{beside, given_beside, ahead, given_ahead}
use Rattle.relay.proofs.Truth.{facts, or_facts}
use Rattle.relay.specs.Answers.{noSuchPlace, noDevice, lDown, rlDown, rlUp}
use Rattle.relay.specs.Given.{Row, refused_as, reasons, event_reasons}
use Rattle.relay.specs.Kinds.{terminus}
use Rattle.relay.specs.Line.{answer_of}
use Rattle.relay.specs.Posts.{at}
use Rattle.relay.specs.declared.Head.{Head}
use Rattle.relay.specs.declared.Post.{Post}
use Rattle.why.specs.Why.{speaks, so}

pub record Says (n : ℕ) (l : List Post) (p : ℕ) : Type 0 where
  pub there : p < length l
  pub not_terminus : refused_as (at l p).kind ≡ terminus → ⊥
  pub so-now : so n (at l p).word ≡ true

module _ (l : List Post) (s : Head) (m p t : ℕ) where
  -- number n is the answer: its reason holds, and that of a number ahead of it does not
  abbrev rows : List Row
  rows = reasons l s m p t

  reason : (n : ℕ) → eqb n 0 ≡ false → answer_of l s m p t ≡ n → beside n rows ≡ true
  reason n z e = given_beside n rows z ((answer_given l s m p t n).0 e)

  past : (j n : ℕ) → ahead j n rows ≡ true → answer_of l s m p t ≡ n → beside j rows ≡ false
  past j n a e = given_ahead j n rows a ((answer_given l s m p t n).0 e)

  says_8 : answer_of l s m p t ≡ lDown → Says lDown l p
  unfolding beside ahead reasons event_reasons so
  says_8 e =
      let g = simp facts at (reason lDown refl e) in
      record { there = (simp facts at (past noSuchPlace lDown refl e)).0; not_terminus = g.0.1; so-now = rw g.1 }

  says_9 : answer_of l s m p t ≡ rlDown → Says rlDown l p
  unfolding beside ahead reasons event_reasons so
  says_9 e =
      let g = simp facts at (reason rlDown refl e) in
      record {
        there = (simp facts at (past noSuchPlace rlDown refl e)).0;
        not_terminus = (simp facts at (past noDevice rlDown refl e)).1.1.1.0 g.0;
        so-now = rw g.1;
      }

  says_13 : answer_of l s m p t ≡ rlUp → Says rlUp l p
  unfolding beside ahead reasons event_reasons so
  says_13 e =
      let g = simp facts at (reason rlUp refl e) in
      record {
        there = (simp facts at (past noSuchPlace rlUp refl e)).0;
        not_terminus = λ z. false≢true (rw z at g.0.1);
        so-now = g.1;
      }

  pub says : (n : ℕ) → speaks n ≡ true → answer_of l s m p t ≡ n → Says n l p
  unfolding speaks
  says n a e =
      or_facts (eqb n lDown) (eqb n rlDown || eqb n rlUp)
      (λ z. let q = eqb-true n lDown z in rw q (says_8 (e ∙ q)))
      (or_facts (eqb n rlDown) (eqb n rlUp)
      (λ z. let q = eqb-true n rlDown z in rw q (says_9 (e ∙ q)))
      (λ z. let q = eqb-true n rlUp z in rw q (says_13 (e ∙ q))))
      a
