-- A row's line is the first of its records, as many as the line has, and a call on those leaves the records past them: so a call on the row is the call on its line.
-- Assumes nothing.
use Rattle.std.proofs.Common.{◌≡◌, ℕ, ◌≤◌, ◌<◌, List, [], ◌∷◌, ◌++◌, length, take, drop, refl, sym, ap, ◌∙◌, arith}
use mathlib.Core.Bool.{Bool, true, false}
use borrow.Author.Tests.{le-leb, leb-true}
use lib.Dec.{leb}
use lib.ListN.{take-append-drop}
use lib.Seq.{length-take-le, get_or-take}
use Rattle.relay.proofs.Frame.{length-stays}
use Rattle.relay.specs.Line.{event_of, Gives}
use Rattle.relay.specs.Posts.{at, blank}
use Rattle.relay.specs.declared.Head.{Head}
use Rattle.relay.specs.declared.Post.{Post}
use Rattle.relay.specs.declared.Told.{Told}
use Rattle.row.specs.Row.{most, line_of, line_to, stood, event_row}
use Rattle.row.specs.declared.Row.{Row}

none : {X : Type 0} (l : List X) → length l ≡ 0 → l ≡ []
none [] e = refl
none (x ∷ l) e = absurd (omega (arith, e))

module _ (row : Row) (full : length row.posts ≡ most) where
  -- the line, and another as long in its place, where it has k posts
  record Lined (k : ℕ) : Type 0 where
    few : k ≤ most
    is : line_of row ≡ take k row.posts
    put : (l : List Post) → length l ≡ k → line_to row l ≡ record { posts = l ++ drop k row.posts; n = row.n }

  lined_by : (b : Bool) → leb row.n most ≡ b → (k : ℕ) → k ≡ length (line_of row) → Lined k
  unfolding line_of line_to
  lined_by true e k h =
      let f : row.n ≤ most = leb-true row.n most e in
      let q : k ≡ row.n = h ∙ rw (e, length-take-le row.n row.posts (omega (arith, full, f))) in
      record { few = omega (arith, q, f); is = rw (e, q); put = λ l m. rw (e, q) }
  lined_by false e k h =
      let q : k ≡ 0 = h ∙ rw e in
      record { few = omega (arith, q); is = rw (e, q); put = λ l m. rw (e, q, none l (m ∙ q)) }

  module _ (k : ℕ) (h : k ≡ length (line_of row)) where
    lined : Lined k
    lined = lined_by (leb row.n most) refl k h

    pub line_first : line_of row ≡ take k row.posts
    line_first = lined.is

    pub put_first : (l : List Post) → length l ≡ k → line_to row l ≡ record { posts = l ++ drop k row.posts; n = row.n }
    put_first = lined.put

    pub first_long : length (take k row.posts) ≡ k
    first_long = length-take-le k row.posts (omega (arith, full, lined.few))

    pub event_first : (s : Head) (n i t : ℕ) (r : Told) (l : List Post) → Gives (event_of (take k row.posts) s n i t) r l
        → stood r (record { posts = l ++ drop k row.posts; n = row.n }) ≡ event_row row s n i t
    unfolding event_row
    event_first s n i t r l g =
        let m : length l ≡ k = ap (λ (x : List Post). length x) g.1 ∙ length-stays (take k row.posts) s n i t ∙ first_long in
        rw (line_first, g.0, put_first (event_of (take k row.posts) s n i t).line (ap (λ (x : List Post). length x) (sym g.1) ∙ m), g.1)

  -- it has no more than the row has room for
  pub line_few : length (line_of row) ≤ most
  line_few = (lined (length (line_of row)) refl).few

module _ (row : Row) where
  -- a row that has all that it says
  pub line_is : row.n ≤ most → line_of row ≡ take row.n row.posts
  unfolding line_of
  line_is h = rw (le-leb row.n most h)

  -- the line put back where it was
  back_by : (b : Bool) → leb row.n most ≡ b → line_to row (line_of row) ≡ row
  unfolding line_to line_of
  back_by true e = rw e (rw (take-append-drop row.n row.posts))
  back_by false e = rw e

  pub back : line_to row (line_of row) ≡ row
  back = back_by (leb row.n most) refl

-- ---- one of the first n records
pub at_part : (posts : List Post) (n : ℕ) → n ≤ length posts → (i : ℕ) → i < n → at (take n posts) i ≡ at posts i
at_part posts n h i l = get_or-take n posts i blank l
