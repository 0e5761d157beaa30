-- A row started by value: what a start of the first of 32 blank records leaves is the row that holds the fresh line, or none.
-- Assumes nothing.
use Rattle.std.proofs.Common.{◌≡◌, ℕ, zero, suc, ◌-◌, ◌≤◌, List, [], ◌++◌, length, min, take, drop, replicate, refl, ap, ◌∙◌, arith}
use mathlib.Core.Bool.{Bool, true, false, ◌&&◌, and-false}
use borrow.Author.Tests.{eq-eqb, leb-true}
use lib.Dec.{eqb, leb}
use lib.ListN.{length-replicate, take-append-drop}
use lib.Seq.{length-take-le}
use Rattle.std.proofs.lemmas.List.{drop-replicate}
use Rattle.relay.proofs.Truth.{and_facts}
use Rattle.relay.proofs.Fresh.{length-fresh}
use Rattle.relay.specs.Answers.{taken, notValid}
use Rattle.relay.specs.Choice.{pick}
use Rattle.relay.specs.Kinds.{count_fits, kinds_fit, table_ok}
use Rattle.relay.specs.Line.{after, fresh_line, told, head, startable, start_of, Gives}
use Rattle.relay.specs.Posts.{blank}
use Rattle.relay.specs.declared.Post.{Post}
use Rattle.relay.specs.declared.Told.{Told}
use Rattle.row.specs.declared.Stood.{Stood}
use Rattle.row.specs.Row.{most, row_of, stood, start_row}

-- a right table has at most 32 kinds
pub table-few : (ks : List ℕ) → table_ok ks ≡ true → length ks ≤ most
unfolding table_ok count_fits
table-few ks e =
    let fits : (leb 2 (length ks) && leb (length ks) most) ≡ true = ((and_facts _ (kinds_fit (length ks) 0 ks)).0 e).0 in
    leb-true (length ks) most ((and_facts (leb 2 (length ks)) (leb (length ks) most)).0 fits).1

module _ (ks : List ℕ) (t : ℕ) where
  pub start_refused : table_ok ks ≡ false → start_row ks t ≡ stood (told notValid (head 0 0)) (row_of [])
  unfolding start_row
  start_refused e = rw e

  pub start_taken : table_ok ks ≡ true → start_row ks t ≡ stood (told taken (head 0 t)) (row_of (fresh_line ks))
  unfolding start_row
  start_taken e = rw e

  -- the first of the blank records: as many as the table has kinds, or all
  module _ (k : ℕ) (e : k ≡ min (length ks) most) where
    abbrev lent : List Post
    lent = take k (replicate most blank)

    pub lent-long : length lent ≡ k
    lent-long = length-take-le k (replicate most blank) (let h : length (replicate most blank) ≡ most = length-replicate most blank in omega (arith, h, e))

    -- they may be started from the table where it is right, and only there
    startable_by : (b : Bool) → table_ok ks ≡ b → startable lent ks ≡ b
    unfolding startable
    startable_by true h = let f : length ks ≤ most = table-few ks h in rw (lent-long, eq-eqb k (length ks) (omega (arith, e, f)), h)
    startable_by false h = rw (h, and-false (eqb (length lent) (length ks)))

    pub startable_first : startable lent ks ≡ table_ok ks
    startable_first = startable_by (table_ok ks) refl

    -- the fresh line and the blank records past it are the row that holds the line; and the blank records alone are that of none
    pub fresh_first : table_ok ks ≡ true → record { posts = fresh_line ks ++ drop k (replicate most blank); n = length ks } ≡ row_of (fresh_line ks)
    unfolding row_of
    fresh_first h =
        let f : length ks ≤ most = table-few ks h in
        let q : k ≡ length ks = omega (arith, e, f) in
        rw (length-fresh ks, q, drop-replicate (length ks) most blank) refl

    pub none_first : record { posts = lent ++ drop k (replicate most blank); n = 0 } ≡ row_of []
    unfolding row_of
    none_first = rw (take-append-drop k (replicate most blank)) refl

    started_by : (b : Bool) → table_ok ks ≡ b → start_of lent ks t ≡ pick b (after (told taken (head 0 t)) (fresh_line ks)) (after (told notValid (head 0 0)) lent)
    unfolding start_of
    started_by b h = rw (startable_first, h)

    module _ (r : Told) (l : List Post) (g : Gives (start_of lent ks t) r l) where
      done_by : (b : Bool) → table_ok ks ≡ b → r.answer ≡ taken → stood r (record { posts = l ++ drop k (replicate most blank); n = length ks }) ≡ start_row ks t
      done_by true h z = rw (start_taken h, g.0, g.1, started_by true h, fresh_first h) refl
      done_by false h z = absurd (let o : r.answer ≡ notValid = rw (g.0, started_by false h) refl in omega (arith, o, z))

      pub start_done : r.answer ≡ taken → stood r (record { posts = l ++ drop k (replicate most blank); n = length ks }) ≡ start_row ks t
      start_done = done_by (table_ok ks) refl

      none_by : (b : Bool) → table_ok ks ≡ b → (r.answer ≡ taken → ⊥) → stood r (record { posts = l ++ drop k (replicate most blank); n = 0 }) ≡ start_row ks t
      none_by false h z = rw (start_refused h, g.0, g.1, started_by false h, none_first) refl
      none_by true h z = absurd (z (rw (g.0, started_by true h) refl))

      pub start_none : (r.answer ≡ taken → ⊥) → stood r (record { posts = l ++ drop k (replicate most blank); n = 0 }) ≡ start_row ks t
      start_none = none_by (table_ok ks) refl

-- what starting tells, by its answer
module _ (ks : List ℕ) (t : ℕ) (r : Stood) (e : r ≡ start_row ks t) where
  pub record Begun : Type 0 where
    pub table : table_ok ks ≡ true
    pub row : r.row ≡ row_of (fresh_line ks)
    pub head : r.told.head ≡ head 0 t

  pub record Refused : Type 0 where
    pub table : table_ok ks ≡ false
    pub row : r.row ≡ row_of []
    pub head : r.told.head ≡ head 0 0

  begins_by : (b : Bool) → table_ok ks ≡ b → r.told.answer ≡ 0 → Begun
  begins_by true h z =
      let f = e ∙ start_taken ks t h in
      record { table = h; row = ap (λ (x : Stood). x.row) f; head = ap (λ (x : Stood). x.told.head) f }
  begins_by false h z = absurd (let o = ap (λ (x : Stood). x.told.answer) (e ∙ start_refused ks t h) in omega arith)

  pub begins : r.told.answer ≡ 0 → Begun
  begins z = begins_by (table_ok ks) refl z

  refuses_by : (b : Bool) → table_ok ks ≡ b → (r.told.answer ≡ 0 → ⊥) → Refused
  refuses_by false h z =
      let f = e ∙ start_refused ks t h in
      record { table = h; row = ap (λ (x : Stood). x.row) f; head = ap (λ (x : Stood). x.told.head) f }
  refuses_by true h z = absurd (z (ap (λ (x : Stood). x.told.answer) (e ∙ start_taken ks t h)))

  pub refuses : (r.told.answer ≡ 0 → ⊥) → Refused
  refuses z = refuses_by (table_ok ks) refl z
