-- Byte after byte, a text taken by value follows what is read of it; and so it does at its end.
-- Assumes nothing.
use Prim.Native.Nat.{ℕ, suc, ◌+◌, ◌<◌, ◌^◌, min}
use mathlib.Core.Path.{◌≡◌, refl, sym, ap, subst, ◌∙◌}
use mathlib.Core.Logic.{◌⊎◌, inl, inr}
use mathlib.Core.Bool.{true, false, ◌&&◌}
use mathlib.Core.List.{List, [], ◌∷◌, ◌++◌, append_assoc, append-nil}
use native.Mathlib.Omega.{arith}
use borrow.Author.Tests.{eq-eqb, ne_eqb}
use lib.Dec.{eqb}
use lib.ListN.{length, length-append}
use Rattle.relay.proofs.Truth.{split}
use Rattle.register.specs.Lexer.{class, action, Lexed, lexed, snoc, part, act, step, run, begin, whole, is_whole, finish, lex_text}
use Rattle.register.specs.Reading.{nothing, standing, after}
use Rattle.register.specs.Register.{records_in}
use Rattle.register.specs.Texts.{Field, line_end, said_all}
use Rattle.register.specs.declared.Act.{Act}
use Rattle.register.specs.declared.Act.TheVariants.{Open, Add, Close, EndField, EndLine, EndRecord, Break}
use Rattle.register.specs.declared.Mode.{Mode}
use Rattle.register.specs.declared.Mode.TheVariants.{Start, Plain, Inside, Closing, AtCr, Broken}
use Rattle.register.proofs.Import.{said-append, said-long}
use Rattle.register.proofs.Lexes.{run-append, run-grows}
use Rattle.register.proofs.More.{standing-over, rows_few}
use Rattle.importing.specs.Importing as importing
use Rattle.importing.specs.Rooms.{Fed, fed_at, kept_at, fed_next, fed}
use Rattle.importing.specs.Steps.{begun, stopped, acted, state_next, most_counted}
use Rattle.importing.specs.declared.steps.State.{State}
use Rattle.importing.proofs.Ends.{breaks, ends}
use Rattle.importing.proofs.Fold.{fed-append}
use Rattle.importing.proofs.Follows as follows
use Rattle.importing.proofs.Follows.{On, Off, Follows, standing_in, marks_from}
use Rattle.register.specs.declared.Stage.TheVariants.{AtHeader}
use Rattle.importing.proofs.Kept.{kept_none}

-- ---- one byte
module _ (l : Lexed) (f : Fed) (b : ℕ) where
  abbrev s : State
  s = f.state

  on-act : (a : Act) → On l f → length (said_all l.rows) < most_counted → Follows (act a b l.mode l.rows l.fields l.field) (kept_at s (acted a s b) f.kinds f.events)
  unfolding act
  on-act Open o few = inl (follows.opened l f o)
  on-act Add o few = inl (follows.added l f o b)
  on-act Close o few = inl (follows.closed l f o)
  on-act EndField o few = inl (follows.ended l f o Start)
  on-act EndLine o few = inl (follows.ended l f o AtCr)
  on-act EndRecord o few = ends l f o few
  on-act Break o few = inr (breaks l f o few [] (snoc (part l.mode l.fields l.field) b))

  on_next : On l f → length (said_all l.rows) < most_counted → Follows (step l b) (fed_next f b)
  unfolding step fed_next state_next
  on_next o few =
      subst (λ (m : Mode). Follows (act (action l.mode (class b)) b l.mode l.rows l.fields l.field) (kept_at s (acted (action m (class b)) s b) f.kinds f.events)) (sym o.mode) (on-act (action l.mode (class b)) o few)

  -- what has stopped stays so
  next_stopped : s.mode ≡ Broken → state_next s b ≡ stopped s
  unfolding state_next
  next_stopped e = rw e

-- ---- past a record that does not stand
-- the text goes on, and no more of it counts
off-fed : (l : Lexed) (f : Fed) (t : List ℕ) → Off l f → Off l (fed f t)
unfolding fed fed_next
off-fed l f [] o = o
off-fed l f (b ∷ t) o = off-fed l (fed_next f b) t (rw (next_stopped l f b o.stops) (record { stops = refl; few = o.few; count = o.count; over = o.over }))

-- a text that is broken stays so
broken_same : (l : Lexed) (t : List ℕ) → l.mode ≡ Broken → ((run l t).mode ≡ Broken) × (standing_in (run l t) ≡ standing_in l)
unfolding run step act
broken_same l [] e = (e, refl)
broken_same l (b ∷ t) e = rw e (broken_same (lexed Broken l.rows [] (snoc (part Broken l.fields l.field) b)) t refl)

-- so much of the text was read already
off-run : (l : Lexed) (f : Fed) (t : List ℕ) → Off l f → Off (run l t) f
off-run l f t o = go o.over
  where
    go : (l.mode ≡ Broken) ⊎ (standing_in l < length (said_all l.rows)) → Off (run l t) f
    go (inl e) = record { stops = o.stops; few = o.few; count = o.count ∙ ap suc (sym (broken_same l t e).1); over = inl (broken_same l t e).0 }
    go (inr h) =
        let z = run-grows l t in
        let q : said_all (run l t).rows ≡ said_all l.rows ++ said_all z.0 = ap (λ (x : List (List Field)). said_all x) z.1 ∙ said-append l.rows z.0 in
        let n : standing_in (run l t) ≡ standing_in l = rw q (standing-over nothing (said_all l.rows) (said_all z.0) h) in
        record { stops = o.stops; few = o.few; count = o.count ∙ ap suc (sym n); over = inr (rw q (omega (arith, length-append (said_all l.rows) (said_all z.0), rw q at n))) }

-- ---- one byte alone
module _ (l : Lexed) (f : Fed) (b : ℕ) where
  one_off : Off (run l (b ∷ [])) (fed f (b ∷ [])) → Off (step l b) (fed_next f b)
  unfolding run fed
  one_off o = o

  one_follows : Follows (step l b) (fed_next f b) → Follows (run l (b ∷ [])) (fed f (b ∷ []))
  unfolding run fed
  one_follows w = w

-- ---- byte after byte
module _ (ks : List ℕ) (es : List (List ℕ)) where
  -- a text fed from the start
  abbrev pub fed_of : List ℕ → Fed
  fed_of text = fed (fed_at begun ks es) text

  begins : Follows begin (fed_at begun ks es)
  unfolding standing after said_all marks_from
  begins =
      inl (record {
        all = refl;
        mode = refl;
        stage = refl;
        stamp = refl;
        posts = refl;
        counted = refl;
        place = refl;
        mark = follows.mark_none AtHeader 0;
        first = begun.marks;
        marks = refl;
        kinds = kept_none ks;
        events = kept_none es;
      })

  -- one byte more of a text that is not too long to count
  next : (t : List ℕ) (b : ℕ) → length t < 2 ^ 64 + 1 → Follows (run begin t) (fed_of t) → Follows (step (run begin t) b) (fed_next (fed_of t) b)
  next t b h (inl o) = on_next (run begin t) (fed_of t) b o (omega (arith, rows_few t, said-long (run begin t).rows))
  next t b h (inr o) = inr (one_off (run begin t) (fed_of t) b (off-fed (run (run begin t) (b ∷ [])) (fed_of t) (b ∷ []) (off-run (run begin t) (fed_of t) (b ∷ []) o)))

  pub follows_on : (t u : List ℕ) → length t + length u < 2 ^ 64 + 2 → Follows (run begin t) (fed_of t) → Follows (run begin (t ++ u)) (fed_of (t ++ u))
  follows_on t [] h w = rw (append-nil t) w
  follows_on t (b ∷ u) h w =
      let n : length (t ++ (b ∷ [])) ≡ length t + 1 = length-append t (b ∷ []) in
      rw append_assoc at (follows_on (t ++ (b ∷ [])) u (omega arith) (rw (run-append begin t (b ∷ []), fed-append (fed_at begun ks es) t (b ∷ [])) (one_follows (run begin t) (fed_of t) b (next t b (omega arith) w))))

-- ---- at the end of the text
whole_as : (m : Mode) (fs : List Field) (p : ℕ) → p ≡ min 6 (length fs) → (importing.is_start m && eqb p 0) ≡ whole m fs
whole_as Start [] p e = eq-eqb p 0 e
whole_as Start (x ∷ fs) p e = ne_eqb p 0 (λ z. omega arith)
whole_as Plain fs p e = refl
whole_as Inside fs p e = refl
whole_as Closing fs p e = refl
whole_as AtCr fs p e = refl
whole_as Broken fs p e = refl

pub whole_same : (l : Lexed) (f : Fed) → On l f → importing.is_whole f.state ≡ is_whole l
unfolding importing.is_whole
whole_same l f o = rw o.mode (whole_as l.mode l.fields f.state.place o.place)

pub stopped_open : (s : State) → s.mode ≡ Broken → importing.is_whole s ≡ false
unfolding importing.is_whole
stopped_open s e = rw e

module _ (l : Lexed) (f : Fed) where
  close-whole : importing.is_whole f.state ≡ true → importing.closed f ≡ f
  unfolding importing.closed
  close-whole e = rw e

  close_open : importing.is_whole f.state ≡ false → importing.closed f ≡ fed f line_end
  unfolding importing.closed
  close_open e = rw e

  finish-whole : is_whole l ≡ true → finish l ≡ l
  unfolding finish
  finish-whole e = rw e

  finish_open : is_whole l ≡ false → finish l ≡ run l line_end
  unfolding finish
  finish_open e = rw e

  off-closed : Off l f → Off (finish l) (importing.closed f)
  off-closed o =
      let x = off-fed l f line_end o in
      rw (close_open (stopped_open f.state o.stops))
      (split (is_whole l) (λ e. rw (finish-whole e) x) (λ e. rw (finish_open e) (off-run l (fed f line_end) line_end x)))

  on-closed : On l f → Follows (run l line_end) (fed f line_end) → Follows (finish l) (importing.closed f)
  on-closed o w =
      split (is_whole l)
      (λ e. rw (finish-whole e, close-whole (whole_same l f o ∙ e)) (inl o))
      (λ e. rw (finish_open e, close_open (whole_same l f o ∙ e)) w)

-- what a text leaves follows what is read of it
module _ (ks : List ℕ) (es : List (List ℕ)) (text : List ℕ) (short : length text < 2 ^ 64) where
  so_far : Follows (run begin text) (fed_of ks es text)
  unfolding run fed
  so_far = follows_on ks es [] text (omega arith) (begins ks es)

  pub text-followed : Follows (lex_text text) (importing.closed (fed_of ks es text))
  text-followed = go so_far
    where
      go : Follows (run begin text) (fed_of ks es text) → Follows (lex_text text) (importing.closed (fed_of ks es text))
      go (inr o) = inr (off-closed (run begin text) (fed_of ks es text) o)
      go (inl o) =
          on-closed (run begin text) (fed_of ks es text) o
          (rw (run-append begin text line_end, fed-append (fed_at begun ks es) text line_end) at (follows_on ks es text line_end (omega arith) (inl o)))

  -- and its records can be counted
  pub records-few : length (records_in text) < most_counted
  records-few =
      let l = run begin text in
      split (is_whole l)
      (λ e. rw (finish-whole l (fed_of ks es text) e) (omega (arith, rows_few text, said-long l.rows)))
      (λ e. rw (finish_open l (fed_of ks es text) e, ← run-append begin text line_end) (omega (arith, rows_few (text ++ line_end), length-append text line_end, said-long (run begin (text ++ line_end)).rows)))
