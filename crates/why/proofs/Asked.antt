-- The answer to a question by its outcomes: refused as reading refuses, refused for what is asked, or as the watch over the run says.
-- Assumes nothing.
use Prim.Native.Nat.{ℕ, ◌-◌, ◌≤◌, ◌<◌}
use mathlib.Core.Path.{◌≡◌, sym, ap, ◌∙◌}
use mathlib.Core.Bool.{true, false, and-false}
use mathlib.Core.List.{List}
use borrow.Author.Tests.{eq-eqb, ne_eqb, le-leb, lt-leb}
use lib.Dec.{eqb, leb}
use lib.ListN.{length, get_or, take}
use lib.Seq.{get_or-take}
use Rattle.relay.proofs.Truth.{split}
use Rattle.sheet.specs.Entry.{post_of, answer_of}
use Rattle.sheet.specs.Reading.{verdict_up_to, decode_tracked}
use Rattle.sheet.specs.Refusals.{verdict_of_refusal}
use Rattle.sheet.specs.declared.Verdict.{Verdict}
use Rattle.sheet.specs.declared.refusal.Refusal.{Refusal}
use Rattle.sheet.proofs.Refusals.{refuses}
use Rattle.sheet.specs.Sheet.{Tracked}
use Rattle.why.specs.Why.{no_such_refusal, event_at, track_at, speaks, as_worked, asked, since, since_when, since_in, since_up_to}

-- ---- what is asked
module _ (t : Tracked) (k : ℕ) where
  pub below_first : k < 1 → asked t k ≡ false
  unfolding asked
  below_first h = rw (lt-leb 1 k h)

  pub past_last : length t.events < k → asked t k ≡ false
  unfolding asked
  past_last h = rw (lt-leb k (length t.events) h) (and-false (leb 1 k))

  pub other-answer : speaks (answer_of (event_at t k)) ≡ false → asked t k ≡ false
  unfolding asked
  other-answer h = rw (h, and-false (leb k (length t.events))) (and-false (leb 1 k))

  pub is_asked : 1 ≤ k → k ≤ length t.events → speaks (answer_of (event_at t k)) ≡ true → asked t k ≡ true
  unfolding asked
  is_asked h l a = rw (le-leb 1 k h, le-leb k (length t.events) l, a)

-- ---- the outcomes, where a sheet may be of so many tracks at the most
module _ (most : ℕ) (s : List ℕ) (k : ℕ) where
  abbrev said : Tracked
  said = decode_tracked s

  pub since-unread : eqb (verdict_up_to most s).number 0 ≡ false
      → since (verdict_up_to most s).number (verdict_up_to most s).block (verdict_up_to most s).position ≡ since_up_to most s k
  unfolding since_up_to
  since-unread h = rw h

  -- a refusal of the sheet in numbers, with its own position
  pub told_unread : (r : Refusal) (p : ℕ) → verdict_of_refusal r ≡ verdict_up_to most s → p ≡ (verdict_of_refusal r).position
      → since (verdict_of_refusal r).number (verdict_of_refusal r).block p ≡ since_up_to most s k
  told_unread r p e h =
      rw (h, e) (since-unread (ne_eqb (verdict_up_to most s).number 0 (λ z. refuses r (ap (λ (v : Verdict). v.number) e ∙ z))))

  module _ (z : (verdict_up_to most s).number ≡ 0) where
    pub since-read : since_in said k ≡ since_up_to most s k
    unfolding since_up_to
    since-read = rw (eq-eqb (verdict_up_to most s).number 0 z)

    pub since_not_asked : asked said k ≡ false → since no_such_refusal 0 0 ≡ since_up_to most s k
    unfolding since_in
    since_not_asked h = rw h at since-read

    pub since_in_lem : asked said k ≡ true
        → since_when said (track_at said k) (answer_of (event_at said k)) (post_of (event_at said k)) k ≡ since_up_to most s k
    unfolding since_in
    since_in_lem h = rw h at since-read

    pub since_not_worked : as_worked said ≡ false → since no_such_refusal 0 0 ≡ since_up_to most s k
    unfolding since_when
    since_not_worked h = split (asked said k) (λ e. rw h at (since_in_lem e)) (λ e. since_not_asked e)

    -- of what the sheet says, wherever it stands
    pub since-asked : asked said k ≡ true
        → (form stamp : ℕ) (table : List ℕ) (events : List (List ℕ)) (tracks : List ℕ) (track : ℕ) (e : List ℕ)
        → form ≡ said.form → stamp ≡ said.stamp → table ≡ said.table → events ≡ said.events → tracks ≡ said.tracks
        → track ≡ track_at said k → e ≡ event_at said k
        → since_when (record { form = form; stamp = stamp; table = table; events = events; tracks = tracks }) track (answer_of e) (post_of e) k
        ≡ since_up_to most s k
    since-asked h form stamp table events tracks track e f g i j l m n = rw (f, g, i, j, l, m, n) (since_in_lem h)

-- one of the first m of a room is that of the list that these are
pub event-read : {X : Type 0} (x : X) (room es : List X) (m k : ℕ) → take m room ≡ es → k - 1 < m → get_or room (k - 1) x ≡ get_or es (k - 1) x
event-read {X} x room es m k e h = sym (get_or-take m room (k - 1) x h) ∙ ap (λ (l : List X). get_or l (k - 1) x) e
