-- What is answered to the question, exactly when; and the theorem that the owner asks for, over the states of the run. Each over sheets of one track or of two.
--     since_iff            an answer is the call's exactly when it may be named: 29 'given exactly when', and the one event, or the start, since which it is so
--     unanswered-refused   29 for every question of a sheet with an event not yet answered
--     named-event          the event named was taken, on the chosen event's track, made the change, and none since undid it; and what it can be
--     only_named           an event that fits that is the one named
--     start_iff            position 0 is given exactly for a 13 whose RL was up in every state before it
-- Assumes nothing.
use Prim.Native.Nat.{ℕ, suc, ◌+◌, ◌-◌, ◌≤◌, ◌<◌}
use mathlib.Core.Path.{◌≡◌, refl, sym, ap, subst, ◌∙◌}
use mathlib.Core.Logic.{◌↔◌, ◌⊎◌, inl, inr, ⊎_elim}
use mathlib.Core.Bool.{true, false, false≢true, ◌||◌}
use mathlib.Core.List.{List}
use native.Mathlib.Omega.{arith}
use borrow.Author.Tests.{ne_eqb, eqb-true, eqb-false}
use lib.Dec.{eqb}
use lib.ListN.{length, take}
use Rattle.relay.proofs.Truth.{or_facts, split, equal_or_not, least_or_below}
use Rattle.relay.specs.Answers.{taken, lDown, rlDown, rlUp}
use Rattle.relay.specs.Posts.{at}
use Rattle.relay.specs.declared.Post.{Post}
use Rattle.sheet.proofs.First.{NamedSheet, verdict_iff}
use Rattle.sheet.specs.Entry.{number_of, post_of, answer_of, stamp_of}
use Rattle.sheet.specs.Layout.{unanswered, two_tracks}
use Rattle.sheet.specs.Reading.{verdict_up_to, decode_tracked}
use Rattle.sheet.specs.Sheet.{Tracked, circuit_of}
use Rattle.sheet.specs.declared.Verdict.{Verdict}
use Rattle.tracks.specs.Circuit.{AfterTwo}
use Rattle.working.proofs.Along.{run_more}
use Rattle.working.proofs.Both.{marked-long}
use Rattle.working.proofs.Steps.{goes_by}
use Rattle.working.specs.Run.{track_of, marked, next_by, run_by}
use Rattle.why.specs.Why.{event_at, track_at, begun_of, state_after, line_at, speaks, so, last_made, as_worked, since, since_when, since_up_to}
use Rattle.why.specs.declared.Since.{Since}
use Rattle.why.proofs.Asked.{below_first, past_last, other-answer, is_asked, since-unread, since_not_asked, since_not_worked, since_in_lem}
use Rattle.why.proofs.Cause.{Cause}
use Rattle.why.proofs.Causes.{cause}
use Rattle.why.proofs.Made.{Made, Always, only_one, not_always, last_made_lem}
use Rattle.why.proofs.Right.{right_iff, wrong_at, wrong-some}
use Rattle.why.proofs.Says.{Says, says}
use Rattle.why.proofs.Start.{at_start}
use Rattle.sheet.proofs.Forms.{form_two, on-track}
use Rattle.why.proofs.Track.{ran_at, ran_at_lem, line_cases, refused_same, own-answer, answered_next}

-- ---- what may be answered
-- what working makes of event j, on its track, from the lines as the events before it left them
abbrev pub worked_at : Tracked → ℕ → AfterTwo
worked_at t j = next_by t.form (circuit_of t.table) (state_after t (j - 1)) (ran_at t j)

-- event j has the answer that working gives it
abbrev pub RightAt : Tracked → ℕ → Type 0
RightAt t j = answer_of (event_at t j) ≡ (worked_at t j).told.answer

-- 'After a refusal of 8, 9 or 13'
abbrev pub OneOfThree : ℕ → Type 0
OneOfThree n = (n ≡ 8) ⊎ ((n ≡ 9) ⊎ (n ≡ 13))

-- 'a worked sheet and a refused event in it with one of those answers', where sheets of so many tracks are taken
pub record Answerable (most : ℕ) (s : List ℕ) (k : ℕ) : Type 0 where
  pub read : (verdict_up_to most s).number ≡ 0
  pub right : (j : ℕ) → 1 ≤ j → j ≤ length (decode_tracked s).events → RightAt (decode_tracked s) j
  pub least : 1 ≤ k
  pub most-events : k ≤ length (decode_tracked s).events
  pub three : OneOfThree (answer_of (event_at (decode_tracked s) k))

-- of the event at position k: event j made what its refusal says so at its post, on its track
abbrev pub MadeIt : List ℕ → ℕ → ℕ → Type 0
MadeIt s k j =
    Made (decode_tracked s) (track_at (decode_tracked s) k) (answer_of (event_at (decode_tracked s) k)) (post_of (event_at (decode_tracked s) k)) k j

-- its RL was up there in every state before it
abbrev pub UpAlways : List ℕ → ℕ → Type 0
UpAlways s k = Always (decode_tracked s) (track_at (decode_tracked s) k) 13 (post_of (event_at (decode_tracked s) k)) k

pub data NamedSince (most : ℕ) (s : List ℕ) (k : ℕ) : Since → Type 0 where
  -- 'after those of reading'
  unread : {v : Verdict} → (v.number ≡ 0 → ⊥) → NamedSheet most s v → NamedSince most s k (since v.number v.block v.position)
  -- 29 'when the sheet's answers aren't the ones that working its events gives'
  not_worked : (j : ℕ) → (verdict_up_to most s).number ≡ 0 → 1 ≤ j → j ≤ length (decode_tracked s).events → (RightAt (decode_tracked s) j → ⊥)
      → NamedSince most s k (since 29 0 0)
  -- 'or the chosen event has another answer'
  another_answer : (verdict_up_to most s).number ≡ 0 → (OneOfThree (answer_of (event_at (decode_tracked s) k)) → ⊥)
      → NamedSince most s k (since 29 0 0)
  -- 'or doesn't exist'
  no_event : (verdict_up_to most s).number ≡ 0 → (k ≡ 0) ⊎ (length (decode_tracked s).events < k) → NamedSince most s k (since 29 0 0)
  -- 'the position of the event that put the relay in that state'
  made : (j : ℕ) → Answerable most s k → MadeIt s k j → NamedSince most s k (since 0 0 j)
  -- 'RL up from the start gives position 0'
  from_start : Answerable most s k → answer_of (event_at (decode_tracked s) k) ≡ 13 → UpAlways s k → NamedSince most s k (since 0 0 0)

-- ---- one event of the run
step_at : (t : Tracked) (j : ℕ) → 1 ≤ j → j ≤ length t.events → state_after t j ≡ worked_at t j
step_at t j h l =
    let more : j - 1 + 1 ≡ j = omega arith in
    let xs = marked t.events t.tracks in
    let w = goes_by t.form (circuit_of t.table) in
    subst (λ (i : ℕ). run_by t.form (circuit_of t.table) (begun_of t) (take i xs) ≡ worked_at t j) more
    (run_more w (begun_of t) xs xs refl (j - 1) (omega (arith, marked-long t.events t.tracks)))

-- its numbers are those of the event with its track behind it
module _ (t : Tracked) (j : ℕ) (h : 1 ≤ j) (l : j ≤ length t.events) where
  number_is : number_of (ran_at t j) ≡ number_of (event_at t j)
  number_is = ap number_of (ran_at_lem t j h l)

  post_is : post_of (ran_at t j) ≡ post_of (event_at t j)
  post_is = ap post_of (ran_at_lem t j h l)

  answer_is : answer_of (ran_at t j) ≡ answer_of (event_at t j)
  answer_is = ap answer_of (ran_at_lem t j h l)

  track_is : track_of (ran_at t j) ≡ track_at t j
  track_is = ap track_of (ran_at_lem t j h l)

-- each answer is right exactly when the sheet's answers are those of working
abbrev AllRight : Tracked → Type 0
AllRight t = (j : ℕ) → 1 ≤ j → j ≤ length t.events → RightAt t j

module _ (t : Tracked) where
  abbrev xs : List (List ℕ)
  xs = marked t.events t.tracks

  long : length xs ≡ length t.events
  long = marked-long t.events t.tracks

  all_right : AllRight t → as_worked t ≡ true
  all_right f =
      (right_iff t.form (circuit_of t.table) (begun_of t) xs).1
      (λ i h.
      let back : i + 1 - 1 ≡ i = omega arith in
      rw back at (answer_is t (i + 1) (omega arith) (omega (arith, h, long)) ∙ f (i + 1) (omega arith) (omega (arith, h, long))))

  right_all : as_worked t ≡ true → AllRight t
  right_all w j h l =
      sym (answer_is t j h l) ∙ (right_iff t.form (circuit_of t.table) (begun_of t) xs).0 w (j - 1) (omega (arith, long))

  wrong_one : (j : ℕ) → 1 ≤ j → j ≤ length t.events → (RightAt t j → ⊥) → as_worked t ≡ false
  wrong_one j h l n =
      wrong_at t.form (circuit_of t.table) (begun_of t) xs (j - 1) (omega (arith, long)) (λ r. n (sym (answer_is t j h l) ∙ r))

  some-wrong : as_worked t ≡ false → (j : ℕ) × ((1 ≤ j) × ((j ≤ length t.events) × (RightAt t j → ⊥)))
  some-wrong w =
      let x = wrong-some t.form (circuit_of t.table) (begun_of t) xs w in
      let back : x.0 + 1 - 1 ≡ x.0 = omega arith in
      let l : x.0 + 1 ≤ length t.events = omega (arith, x.1.0, long) in
      (x.0 + 1, (omega arith, (l, λ r. x.1.1 (rw back at (answer_is t (x.0 + 1) (omega arith) l ∙ r)))))

speaks-three : (n : ℕ) → speaks n ≡ true → OneOfThree n
unfolding speaks
speaks-three n =
    or_facts (eqb n lDown) (eqb n rlDown || eqb n rlUp)
    (λ e. inl (eqb-true n lDown e))
    (or_facts (eqb n rlDown) (eqb n rlUp) (λ e. inr (inl (eqb-true n rlDown e))) (λ e. inr (inr (eqb-true n rlUp e))))

three-speaks : (n : ℕ) → OneOfThree n → speaks n ≡ true
unfolding speaks
three-speaks n = ⊎_elim (λ e. rw e) (⊎_elim (λ e. rw e) (λ e. rw e))

-- ---- where sheets of so many tracks are taken
module _ (most : ℕ) (fits : most ≤ two_tracks) where
  -- ---- a question that is answered
  module _ (s : List ℕ) (k : ℕ) (a : Answerable most s k) where
    abbrev t : Tracked
    t = decode_tracked s

    abbrev b : ℕ
    b = track_at t k

    abbrev n : ℕ
    n = answer_of (event_at t k)

    abbrev p : ℕ
    p = post_of (event_at t k)

    -- the definition's event
    answer_is_last : since_up_to most s k ≡ since 0 0 (last_made t b n p (k - 1))
    unfolding since_when
    answer_is_last =
        sym (since_in_lem most s k a.read (is_asked t k a.least a.most-events (three-speaks n a.three))) ∙ rw (all_right t a.right)

    refused_says : Says n (line_at b (state_after t (k - 1))) p
    refused_says =
        let w = state_after t (k - 1) in
        let e = ran_at t k in
        let q = track_is t k a.least a.most-events in
        let o = own-answer t.form (circuit_of t.table) w e (form_two most fits s a.read) (rw q (on-track most fits s a.read (k - 1))) n (three-speaks n a.three) (sym (a.right k a.least a.most-events)) in
        says (line_at b w) w.told.head (number_of e) p (stamp_of e) n (three-speaks n a.three)
        (rw (q, post_is t k a.least a.most-events) at o)

    -- it is so from the start, or an event made it so
    start_or_made : ((last_made t b n p (k - 1) ≡ 0) × Always t b n p k) ⊎ Made t b n p k (last_made t b n p (k - 1))
    start_or_made =
        let up : suc (k - 1) ≡ k = omega (arith, a.least) in
        subst (λ (i : ℕ). ((last_made t b n p (k - 1) ≡ 0) × Always t b n p i) ⊎ Made t b n p i (last_made t b n p (k - 1))) up
        (last_made_lem t b n p (k - 1) refused_says.so-now)

    -- from the start only RL can be up, not down, nor L
    start_up : Always t b n p k → n ≡ 13
    start_up f =
        let z = at_start t b n p (k - 1) refused_says in
        let no : (n ≡ 8) ⊎ (n ≡ 9) → ⊥ = λ q. false≢true (sym (z.1 q) ∙ f 0 a.least) in
        ⊎_elim (λ e. absurd (no (inl e))) (⊎_elim (λ e. absurd (no (inr e))) (λ e. e)) a.three

    answered : NamedSince most s k (since 0 0 (last_made t b n p (k - 1)))
    answered =
        ⊎_elim
        (λ f.
        let e = start_up f.1 in
        rw f.0 (from_start a e (subst (λ (i : ℕ). Always t b i p k) e f.1)))
        (λ m. made (last_made t b n p (k - 1)) a m)
        start_or_made

    -- an event that made it so is the one named
    made_is_last : (j : ℕ) → Made t b n p k j → last_made t b n p (k - 1) ≡ j
    made_is_last j m = ⊎_elim (λ f. absurd (not_always m f.1)) (λ f. only_one f m) start_or_made

    start_is_last : Always t b n p k → last_made t b n p (k - 1) ≡ 0
    start_is_last f = ⊎_elim (λ g. g.0) (λ g. absurd (not_always g f)) start_or_made

  -- ---- exactly when
  named : (s : List ℕ) (k : ℕ) → NamedSince most s k (since_up_to most s k)
  named s k =
      let t = decode_tracked s in
      split (eqb (verdict_up_to most s).number 0)
      (λ c.
      let z = eqb-true (verdict_up_to most s).number 0 c in
      least_or_below 1 k
      (λ h.
      least_or_below k (length t.events)
      (λ l.
      split (speaks (answer_of (event_at t k)))
      (λ q.
      split (as_worked t)
      (λ w.
      let a : Answerable most s k =
      record {
        read = z;
        right = right_all t w;
        least = h;
        most-events = l;
        three = speaks-three (answer_of (event_at t k)) q;
      } in
      rw (answer_is_last s k a) (answered s k a))
      (λ w.
      let x = some-wrong t w in
      rw (← since_not_worked most s k z w) (not_worked x.0 z x.1.0 x.1.1.0 x.1.1.1)))
      (λ q.
      rw (← since_not_asked most s k z (other-answer t k q))
      (another_answer z (λ y. false≢true (sym q ∙ three-speaks (answer_of (event_at t k)) y)))))
      (λ l. rw (← since_not_asked most s k z (past_last t k l)) (no_event z (inr l))))
      (λ h. rw (← since_not_asked most s k z (below_first t k h)) (no_event z (inl (omega arith)))))
      (λ c.
      rw (← since-unread most s k c) (unread (eqb-false (verdict_up_to most s).number 0 c) ((verdict_iff most s (verdict_up_to most s)).0 refl)))

  names : (s : List ℕ) (k : ℕ) (v : Since) → NamedSince most s k v → since_up_to most s k ≡ v
  names s k v (unread {v = u} h b) =
      let e = (verdict_iff most s u).1 b in
      sym (since-unread most s k (rw e (ne_eqb u.number 0 h))) ∙ rw e
  names s k v (not_worked j z h l w) = sym (since_not_worked most s k z (wrong_one (decode_tracked s) j h l w))
  names s k v (another_answer z w) =
      sym (since_not_asked most s k z
      (other-answer (decode_tracked s) k
      (split (speaks (answer_of (event_at (decode_tracked s) k))) (λ q. absurd (w (speaks-three (answer_of (event_at (decode_tracked s) k)) q))) (λ q. q))))
  names s k v (no_event z w) =
      sym (since_not_asked most s k z (⊎_elim (λ e. below_first (decode_tracked s) k (omega arith)) (λ l. past_last (decode_tracked s) k l) w))
  names s k v (made j a m) = answer_is_last s k a ∙ ap (since 0 0) (made_is_last s k a j m)
  names s k v (from_start a e f) =
      answer_is_last s k a
      ∙ ap (since 0 0) (start_is_last s k a (subst (λ (i : ℕ). Always (decode_tracked s) (b s k a) i (p s k a) k) (sym e) f))

  -- an answer is the call's exactly when it may be named
  pub since_iff : (s : List ℕ) (k : ℕ) (v : Since) → (since_up_to most s k ≡ v) ↔ NamedSince most s k v
  since_iff s k v = (λ e. subst (NamedSince most s k) e (named s k), names s k v)

  -- an event not yet answered has no right answer: of a sheet with one nothing is told
  pub unanswered-refused : (s : List ℕ) (k j : ℕ) → (verdict_up_to most s).number ≡ 0 → 1 ≤ j → j ≤ length (decode_tracked s).events
      → answer_of (event_at (decode_tracked s) j) ≡ unanswered
      → since_up_to most s k ≡ since 29 0 0
  unanswered-refused s k j z h l u =
      let t = decode_tracked s in
      names s k (since 29 0 0)
      (not_worked j z h l (λ r. omega (arith, u, r, answered_next t.form (circuit_of t.table) (state_after t (j - 1)) (ran_at t j))))

  -- ---- what the owner asks for
  -- a question with number 0 is one of an event of a worked sheet with one of the three answers
  answerable_by : (s : List ℕ) (k : ℕ) {v : Since} → NamedSince most s k v → v.number ≡ 0 → Answerable most s k
  answerable_by s k (unread h b) e = absurd (h e)
  answerable_by s k (not_worked j z h l w) e = absurd (omega arith)
  answerable_by s k (another_answer z w) e = absurd (omega arith)
  answerable_by s k (no_event z w) e = absurd (omega arith)
  answerable_by s k (made j a m) e = a
  answerable_by s k (from_start a f g) e = a

  pub answerable : (s : List ℕ) (k : ℕ) → (since_up_to most s k).number ≡ 0 → Answerable most s k
  answerable s k = answerable_by s k (named s k)

-- event j is the reason: it made it so, it was taken, on the chosen event's track, and it is one of those that a pupil is told of
pub record Reason (s : List ℕ) (k j : ℕ) : Type 0 where
  pub made_it : MadeIt s k j
  pub was_taken : answer_of (event_at (decode_tracked s) j) ≡ taken
  pub same_track : track_at (decode_tracked s) j ≡ track_at (decode_tracked s) k
  pub told : Cause (number_of (event_at (decode_tracked s) j)) (post_of (event_at (decode_tracked s) j)) (post_of (event_at (decode_tracked s) k))
      (at (line_at (track_at (decode_tracked s) k) (state_after (decode_tracked s) (j - 1))) (post_of (event_at (decode_tracked s) k)))
      (answer_of (event_at (decode_tracked s) k))

module _ (most : ℕ) (fits : most ≤ two_tracks) where
  module _ (s : List ℕ) (k j : ℕ) (a : Answerable most s k) (m : MadeIt s k j) where
    abbrev said : Tracked
    said = decode_tracked s

    abbrev before_it : AfterTwo
    before_it = state_after said (j - 1)

    abbrev event : List ℕ
    event = ran_at said j

    within : j ≤ length said.events
    within = omega (arith, m.earlier, a.most-events)

    -- it is so in a line of the chosen event's track, at its post
    abbrev SoIn : List Post → Type 0
    SoIn l = so (answer_of (event_at said k)) (at l (post_of (event_at said k))).word ≡ true

    -- after it
    so_next : SoIn (line_at (track_at said k) (worked_at said j))
    so_next =
        subst (λ (w : AfterTwo). SoIn (line_at (track_at said k) w)) (step_at said j m.least within) (m.stays j (omega arith) m.earlier)

    was_taken_then : (worked_at said j).told.answer ≡ taken
    was_taken_then =
        equal_or_not (worked_at said j).told.answer taken (λ e. e)
        (λ e.
        let f = refused_same said.form (circuit_of said.table) before_it event (track_at said k) e in
        absurd (false≢true (sym m.was_not ∙ subst SoIn f so_next)))

    -- only an event on that track makes it so, and it is one of those
    abbrev Told : Type 0
    Told = (track_of event ≡ track_at said k) × Cause (number_of event) (post_of event) (post_of (event_at said k)) (at (line_at (track_at said k) before_it) (post_of (event_at said k))) (answer_of (event_at said k))

    told-then : Told
    told-then =
        let q = track_is said j m.least within in
        line_cases said.form (circuit_of said.table) before_it event (track_at said k) (λ l. SoIn l → Told)
        (λ f y. (
          f (form_two most fits s a.read) (rw q (on-track most fits s a.read (j - 1))) (on-track most fits s a.read (k - 1)),
          cause (line_at (track_at said k) before_it) before_it.told.head (number_of event) (post_of event) (stamp_of event) (post_of (event_at said k)) (answer_of (event_at said k)) (three-speaks (answer_of (event_at said k)) a.three) m.was_not y,
        ))
        (λ y. absurd (false≢true (sym m.was_not ∙ y)))
        so_next

    reason : Reason s k j
    reason =
        record {
          made_it = m;
          was_taken = a.right j m.least within ∙ was_taken_then;
          same_track = sym (track_is said j m.least within) ∙ told-then.0;
          told = rw (number_is said j m.least within, post_is said j m.least within) at told-then.1;
        }

  -- 'Prove that it made the change and none since undid it.'
  pub named-event : (s : List ℕ) (k : ℕ) → (since_up_to most s k).number ≡ 0 → ((since_up_to most s k).position ≡ 0 → ⊥)
      → Reason s k (since_up_to most s k).position
  named-event s k z f =
      let a = answerable most fits s k z in
      let e : (since_up_to most s k).position ≡ last_made (t most fits s k a) (b most fits s k a) (n most fits s k a) (p most fits s k a) (k - 1) = ap (λ (v : Since). v.position) (answer_is_last most fits s k a) in
      ⊎_elim
      (λ g. absurd (f (e ∙ g.0)))
      (λ m. rw e (reason s k (last_made (t most fits s k a) (b most fits s k a) (n most fits s k a) (p most fits s k a) (k - 1)) a m))
      (start_or_made most fits s k a)

  -- it is one of the sheet's events, before the chosen one
  pub since-within : (s : List ℕ) (k : ℕ) → (since_up_to most s k).number ≡ 0
      → ((since_up_to most s k).position < k) × (k ≤ length (decode_tracked s).events)
  since-within s k z =
      let a = answerable most fits s k z in
      (equal_or_not (since_up_to most s k).position 0 (λ e. omega (arith, e, a.least)) (λ e. (named-event s k z e).made_it.earlier), a.most-events)

  -- only one position fits that
  pub only_named : (s : List ℕ) (k j : ℕ) → (since_up_to most s k).number ≡ 0 → MadeIt s k j → (since_up_to most s k).position ≡ j
  only_named s k j z m =
      let a = answerable most fits s k z in
      ap (λ (v : Since). v.position) (answer_is_last most fits s k a) ∙ made_is_last most fits s k a j m

  -- 'RL up from the start gives position 0', and nothing else does
  pub start_iff : (s : List ℕ) (k : ℕ) → (since_up_to most s k).number ≡ 0
      → ((since_up_to most s k).position ≡ 0) ↔ ((answer_of (event_at (decode_tracked s) k) ≡ 13) × UpAlways s k)
  start_iff s k z =
      let a = answerable most fits s k z in
      let e : (since_up_to most s k).position ≡ last_made (t most fits s k a) (b most fits s k a) (n most fits s k a) (p most fits s k a) (k - 1) = ap (λ (v : Since). v.position) (answer_is_last most fits s k a) in (
        λ f.
            ⊎_elim
            (λ g. let q = start_up most fits s k a g.1 in (q, subst (λ (i : ℕ). Always (decode_tracked s) (track_at (decode_tracked s) k) i (post_of (event_at (decode_tracked s) k)) k) q g.1))
            (λ m. absurd (omega (arith, m.least, e)))
            (start_or_made most fits s k a),
        λ f. e ∙ start_is_last most fits s k a (subst (λ (i : ℕ). Always (decode_tracked s) (track_at (decode_tracked s) k) i (post_of (event_at (decode_tracked s) k)) k) (sym f.0) f.1),
      )
