-- Demand 3 for the events of a sheet: what working answers, the head that it returns and every line of the listing are what the worked sheet's own history says.
-- The states of working are reached from a line just started, event by event; so each theorem of the history is one of the sheet.
use Prim.Native.Nat.{ℕ, suc, ◌+◌, ◌-◌, ◌<◌}
use mathlib.Core.Path.{◌≡◌, refl, ap, subst, ◌∙◌}
use mathlib.Core.Bool.{true, false, ◌||◌}
use mathlib.Core.List.{List, [], ◌∷◌, ◌++◌, append-nil}
use native.Mathlib.Nat.{zero-add}
use native.Mathlib.Omega.{arith}
use borrow.Author.Tests.{eq-eqb, eqb-true, eqb-false, ltb-false}
use lib.Dec.{eqb}
use lib.ListN.{length, get_or}
use Rattle.relay.specs.Answers.{taken}
use Rattle.relay.specs.Examples.{blanks}
use Rattle.relay.specs.Kinds.{ordinary, table_ok, blocks_at_pedal}
use Rattle.relay.specs.Line.{After, head, startable, start_of}
use Rattle.relay.specs.Posts.{at}
use Rattle.relay.specs.Relays.{An, up}
use Rattle.relay.specs.declared.Head.{Head}
use Rattle.relay.specs.declared.Post.{Post}
use Rattle.relay.proofs.Frame.{refused-alters-nothing, head-moves}
use Rattle.relay.proofs.Truth.{split}
use Rattle.history.specs.History.{Entry, entry, did, is_open, releases, announced, tally}
use Rattle.history.specs.Run.{State, step, given_event, Reached, at_first, further}
use Rattle.history.specs.Run as hist
use Rattle.history.specs.Demand.{Counted, Ends, Conserved, HeldByOne, Locked, Freed, Unjammed, Follows}
use Rattle.history.proofs.Ledger as ledger
use Rattle.history.proofs.Jammed.{reached_not_released, reached_not_recorded}
use Rattle.history.proofs.Passed.{reached-follows}
use Rattle.history.proofs.Reopened.{reached_not_reopened}
use Rattle.history.proofs.Runs.{reached-length, begun-length}
use Rattle.sheet.specs.Entry.{number_of, post_of, stamp_of}
use Rattle.sheet.specs.Layout.{one_track}
use Rattle.sheet.specs.Reading.{blocks_in, verdict_of, decode, decode_tracked}
use Rattle.working.specs.Run.{begun, next, run, answered, marked}
use Rattle.working.specs.Working.{first_answered, worked, work_verdict, work_of, section_numbers}
use Rattle.working.proofs.Both.{marked-long, marked_at}
use Rattle.working.proofs.Named.{Unanswered, none}
use Rattle.working.proofs.OneTrack.{one, events_one, end_one, worked_one}
use Rattle.working.proofs.Steps.{answered-long}
use Rattle.sheet.proofs.Forms.{taken_too}
use Rattle.working.proofs.Twice.{answered_at}
use Rattle.working.proofs.Works.{said-table}
use Rattle.listing.specs.Lines.{track_named, section_line}
use Rattle.listing.specs.Listing.{listing_of}
use Rattle.digits.specs.Texts.{joined}
use Rattle.listing.proofs.Numbered.{event_text, section_text, joined_same}
use Rattle.listing.proofs.Joined.{lines-joined}
use Rattle.listing.proofs.Sheets.{listing-worked}
use Rattle.lesson.specs.Lesson.{asked, onto, shown, section_says, taken_in, last_stamp, line_after, answer_at, event_said, section_said, said}

-- ---- working, as a line that events befall
abbrev as_state : List Entry → After → State
as_state b a = record { history = b; line = a.line; head = a.told.head }

-- each event of the sheet befalls the line, and its answer stands in the history
works_on : {z : State} (b : List Entry) (a : After) (es : List (List ℕ)) → Reached z (as_state b a)
    → Reached z (as_state (onto b (answered a es)) (run a es))
unfolding step onto run answered
works_on b a [] r = r
works_on b a (e ∷ es) r = works_on (entry (asked e) (next a e).told.answer ∷ b) (next a e) es (further r (given_event (asked e)))

pub blanks-long : (ks : List ℕ) → length (blanks ks) ≡ length ks
blanks-long [] = refl
blanks-long (k ∷ ks) = ap suc (blanks-long ks)

module _ (ks : List ℕ) (t : ℕ) (right : table_ok ks ≡ true) where
  starts : startable (blanks ks) ks ≡ true
  unfolding startable
  starts = rw (eq-eqb (length (blanks ks)) (length ks) (blanks-long ks)) right

  same_start : hist.begun (blanks ks) ks t ≡ as_state [] (begun ks t)
  unfolding hist.begun start_of
  same_start = rw starts

  module _ (es : List (List ℕ)) where
    -- the worked events' own history, and the posts at the end
    abbrev told : List Entry
    told = shown (answered (begun ks t) es)

    abbrev post : ℕ → Post
    post i = at (run (begun ks t) es).line i

    -- the state that working leaves is reached
    reached : Reached (hist.begun (blanks ks) ks t) (as_state told (run (begun ks t) es))
    reached = works_on [] (begun ks t) es (subst (λ (w : State). Reached (hist.begun (blanks ks) ks t) w) same_start at_first)

    -- no post is more or less
    posts : length (run (begun ks t) es).line ≡ length ks
    posts = reached-length reached ∙ begun-length (blanks ks) ks t starts

    -- the nine counts are those of the sheet's own events
    pub counted : (s : ℕ) → s + 1 < length ks → Counted ks s told (post s) (post (s + 1))
    counted = ledger.reached-counted (blanks ks) ks t starts reached

    pub ends : (i : ℕ) → i + 1 ≡ length ks → Ends (post 0) (post i)
    ends = ledger.reached-ends (blanks ks) ks t starts reached

    -- what was sent is received, lost or under way; what was passed is released or waiting
    pub conserved : (s : ℕ) → s + 1 < length ks → Conserved ks s told (post s) (post (s + 1))
    conserved = ledger.reached-conserved (blanks ks) ks t starts reached

    -- an occupied section is held by exactly one thing, a free one by none
    pub held_by_one : (s : ℕ) → s + 1 < length ks → HeldByOne s told (post s) (post (s + 1))
    held_by_one = ledger.reached-held_by_one (blanks ks) ks t starts reached

    -- while it is held its semaphore is closed and its lever locked
    pub locked : (s : ℕ) → s + 1 < length ks → Locked (post s)
    locked = ledger.reached-locked (blanks ks) ks t starts reached

    -- a semaphore passed open does not open again before it is freed
    pub reopened : (i : ℕ) → blocks_at_pedal (ordinary (get_or ks i 0)) ≡ true
        → (later : List Entry) (y : Entry) (m : List Entry) (x : Entry) (b : List Entry) → told ≡ later ++ (y ∷ (m ++ (x ∷ b)))
        → did 1 i y ≡ true → did 4 i x ≡ true → is_open i b ≡ true
        → Freed i (m ++ (x ∷ b)) (x ∷ b)
    reopened = reached_not_reopened (blanks ks) ks t starts reached

    -- no release is taken at a post between its jam and its freeing, nor does An rise there
    pub released : (i : ℕ) (later : List Entry) (y : Entry) (m : List Entry) (x : Entry) (b : List Entry)
        → told ≡ later ++ (y ∷ (m ++ (x ∷ b)))
        → (did 6 i y || did 7 i y) ≡ true → did 11 i x ≡ true
        → Unjammed i m
    released = reached_not_released (blanks ks) ks t starts reached

    pub recorded : (s : ℕ) → s + 1 < length ks → (m : List Entry) (x : Entry) (b : List Entry) → told ≡ m ++ (x ∷ b)
        → did 11 (s + 1) x ≡ true → announced s b ≡ false → up An (post (s + 1)).word ≡ true
        → Unjammed (s + 1) m
    recorded = reached_not_recorded (blanks ks) ks t starts reached

    -- a release follows a passage since the previous one
    pub followed : (s : ℕ) (later : List Entry) (y : Entry) (b : List Entry) → told ≡ later ++ (y ∷ b) → releases s y ≡ true → Follows ks s b
    followed = reached-follows (blanks ks) ks t starts reached

    -- the listing's line of a section
    pub section-says : (s : ℕ) → s + 1 < length ks → section_numbers s (post s) (post (s + 1)) ≡ section_says ks s told (post s)
    unfolding section_numbers section_says
    section-says s fits = let c = counted s fits in rw (c.sent, c.announcements-received, c.announcements-lost, c.passed, c.releases-sent, c.releases-lost, c.releases-received, c.restored)

-- ---- the session's head
-- what it is after a history that began at the stamp t
abbrev Counts : ℕ → List Entry → After → Type 0
Counts t b a = a.told.head ≡ head (taken_in b) (last_stamp t b)

-- one entry more: what the head is before it, and after it where it was taken and where it was refused
pub head-moved : (t : ℕ) (b : List Entry) (s s' : Head) (x : Entry)
    → (x.answer ≡ 0 → s' ≡ head (s.taken + 1) x.event.stamp)
    → ((x.answer ≡ 0 → ⊥) → s' ≡ s)
    → s ≡ head (taken_in b) (last_stamp t b)
    → s' ≡ head (taken_in (x ∷ b)) (last_stamp t (x ∷ b))
unfolding taken_in last_stamp tally
head-moved t b s s' x f g z =
    split (eqb x.answer taken)
    (λ y.
    let more : s.taken + 1 ≡ 1 + tally (λ x b. eqb x.answer taken) b = omega (arith, ap (λ (s : Head). s.taken) z) in
    rw y (f (eqb-true _ _ y) ∙ ap (λ (n : ℕ). head n x.event.stamp) more))
    (λ y. rw (y, zero-add) (g (eqb-false _ _ y) ∙ z))

head_next : (t : ℕ) (b : List Entry) (a : After) (e : List ℕ) → Counts t b a → Counts t (entry (asked e) (next a e).told.answer ∷ b) (next a e)
head_next t b a e =
    head-moved t b a.told.head (next a e).told.head (entry (asked e) (next a e).told.answer)
    (head-moves a.line a.told.head (number_of e) (post_of e) (stamp_of e))
    (λ y. (refused-alters-nothing a.line a.told.head (number_of e) (post_of e) (stamp_of e) y).1)

head-on : (t : ℕ) (b : List Entry) (a : After) (es : List (List ℕ)) → Counts t b a → Counts t (onto b (answered a es)) (run a es)
unfolding onto run answered
head-on t b a [] z = z
head-on t b a (e ∷ es) z = head-on t (entry (asked e) (next a e).told.answer ∷ b) (next a e) es (head_next t b a e z)

-- events taken is how many answers are 0, and the last stamp that of the last event taken, or the start stamp
pub head-says : (ks : List ℕ) (t : ℕ) (es : List (List ℕ))
    → (run (begun ks t) es).told.head ≡ head (taken_in (shown (answered (begun ks t) es))) (last_stamp t (shown (answered (begun ks t) es)))
unfolding taken_in last_stamp tally
head-says ks t es = head-on t [] (begun ks t) es refl

-- ---- an accepted sheet: the row that working it leaves, and the answers that it writes
module _ (s : List ℕ) (z : (verdict_of s).number ≡ 0) where
  abbrev line_at : ℕ → Post
  line_at i = at (run (begun (decode s).kinds (decode s).stamp) (decode s).events).line i

  -- the line of section i says what the worked sheet's events and answers say
  pub sheet-says : (i : ℕ) → i + 1 < length (decode s).kinds
      → section_numbers i (line_at i) (line_at (i + 1)) ≡ section_says (decode s).kinds i (shown (worked (decode s)).events) (line_at i)
  sheet-says i fits = section-says (decode s).kinds (decode s).stamp (said-table s z) (decode s).events i fits

  -- the head that working returns
  pub work_head_says : (m : ℕ) → (work_verdict s m).number ≡ 0
      → (work_of s m).head ≡ head (taken_in (shown (worked (decode s)).events)) (last_stamp (decode s).stamp (shown (worked (decode s)).events))
  unfolding work_of
  work_head_says m w = rw (eq-eqb (work_verdict s m).number 0 w) (head-says (decode s).kinds (decode s).stamp (decode s).events)

  -- the listing, byte for byte, where no event is answered yet: each line of an event has the answer of its run, and each line of a section what
  -- the worked sheet's own history says
  pub listing-says : Unanswered s (blocks_in (length s)) → listing_of s ≡ said (decode s)
  unfolding said answer_at track_named joined
  listing-says u =
      let t = decode s in
      let ts = (decode_tracked s).tracks in
      let b = begun t.kinds t.stamp in
      let es = (worked t).events in
      let fresh = ltb-false (first_answered t.events) (length t.events) (none one_track s z u) in
      let long : length (marked es ts) ≡ length t.events = marked-long es ts ∙ answered-long b t.events in
      let e : joined (event_text one_track (marked es ts)) (length (marked es ts)) ≡ joined (event_said t) (length t.events) =
      rw long
      (joined_same (event_text one_track (marked es ts)) (event_said t) (length t.events) (λ i h. rw (marked_at es ts i (omega (arith, h, answered-long b t.events)), answered_at b t.events i h) refl)) in
      let k : joined (section_text [] (line_after t)) (length (line_after t) - 1) ≡ joined (section_said t) (length t.kinds - 1) =
      rw (posts t.kinds t.stamp (said-table s z) t.events)
      (joined_same (section_text [] (line_after t)) (section_said t) (length t.kinds - 1) (λ i h. ap (λ (ns : List ℕ). section_line ns []) (sheet-says i (omega arith)))) in
      listing-worked s (taken_too s z) (rw (events_one s z) fresh)
      ∙ lines-joined (decode_tracked s)
      ∙ rw (worked_one s z, end_one s z, one s z, e, k, append-nil) refl
