-- Demand 3 for each track of a worked sheet of two: what working leaves of a track's line is what the sheet's own events and answers on that track say.
-- The states of working are those of a session on two tracks, event by event; so each theorem of crates/tracks is one of the sheet.
use Prim.Native.Nat.{ℕ, ◌+◌, ◌-◌, ◌%◌, ◌<◌}
use mathlib.Core.Path.{◌≡◌, refl, sym, ap, subst, ◌∙◌}
use mathlib.Core.Bool.{Bool, true, false, ◌&&◌, ◌||◌}
use mathlib.Core.List.{List, [], ◌∷◌, ◌++◌}
use native.Mathlib.Omega.{arith}
use borrow.Author.Tests.{eq-eqb}
use lib.Dec.{eqb, leb}
use lib.ListN.{length, get_or, drop}
use Rattle.relay.specs.Choice.{pick, one}
use Rattle.relay.specs.Examples.{blanks}
use Rattle.relay.specs.Kinds.{ordinary, table_ok, blocks_at_pedal}
use Rattle.relay.specs.Line.{head, startable}
use Rattle.relay.specs.Posts.{at}
use Rattle.relay.specs.Relays.{An, up}
use Rattle.relay.specs.declared.Post.{Post}
use Rattle.relay.proofs.Fresh.{length-fresh}
use Rattle.relay.proofs.Frame.{head-moves, refused-alters-nothing}
use Rattle.relay.proofs.Truth.{and_facts, split}
use Rattle.history.specs.History.{Entry, entry, did, is_open, releases, announced, tally}
use Rattle.history.specs.Demand.{Counted, Ends, Conserved, HeldByOne, Locked, Freed, Unjammed, Follows}
use Rattle.sheet.specs.Entry.{number_of, post_of, stamp_of}
use Rattle.sheet.specs.Layout.{two_tracks}
use Rattle.sheet.specs.Reading.{form_ok, tables_ok, table_fits, verdict_up_to, decode_tracked}
use Rattle.sheet.specs.Sheet.{Tracked, first_kinds, second_kinds, circuit_of}
use Rattle.tracks.specs.Circuit.{AfterTwo, startable_two, start_two}
use Rattle.tracks.specs.Desk.{Desk, desk, of_track, line_of, Asked, Session, given, step, run, begun, names, only}
use Rattle.tracks.proofs.Demand as demand
use Rattle.tracks.proofs.Kept.{two_moves, two_refused}
use Rattle.working.specs.Run.{track_of, marked, begun_by, next_by, run_by, answers_by}
use Rattle.working.specs.Working.{end_of, worked_tracked, section_numbers}
use Rattle.working.proofs.Along.{said_at}
use Rattle.working.proofs.Both.{marked-long, marked_at, first_long, second-long, circuit_same, run_long}
use Rattle.working.proofs.Steps.{goes_by}
use Rattle.working.proofs.WorksTracks.{worked-long, said_start}
use Rattle.listing.specs.Lines.{track_named, section_line}
use Rattle.listing.specs.Listing.{answer_to, listing_of}
use Rattle.listing.proofs.Numbered.{event_text, section_text, joined_same, listing-lines}
use Rattle.listing.proofs.Joined.{lines-joined}
use Rattle.digits.specs.Texts.{joined}
use Rattle.lesson.specs.Lesson.{asked, onto, shown, section_says, taken_in, last_stamp}
use Rattle.lesson.specs.Tracks.{onto_track, shown_on, event_on, answer_on, event_said_on, kinds_on, section_said_on, said_on}
use Rattle.lesson.proofs.Lesson.{blanks-long, head-moved}

-- what is asked of the desk by the events of a sheet
asked_all : List (List ℕ) → List Asked
asked_all [] = []
asked_all (e ∷ es) = record { track = track_of e; event = asked e } ∷ asked_all es

-- an event of a sheet with its track, as it is asked
abbrev marked_by : List ℕ → ℕ → Asked
marked_by e m = record { track = m; event = asked e }

-- working goes on as a session on the lines and head that it has come to
goes_on_lem : (c : ℕ) (w : Session) (a : AfterTwo) (es : List (List ℕ)) → w.desk ≡ desk c a → (run (asked_all es) w).desk ≡ desk c (run_by 2 c a es)
unfolding run step run_by next_by asked_all
goes_on_lem c w a [] e = e
goes_on_lem c w a (x ∷ es) e = goes_on_lem c (step (marked_by x (track_of x)) w) (next_by 2 c a x) es (ap (λ d. desk d.circuit (given (marked_by x (track_of x)) d)) e)

-- and the answers that it fills in are those of the session
module _ (b : Bool) (c : ℕ) where
  shows : (w : Session) (a : AfterTwo) (es : List (List ℕ)) (ts : List ℕ) → w.desk ≡ desk c a
      → only b (run (asked_all (marked es ts)) w).history ≡ onto_track b (only b w.history) (marked (answers_by 2 c a (marked es ts)) ts)
  unfolding run step only marked answers_by onto_track next_by asked_all
  shows w a [] ts e = refl
  shows w a (x ∷ es) ts e =
      let m : ℕ = get_or ts 0 0 in
      let q : Asked = marked_by x m in
      let after : AfterTwo = given q (desk c a) in
      let before : List Entry = only b w.history in
      let rest : List (List ℕ) = marked (answers_by 2 c after (marked es (drop 1 ts))) (drop 1 ts) in
      shows (step q w) after es (drop 1 ts) (ap (λ d. desk d.circuit (given q d)) e)
      ∙ ap (λ d. onto_track b (pick (names b m) (entry (asked x) (given q d).told.answer ∷ before) before) rest) e

-- ---- the common head: it counts the events taken on both tracks, and its stamp is that of the last of them
next_moves : (form c : ℕ) (a : AfterTwo) (e : List ℕ) → (next_by form c a e).told.answer ≡ 0
    → (next_by form c a e).told.head ≡ head (a.told.head.taken + 1) (stamp_of e)
unfolding next_by
next_moves form c a e =
    split (eqb form 2)
    (λ y. rw y (two_moves c a.first a.second a.told.head (track_of e) (number_of e) (post_of e) (stamp_of e)))
    (λ y. rw y (head-moves a.first a.told.head (number_of e) (post_of e) (stamp_of e)))

next_stays : (form c : ℕ) (a : AfterTwo) (e : List ℕ) → ((next_by form c a e).told.answer ≡ 0 → ⊥) → (next_by form c a e).told.head ≡ a.told.head
unfolding next_by
next_stays form c a e =
    split (eqb form 2)
    (λ y. rw y (λ n. (two_refused c a.first a.second a.told.head (track_of e) (number_of e) (post_of e) (stamp_of e) n).2))
    (λ y. rw y (λ n. (refused-alters-nothing a.first a.told.head (number_of e) (post_of e) (stamp_of e) n).1))

head-along : (form c t : ℕ) (b : List Entry) (a : AfterTwo) (es : List (List ℕ)) → a.told.head ≡ head (taken_in b) (last_stamp t b)
    → (run_by form c a es).told.head ≡ head (taken_in (onto b (answers_by form c a es))) (last_stamp t (onto b (answers_by form c a es)))
unfolding onto run_by answers_by
head-along form c t b a [] z = z
head-along form c t b a (e ∷ es) z =
    head-along form c t (entry (asked e) (next_by form c a e).told.answer ∷ b) (next_by form c a e) es
    (head-moved t b a.told.head (next_by form c a e).told.head (entry (asked e) (next_by form c a e).told.answer) (next_moves form c a e) (next_stays form c a e) z)

-- of a sheet of either form
pub tracks-head-says : (t : Tracked)
    → (end_of t).told.head ≡ head (taken_in (shown (worked_tracked t).events)) (last_stamp t.stamp (shown (worked_tracked t).events))
unfolding taken_in last_stamp tally begun_by
tracks-head-says t =
    head-along t.form (circuit_of t.table) t.stamp [] (begun_by t.form t.table t.stamp) (marked t.events t.tracks)
    (split (eqb t.form 2) (λ y. rw y refl) (λ y. rw y refl))

-- ---- a right table of two tracks, a start stamp, events and their tracks
module _ (t : Tracked) (two : t.form ≡ 2) (right : tables_ok t.table ≡ true) where
  abbrev first : List ℕ
  first = first_kinds t.table

  abbrev second : List ℕ
  second = second_kinds t.table

  abbrev c : ℕ
  c = circuit_of t.table

  rightly : (table_ok first ≡ true) × (table_ok second ≡ true) × (leb c 1 ≡ true)
  unfolding tables_ok
  rightly =
      let f = (and_facts (eqb (length t.table % 2) 1) (table_ok first && (table_ok second && leb c 1))).0 right in
      let g = (and_facts (table_ok first) (table_ok second && leb c 1)).0 f.1 in
      let h = (and_facts (table_ok second) (leb c 1)).0 g.1 in
      (g.0, h.0, h.1)

  started : startable_two c (blanks first) (blanks second) first second ≡ true
  unfolding startable_two startable
  started =
      let same : length first ≡ length second = first_long t.table ∙ sym (second-long t.table) in
      rw (
        circuit_same c,
        rightly.0,
        rightly.1,
        rightly.2,
        eq-eqb (length (blanks first)) (length first) (blanks-long first),
        eq-eqb (length (blanks second)) (length second) (blanks-long second),
        eq-eqb (length first) (length second) same,
      )
      refl

  abbrev begins : Session
  begins = begun c (blanks first) (blanks second) first second t.stamp

  same_start : begins.desk ≡ desk c (begun_by 2 t.table t.stamp)
  unfolding begun start_two begun_by
  same_start = rw started refl

  abbrev xs : List Asked
  xs = asked_all (marked t.events t.tracks)

  -- the lines at the end are the session's
  same_end : (run xs begins).desk ≡ desk c (end_of t)
  same_end = rw two (goes_on_lem c begins (begun_by 2 t.table t.stamp) (marked t.events t.tracks) same_start)

  -- ---- track b: its kinds, the worked sheet's own history of it, and its posts at the end
  module _ (b : Bool) where
    abbrev kinds : List ℕ
    kinds = of_track b first second

    abbrev told : List Entry
    told = shown_on b (worked_tracked t)

    abbrev post : ℕ → Post
    post i = at (line_of b (desk c (end_of t))) i

    same_told : only b (run xs begins).history ≡ told
    unfolding only begun
    same_told = rw two (shows b c begins (begun_by 2 t.table t.stamp) t.events t.tracks same_start)

    -- what holds of the session's entries and posts holds of the sheet's
    sheet : (P : List Entry → (ℕ → Post) → Type 0) → P (only b (run xs begins).history) (λ i. at (line_of b (run xs begins).desk) i) → P told post
    sheet P p = subst (λ (l : List Entry). P l post) same_told (subst (λ (d : Desk). P (only b (run xs begins).history) (λ i. at (line_of b d) i)) same_end p)

    -- the nine counts are those of the sheet's own events on the track
    pub counted : (s : ℕ) → s + 1 < length kinds → Counted kinds s told (post s) (post (s + 1))
    counted s fits = sheet (λ l p. Counted kinds s l (p s) (p (s + 1))) (demand.counted c (blanks first) (blanks second) first second t.stamp started xs b s fits)

    pub ends : (i : ℕ) → i + 1 ≡ length kinds → Ends (post 0) (post i)
    ends i last = sheet (λ l p. Ends (p 0) (p i)) (demand.ends c (blanks first) (blanks second) first second t.stamp started xs b i last)

    -- what was sent is received, lost or under way; what was passed is released or waiting
    pub conserved : (s : ℕ) → s + 1 < length kinds → Conserved kinds s told (post s) (post (s + 1))
    conserved s fits = sheet (λ l p. Conserved kinds s l (p s) (p (s + 1))) (demand.conserved c (blanks first) (blanks second) first second t.stamp started xs b s fits)

    -- an occupied section is held by exactly one thing, a free one by none
    pub held_by_one : (s : ℕ) → s + 1 < length kinds → HeldByOne s told (post s) (post (s + 1))
    held_by_one s fits = sheet (λ l p. HeldByOne s l (p s) (p (s + 1))) (demand.held_by_one c (blanks first) (blanks second) first second t.stamp started xs b s fits)

    -- while it is held its semaphore is closed and its lever locked
    pub locked : (s : ℕ) → s + 1 < length kinds → Locked (post s)
    locked s fits = sheet (λ l p. Locked (p s)) (demand.locked c (blanks first) (blanks second) first second t.stamp started xs b s fits)

    -- a semaphore passed open does not open again before it is freed
    pub reopened : (i : ℕ) → blocks_at_pedal (ordinary (get_or kinds i 0)) ≡ true
        → (later : List Entry) (y : Entry) (m : List Entry) (x : Entry) (h : List Entry) → told ≡ later ++ (y ∷ (m ++ (x ∷ h)))
        → did 1 i y ≡ true → did 4 i x ≡ true → is_open i h ≡ true
        → Freed i (m ++ (x ∷ h)) (x ∷ h)
    reopened i f later y m x h e = demand.not_reopened c (blanks first) (blanks second) first second t.stamp started xs b i f later y m x h (same_told ∙ e)

    -- no release is taken at a post between its jam and its freeing
    pub released : (i : ℕ) (later : List Entry) (y : Entry) (m : List Entry) (x : Entry) (h : List Entry)
        → told ≡ later ++ (y ∷ (m ++ (x ∷ h)))
        → (did 6 i y || did 7 i y) ≡ true → did 11 i x ≡ true
        → Unjammed i m
    released i later y m x h e = demand.not_released c (blanks first) (blanks second) first second t.stamp started xs b i later y m x h (same_told ∙ e)

    -- nor does An rise there
    pub recorded : (s : ℕ) → s + 1 < length kinds → (m : List Entry) (x : Entry) (h : List Entry) → told ≡ m ++ (x ∷ h)
        → did 11 (s + 1) x ≡ true → announced s h ≡ false → up An (post (s + 1)).word ≡ true
        → Unjammed (s + 1) m
    recorded s fits m x h =
        sheet (λ l p. l ≡ m ++ (x ∷ h) → did 11 (s + 1) x ≡ true → announced s h ≡ false → up An (p (s + 1)).word ≡ true → Unjammed (s + 1) m)
        (demand.not_recorded c (blanks first) (blanks second) first second t.stamp started xs b s fits m x h)

    -- a release follows a passage since the previous one
    pub followed : (s : ℕ) (later : List Entry) (y : Entry) (h : List Entry) → told ≡ later ++ (y ∷ h) → releases s y ≡ true → Follows kinds s h
    followed s later y h e = demand.release-follows c (blanks first) (blanks second) first second t.stamp started xs b s later y h (same_told ∙ e)

    -- the listing's line of a section of the track
    pub section-says : (s : ℕ) → s + 1 < length kinds → section_numbers s (post s) (post (s + 1)) ≡ section_says kinds s told (post s)
    unfolding section_numbers section_says
    section-says s fits = let g = counted s fits in rw (g.sent, g.announcements-received, g.announcements-lost, g.passed, g.releases-sent, g.releases-lost, g.releases-received, g.restored)

-- ---- an accepted sheet of two tracks
module _ (s : List ℕ) (z : (verdict_up_to two_tracks s).number ≡ 0) (two : (decode_tracked s).form ≡ 2) where
  -- its tables are right, so each theorem above is one of it
  pub right-tables : tables_ok (decode_tracked s).table ≡ true
  unfolding table_fits
  right-tables =
      let d = decode_tracked s in
      let h = ((and_facts (form_ok two_tracks d.form) (table_fits d.form d.table)).0 (said_start s z)).1 in
      (rw two at h)

  -- the line of section i of track b says what the worked sheet's events and answers on that track say
  pub sheet-says : (b : Bool) (i : ℕ) → i + 1 < length (kinds (decode_tracked s) two right-tables b)
      → section_numbers i (post (decode_tracked s) two right-tables b i) (post (decode_tracked s) two right-tables b (i + 1))
      ≡ section_says (kinds (decode_tracked s) two right-tables b) i (told (decode_tracked s) two right-tables b) (post (decode_tracked s) two right-tables b i)
  sheet-says = section-says (decode_tracked s) two right-tables

  -- ---- the listing, byte for byte, where the sheet is worked: each line of an event has the answer of its run, and each line of a section what
  -- the worked sheet's own history of its track says
  abbrev t : Tracked
  t = decode_tracked s

  abbrev marks : List (List ℕ)
  marks = marked t.events t.tracks

  abbrev line : Bool → List Post
  line b = of_track b (end_of t).first (end_of t).second

  -- each line of posts is as long as its table
  line-long : (b : Bool) → length (line b) ≡ length (kinds_on b t)
  unfolding begun_by
  line-long false = (run_long t.form (circuit_of t.table) (begun_by t.form t.table t.stamp) marks).0 ∙ rw two (length-fresh (first_kinds t.table))
  line-long true = (run_long t.form (circuit_of t.table) (begun_by t.form t.table t.stamp) marks).1 ∙ rw two (length-fresh (second_kinds t.table))

  sections_say : (b : Bool) → joined (section_text (track_named t.form (one b)) (line b)) (length (line b) - 1) ≡ joined (section_said_on b t) (length (kinds_on b t) - 1)
  sections_say b =
      rw (line-long b)
      (joined_same (section_text (track_named t.form (one b)) (line b)) (section_said_on b t) (length (kinds_on b t) - 1) (λ i h. ap (λ (ns : List ℕ). section_line ns (track_named t.form (one b))) (sheet-says b i (omega arith))))

  events_say : joined (event_text t.form (marked (worked_tracked t).events t.tracks)) (length (marked (worked_tracked t).events t.tracks)) ≡ joined (event_said_on t) (length t.events)
  unfolding answer_on
  events_say =
      let ws = (worked_tracked t).events in
      let long = worked-long (decode_tracked s) in
      rw (marked-long ws t.tracks ∙ long)
      (joined_same (event_text t.form (marked ws t.tracks)) (event_said_on t) (length t.events) (λ i h.
      let track : track_of (event_on t i) ≡ get_or t.tracks i 0 = ap track_of (marked_at t.events t.tracks i h) in
      rw (marked_at ws t.tracks i (omega (arith, h, long)), said_at (goes_by t.form (circuit_of t.table)) (begun_by t.form t.table t.stamp) marks i (omega (arith, h, marked-long t.events t.tracks)), track) refl))

  pub listing-says : (answer_to s).number ≡ 0 → listing_of s ≡ said_on t
  unfolding said_on
  listing-says w = listing-lines s w ∙ lines-joined t ∙ rw (events_say, sections_say false, sections_say true) refl
