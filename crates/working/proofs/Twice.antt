-- What working a sheet leaves alone. 01, 'The event sheet': 'then writes the same sheet with answers filled and checks renewed, and changes nothing else'.
--     only_answers      working changes no number, post or stamp of an event, and not their order
--     same_length       and not the sheet's length
--     set_back_lem          a worked sheet with its answers set back to 31 is the sheet that was worked, byte for byte
--     twice             a sheet worked twice is refused 20 at block 1, if it has an event
-- Assumes nothing.
use Prim.Native.Nat.{ℕ, suc, ◌≤◌, ◌<◌}
use mathlib.Core.Path.{◌≡◌, refl, sym, ap, ◌∙◌}
use mathlib.Core.List.{List, [], ◌∷◌}
use native.Mathlib.Omega.{arith}
use borrow.Author.Tests.{eq-eqb, ne_eqb, lt-ltb}
use lib.ListN.{length, get_or, take}
use Rattle.relay.proofs.Frame.{answer_is, answer-small}
use Rattle.relay.specs.Line.{After}
use Rattle.sheet.proofs.Accepts.{accepted-good}
use Rattle.sheet.proofs.Bytes.{Below}
use Rattle.sheet.proofs.Rooms.{all_events, events-long}
use Rattle.sheet.proofs.Tabs.{get_d_tab}
use Rattle.sheet.proofs.TripRead.{decoded_writable}
use Rattle.sheet.proofs.TripWritten.{good_one}
use Rattle.sheet.proofs.Trips.{written-accepted, written_read, read-written}
use Rattle.sheet.proofs.Writable.{Writable}
use Rattle.sheet.specs.Entry.{number_of, post_of, answer_of, stamp_of}
use Rattle.sheet.specs.Layout.{unanswered, contents_wrong, one_track}
use Rattle.sheet.specs.Reading.{verdict, verdict_of, blocks_in, entries_in, entry_in, decode}
use Rattle.sheet.specs.Sheet.{encode}
use Rattle.working.proofs.Answers.{unanswered-before}
use Rattle.working.proofs.Along.{said_at}
use Rattle.working.proofs.Steps.{goes, answered-long}
use Rattle.working.proofs.Works.{fields_kept}
use Rattle.working.specs.Run.{begun, next, run, answered_by, answered}
use Rattle.working.specs.Working.{first_answered, blank, set_back, worked, work_verdict, work_verdict_up_to}

-- ---- events
pub only_answers : (a : After) (es : List (List ℕ)) → blank (answered a es) ≡ blank es
unfolding answered blank
only_answers a [] = refl
only_answers a (e ∷ es) = ap (λ (l : List (List ℕ)). answered_by e unanswered ∷ l) (only_answers (next a e) es)

-- each event is itself, with the answer that it gets from the line as the events before it left it
pub answered_at : (a : After) (es : List (List ℕ)) (i : ℕ) → i < length es
    → get_or (answered a es) i [] ≡ answered_by (get_or es i []) (next (run a (take i es)) (get_or es i [])).told.answer
answered_at = said_at goes

-- the first event of a worked sheet is answered
first_of : (a : After) (es : List (List ℕ)) → 1 ≤ length es → first_answered (answered a es) ≡ 0
unfolding answered first_answered
first_of a [] h = absurd (omega (arith, h))
first_of a (e ∷ es) h =
    let l = a.line in
    let s = a.told.head in
    rw (ne_eqb (next a e).told.answer unanswered (λ q. omega (arith, q, answer_is l s (number_of e) (post_of e) (stamp_of e), answer-small l s (number_of e) (post_of e) (stamp_of e))))

blank_same : (es : List (List ℕ)) → ((i : ℕ) → i < length es → answered_by (get_or es i []) unanswered ≡ get_or es i []) → blank es ≡ es
unfolding blank
blank_same [] f = refl
blank_same (e ∷ es) f = ap (λ (x : List ℕ). x ∷ blank es) (f 0 (omega arith)) ∙ ap (λ (l : List (List ℕ)). e ∷ l) (blank_same es (λ i l. f (suc i) (omega arith)))

-- ---- an accepted sheet
module _ (s : List ℕ) (small : Below 256 s) (z : (verdict_of s).number ≡ 0) where
  abbrev es : List (List ℕ)
  es = (decode s).events

  abbrev b : After
  b = begun (decode s).kinds (decode s).stamp

  said : (i : ℕ) → i < length es → get_or es i [] ≡ entry_in s i
  said i h = rw (all_events s) (get_d_tab (entry_in s) [] (entries_in s) i (rw (events-long s) at h))

  readable : Writable (decode s)
  readable = decoded_writable (blocks_in (length s)) s (accepted-good one_track s z) small

  -- the worked sheet can be written, so it reads back
  pub worked-writable : Writable (worked (decode s))
  worked-writable =
      let w = readable in
      record {
        table = w.table;
        fields = fields_kept b es w.fields;
        most = rw (answered-long b es) w.most;
        stamp = w.stamp;
        kinds = w.kinds;
        four = λ i h. rw (answered_at b es i (rw (answered-long b es) at h));
        stamps = λ i h. rw (answered_at b es i (rw (answered-long b es) at h)) (w.stamps i (rw (answered-long b es) at h));
      }

  pub same_length : length (encode (worked (decode s))) ≡ length s
  same_length = (good_one (worked (decode s)) worked-writable).long ∙ rw (answered-long b es) (sym (good_one (decode s) readable).long ∙ ap (λ (l : List ℕ). length l) (read-written s small z))

  pub set_back_lem : length es ≤ first_answered es → encode (set_back (worked (decode s))) ≡ s
  set_back_lem fresh =
      let same : blank es ≡ es =
      blank_same es (λ i h.
      let q : answer_of (entry_in s i) ≡ unanswered = rw (said i h) at (unanswered-before es i (omega arith) h) in
      rw (said i h, q)) in
      rw (only_answers b es, same) (read-written s small z)

  pub twice : 1 ≤ length es → (m : ℕ) → work_verdict (encode (worked (decode s))) m ≡ verdict contents_wrong 1
  unfolding work_verdict_up_to
  twice h m =
      let t = worked (decode s) in
      let w = worked-writable in
      rw (eq-eqb (verdict_of (encode t)).number 0 (written-accepted t w), written_read t w, first_of b es h, answered-long b es, lt-ltb 0 (length es) h)
