-- The sheet behind a listing: the listing by what becomes of the sheet, and how long its lines of posts are at the end.
-- Assumes nothing.
use Prim.Native.Nat.{ℕ, ◌+◌, ◌/◌, ◌≤◌, ◌<◌}
use mathlib.Core.Path.{◌≡◌, refl, sym}
use mathlib.Core.Bool.{false}
use mathlib.Core.List.{List}
use native.Mathlib.Omega.{arith}
use borrow.Author.Tests.{eq-eqb, ne_eqb, le-leb, lt-ltb, le-ltb}
use lib.Dec.{eqb}
use lib.ListN.{length}
use Rattle.relay.proofs.Truth.{and_facts}
use Rattle.relay.specs.declared.Post.{Post}
use Rattle.row.proofs.Held.{held-line}
use Rattle.row.specs.Row.{row_of, line_of}
use Rattle.row.specs.declared.Row.{Row}
use Rattle.sheet.specs.Layout.{per_block, two_tracks, contents_wrong}
use Rattle.sheet.proofs.Refusals.{refuses}
use Rattle.sheet.specs.Refusals.{verdict_of_refusal}
use Rattle.sheet.specs.declared.refusal.Refusal.{Refusal}
use Rattle.sheet.specs.Reading.{form_ok, table_fits, verdict, verdict_up_to, decode, decode_tracked}
use Rattle.sheet.specs.Sheet.{Tracked, circuit_of}
use Rattle.working.proofs.Both.{now-few}
use Rattle.working.proofs.WorksTracks.{said_start}
use Rattle.working.specs.Run.{marked}
use Rattle.working.specs.Working.{first_answered, end_of, worked_tracked, work_verdict_up_to}
use Rattle.digits.specs.Texts.{Put}
use Rattle.listing.specs.Lines.{track_named, refused_line, Lined}
use Rattle.listing.specs.Listing.{event_lines, section_lines, lines_of, answer_to, listing_of}

-- ---- lines that were put, as those of a sheet
pub events_put : (t : Tracked) (form : ℕ) (es : List (List ℕ)) (ts : List ℕ) (r : ℕ) (page page' : List ℕ) → form ≡ t.form → es ≡ (worked_tracked t).events → ts ≡ t.tracks
    → Lined (event_lines form 1 (marked es ts)) r page page' → Put (event_lines t.form 1 (marked (worked_tracked t).events t.tracks)) 0 r page page'
events_put t form es ts r page page' a b c h = let l = rw (a, b, c) at h in (omega (arith, l.0), l.1)

pub sections_put : (form form' track : ℕ) (row : Row) (l : List Post) (k r : ℕ) (page page' : List ℕ) → form ≡ form' → line_of row ≡ l
    → Put (section_lines (track_named form track) 0 (line_of row)) k r page page' → Put (section_lines (track_named form' track) 0 l) k r page page'
sections_put form form' track row l k r page page' a b h = rw (a, b) at h

module _ (s : List ℕ) where
  abbrev t : Tracked
  t = decode_tracked s

  -- ---- the answer to it: refused as reading refuses
  pub answer-unread : eqb (verdict_up_to two_tracks s).number 0 ≡ false → answer_to s ≡ verdict_up_to two_tracks s
  unfolding work_verdict_up_to
  answer-unread h = rw h refl

  module _ (z : (verdict_up_to two_tracks s).number ≡ 0) where
    -- the events are the same in either form
    same : (decode s).events ≡ t.events
    unfolding decode decode_tracked
    same = refl

    -- refused for an answer
    pub answer-answered : first_answered t.events < length t.events → answer_to s ≡ verdict contents_wrong (1 + first_answered t.events / per_block)
    unfolding work_verdict_up_to
    answer-answered h = rw (same, eq-eqb (verdict_up_to two_tracks s).number 0 z, lt-ltb _ _ h) refl

    -- worked
    pub answer-worked : length t.events ≤ first_answered t.events → answer_to s ≡ verdict 0 0
    unfolding work_verdict_up_to
    answer-worked h = rw (same, eq-eqb (verdict_up_to two_tracks s).number 0 z, le-ltb _ _ h, le-leb (length s) (length s) (omega arith)) refl

    ends : (length (end_of t).first ≤ 32) × (length (end_of t).second ≤ 32)
    ends = now-few t.form t.table t.stamp ((and_facts (form_ok two_tracks t.form) (table_fits t.form t.table)).0 (said_start s z)).1 (circuit_of t.table) (marked t.events t.tracks)

    -- a row that holds one of its lines
    pub record Holds (r : Row) (l : List Post) : Type 0 where
      pub few : r.n ≤ 32
      pub line : line_of r ≡ l

    holds : (l : List Post) → length l ≤ 32 → (r : Row) → r ≡ row_of l → Holds r l
    unfolding row_of
    holds l f r e = record { few = rw e f; line = rw e (held-line l f) }

    pub holds_first : (r : Row) → r ≡ row_of (end_of t).first → Holds r (end_of t).first
    holds_first = holds (end_of t).first ends.0

    pub holds_second : (r : Row) → r ≡ row_of (end_of t).second → Holds r (end_of t).second
    holds_second = holds (end_of t).second ends.1

-- ---- the listing by that answer
module _ (s : List ℕ) where
  pub lines-listed : verdict 0 0 ≡ answer_to s → lines_of (decode_tracked s) ≡ listing_of s
  unfolding listing_of
  lines-listed e = rw (← e) refl

  pub listing-worked : (z : (verdict_up_to two_tracks s).number ≡ 0) → length (decode_tracked s).events ≤ first_answered (decode_tracked s).events
      → listing_of s ≡ lines_of (decode_tracked s)
  listing-worked z h = sym (lines-listed (sym (answer-worked s z h)))

  pub refusal-listed : (r : Refusal) → verdict_of_refusal r ≡ answer_to s
      → refused_line (verdict_of_refusal r).number (verdict_of_refusal r).block (verdict_of_refusal r).position ≡ listing_of s
  unfolding listing_of
  refusal-listed r e = rw (← e, ne_eqb (verdict_of_refusal r).number 0 (refuses r)) refl
