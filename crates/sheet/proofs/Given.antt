-- The numbers of writing and of reading into lent room, given exactly when: writing's as the paper's table gives them, row by row; reading's as First's, then 21.
-- Assumes nothing.
use Prim.Native.Nat.{ℕ, ◌+◌, ◌*◌, ◌/◌, ◌≤◌, ◌<◌}
use mathlib.Core.Path.{◌≡◌, refl, subst}
use mathlib.Core.Logic.{◌↔◌, ◌⊎◌, inl, inr}
use mathlib.Core.Bool.{true, false, not, ◌&&◌, and-false}
use mathlib.Core.List.{List, [], ◌∷◌}
use native.Mathlib.Omega.{arith}
use borrow.Author.Tests.{eq-eqb, ne_eqb, eqb-true, eqb-false, lt-ltb, le-ltb, lt-leb, le-leb, leb-false}
use lib.Dec.{leb, ltb}
use lib.ListN.{length, get_or, take, drop}
use Rattle.relay.specs.Given.{given_by}
use Rattle.relay.proofs.Given.{table-wrong, not_both}
use Rattle.relay.proofs.GivenForms.{first, absent, once, first_given}
use Rattle.relay.proofs.Truth.{facts, split, least_or_below, equal_or_not}
use Rattle.sheet.specs.Entry.{in_fields}
use Rattle.sheet.specs.Given.{out_of_field, write_reasons, two_wrong, start_wrong, one_from, out_of_track, tracked_reasons}
use Rattle.sheet.specs.Layout.{one_track, room_short}
use Rattle.sheet.specs.Reading.{form_ok, tables_ok, table_fits, verdict_at, verdict, verdict_of, accepted, decode, room_for, read_of}
use Rattle.sheet.specs.Sheet.{Sheet, Tracked}
use Rattle.sheet.specs.Writing.{all_in_fields, all_below, tracks_fit, bytes_for, size_number, tracked_number, write_number}
use Rattle.sheet.specs.declared.Verdict.{Verdict}
use Rattle.sheet.proofs.First.{NamedSheet, verdict_iff}

-- 'at most' and 'below' are each other's opposite
not_leb : (m n : ℕ) → not (leb m n) ≡ ltb n m
not_leb m n = least_or_below m n (λ h. rw (le-leb m n h, le-ltb n m h)) (λ h. rw (lt-leb m n h, lt-ltb n m h))

not_ltb : (m n : ℕ) → not (ltb m n) ≡ leb n m
not_ltb m n = least_or_below n m (λ h. rw (le-ltb m n h, le-leb n m h)) (λ h. rw (lt-ltb m n h, lt-leb n m h))

-- an event is out of its field
fields : (es : List (List ℕ)) → not (all_in_fields es) ≡ out_of_field es
unfolding all_in_fields out_of_field in_fields
fields [] = refl
fields (e ∷ es) = rw (← fields es) (simp (not_both, not_ltb))

-- the number is the first of the table whose reason holds
write_first : (t : Sheet) (m : ℕ) → write_number t m ≡ first (write_reasons t m)
unfolding write_number first write_reasons
write_first t m =
    let size : bytes_for (length t.events) ≡ 512 + (length t.events + 59) / 60 * 512 = omega arith in
    rw (← table-wrong t.kinds, ← fields t.events) (simp (not_leb, size))

-- 1, 20, 18, 21 and 0 'given exactly when'
pub write_given : (t : Sheet) (m k : ℕ) → (write_number t m ≡ k) ↔ (given_by (write_reasons t m) k ≡ true)
unfolding write_reasons once absent
write_given t m k = first_given k (write_reasons t m) refl (write_first t m)

-- ---- the same of a sheet of either form
-- two tables and their circuit
two_wrong_lem : (ks : List ℕ) → not (tables_ok ks) ≡ two_wrong ks
unfolding tables_ok two_wrong
two_wrong_lem ks =
    rw (← table-wrong (take (length ks / 2) ks), ← table-wrong (take (length ks / 2) (drop (length ks / 2) ks)), ← not_leb (get_or ks (length ks / 2 * 2) 0) 1)
    (simp not_both)

start_wrong_lem : (form : ℕ) (ks : List ℕ) → not (form_ok 2 form && table_fits form ks) ≡ start_wrong form ks
unfolding form_ok table_fits start_wrong
start_wrong_lem form ks =
    equal_or_not form 1
    (λ e. rw e (table-wrong ks))
    (λ n.
    equal_or_not form 2
    (λ e. rw e (two_wrong_lem ks))
    (λ m.
    let none : (leb 1 form && leb form 2) ≡ false =
    least_or_below form 2
    (λ h. let z : form ≡ 0 = omega arith in rw z refl)
    (λ h. rw (lt-leb form 2 h) (and-false (leb 1 form))) in
    rw (none, ne_eqb form 1 n, ne_eqb form 2 m) refl))

-- the tracks
one_from_lem : (m : ℕ) (xs : List ℕ) → not (all_below m xs) ≡ one_from m xs
unfolding all_below one_from
one_from_lem m [] = refl
one_from_lem m (x ∷ xs) = rw (← one_from_lem m xs) (simp (not_both, not_ltb))

out_of_track_lem : (form n : ℕ) (ts : List ℕ) → not (tracks_fit form n ts) ≡ out_of_track form n ts
unfolding tracks_fit out_of_track
out_of_track_lem form n ts = rw (← one_from_lem form ts) (simp not_both)

tracked_first : (t : Tracked) (m : ℕ) → tracked_number t m ≡ first (tracked_reasons t m)
unfolding tracked_number size_number first tracked_reasons
tracked_first t m =
    let size : bytes_for (length t.events) ≡ 512 + (length t.events + 59) / 60 * 512 = omega arith in
    rw (← start_wrong_lem t.form t.table, ← fields t.events, ← out_of_track_lem t.form (length t.events) t.tracks) (simp (not_both, not_leb, size))

-- 1, 20, 18, 21 and 0 'given exactly when'
pub tracked_given : (t : Tracked) (m k : ℕ) → (tracked_number t m ≡ k) ↔ (given_by (tracked_reasons t m) k ≡ true)
unfolding tracked_reasons once absent
tracked_given t m k = first_given k (tracked_reasons t m) refl (tracked_first t m)

-- ---- reading into room for m kinds and n events
-- what a verdict may be
pub data NamedRead (s : List ℕ) (m n : ℕ) : Verdict → Type 0 where
  -- 18, 19, 20 and 24
  unread : {v : Verdict} → (v.number ≡ 0 → ⊥) → NamedSheet one_track s v → NamedRead s m n v
  -- 'room too short for them gives 21, last'
  short : (verdict_of s).number ≡ 0 → (m < length (decode s).kinds) ⊎ (n < length (decode s).events) → NamedRead s m n (verdict room_short 0)
  fits : (verdict_of s).number ≡ 0 → length (decode s).kinds ≤ m → length (decode s).events ≤ n → NamedRead s m n (verdict 0 0)

-- the number, block and position that reading returns
abbrev pub read_verdict : List ℕ → ℕ → ℕ → Verdict
read_verdict s m n = verdict_at (read_of s m n).number (read_of s m n).block (read_of s m n).position

-- the room by its two tests
room-short : (t : Sheet) (m n : ℕ) → room_for t m n ≡ false → (m < length t.kinds) ⊎ (n < length t.events)
unfolding room_for
room-short t m n e =
    split (leb (length t.kinds) m)
    (λ a. inr (leb-false _ _ (rw a at e)))
    (λ a. inl (leb-false _ _ a))

short-room : (t : Sheet) (m n : ℕ) → (m < length t.kinds) ⊎ (n < length t.events) → room_for t m n ≡ false
unfolding room_for
short-room t m n (inl h) = rw (lt-leb (length t.kinds) m h)
short-room t m n (inr h) = rw (lt-leb (length t.events) n h) (and-false (leb (length t.kinds) m))

read_named : (s : List ℕ) (m n : ℕ) → NamedRead s m n (read_verdict s m n)
unfolding read_of room_for
read_named s m n =
    split (accepted s)
    (λ a.
    let z = eqb-true (verdict_of s).number 0 a in
    split (room_for (decode s) m n)
    (λ b. let r = simp facts at b in rw (a, b) (fits z r.0 r.1))
    (λ b. rw (a, b) (short z (room-short (decode s) m n b))))
    (λ a. rw a (unread (eqb-false (verdict_of s).number 0 a) ((verdict_iff one_track s (verdict_of s)).0 refl)))

names-read : (s : List ℕ) (m n : ℕ) (v : Verdict) → NamedRead s m n v → read_verdict s m n ≡ v
unfolding read_of room_for
names-read s m n v (unread h b) = let e = (verdict_iff one_track s v).1 b in rw (e, ne_eqb v.number 0 h)
names-read s m n v (short z h) = rw (eq-eqb (verdict_of s).number 0 z, short-room (decode s) m n h)
names-read s m n v (fits z h k) = rw (eq-eqb (verdict_of s).number 0 z, le-leb (length (decode s).kinds) m h, le-leb (length (decode s).events) n k)

-- 18 to 21, 24 and 0 'given exactly when', with the block and the event's position
pub read_iff : (s : List ℕ) (m n : ℕ) (v : Verdict) → (read_verdict s m n ≡ v) ↔ NamedRead s m n v
read_iff s m n v = (λ e. subst (NamedRead s m n) e (read_named s m n), names-read s m n v)
