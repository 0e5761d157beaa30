-- Any two outcomes that satisfy the statement of a public call are equal: in numbers, as a panel is given them, and as results.
-- Assumes nothing.
use Prim.Native.Nat.{ℕ}
use mathlib.Core.Path.{◌≡◌, refl, sym, ap, subst, ◌∙◌}
use mathlib.Core.Bool.{Bool}
use mathlib.Core.List.{List}
use Rattle.std.specs.Prelude.{Result, Ok, Err, IfOk}
use Rattle.sheet.specs.Check.{checks_alone}
use Rattle.sheet.specs.Sheet.{Sheet, Tracked}
use Rattle.sheet.specs.Reading.{verdict, verdict_at, verdict_up_to, verdict_of, decode, decode_tracked, handed, handed_by, Reads, ReadsTracks}
use Rattle.sheet.specs.Writing.{leaves, Writes, WritesTracked}
use Rattle.sheet.specs.Layout.{two_tracks}
use Rattle.sheet.specs.Refusals.{verdict_code, refusal_code, header_in, found_of, found_tracks_of}
use Rattle.sheet.specs.declared.Header.{Header}
use Rattle.sheet.specs.declared.refusal.Refusal.{Refusal}
use Rattle.sheet.specs.declared.Found.{Found}
use Rattle.sheet.specs.declared.FoundTracks.{FoundTracks}
use Rattle.sheet.specs.declared.Verdict.{Verdict}
use Rattle.sheet.proofs.Refusals.{outcome_one}

-- `check`
pub check_one : (t : List ℕ) (b : ℕ) (r r' : Bool) → r ≡ checks_alone t b → r' ≡ checks_alone t b → r ≡ r'
check_one t b r r' p q = p ∙ sym q

-- `test`
pub test_one : (s : List ℕ) (r r' : Verdict) → r ≡ verdict_of s → r' ≡ verdict_of s → r ≡ r'
test_one s r r' p q = p ∙ sym q

-- `read`: what is returned, the room for kinds and the room for events
pub read_one : (s : List ℕ) (r r' : Found) (ks a a' : List ℕ) (es b b' : List (List ℕ)) → Reads s r ks a es b → Reads s r' ks a' es b' → (r ≡ r') × (a ≡ a') × (b ≡ b')
read_one s r r' ks a a' es b b' p q =
    let e : r ≡ r' = p.0 ∙ sym q.0 in
    (e, p.1 ∙ ap (λ (x : Found). handed x (decode s).kinds ks) e ∙ sym q.1, p.2 ∙ ap (λ (x : Found). handed x (decode s).events es) e ∙ sym q.2)

-- `write`: the number and the output
pub write_one : (t : Sheet) (r r' : ℕ) (out a a' : List ℕ) → Writes t r out a → Writes t r' out a' → (r ≡ r') × (a ≡ a')
write_one t r r' out a a' p q = (p.0 ∙ sym q.0, p.1 ∙ sym q.1)

-- `test_tracks`
pub test_tracks_one : (s : List ℕ) (r r' : Verdict) → r ≡ verdict_up_to two_tracks s → r' ≡ verdict_up_to two_tracks s → r ≡ r'
test_tracks_one s r r' p q = p ∙ sym q

-- `read_tracks`: what is returned, and the rooms for the table, the events and their tracks
pub read-tracks_one : (s : List ℕ) (r r' : FoundTracks) (ks a a' : List ℕ) (es b b' : List (List ℕ)) (ts d d' : List ℕ)
    → ReadsTracks s r ks a es b ts d → ReadsTracks s r' ks a' es b' ts d' → (r ≡ r') × (a ≡ a') × (b ≡ b') × (d ≡ d')
read-tracks_one s r r' ks a a' es b b' ts d d' p q =
    let e : r ≡ r' = p.0 ∙ sym q.0 in (
      e,
      p.1 ∙ ap (λ (x : FoundTracks). handed_by x.number (decode_tracked s).table ks) e ∙ sym q.1,
      p.2 ∙ ap (λ (x : FoundTracks). handed_by x.number (decode_tracked s).events es) e ∙ sym q.2,
      p.3 ∙ ap (λ (x : FoundTracks). handed_by x.number (decode_tracked s).tracks ts) e ∙ sym q.3,
    )

-- `write_tracks`: the number and the output
pub write_tracks_one : (t : Tracked) (r r' : ℕ) (out a a' : List ℕ) → WritesTracked t r out a → WritesTracked t r' out a' → (r ≡ r') × (a ≡ a')
write_tracks_one t r r' out a a' p q =
    let e : r ≡ r' = p.0 ∙ sym q.0 in (e, p.1 ∙ ap (λ (n : ℕ). leaves t n out) e ∙ sym q.1)

-- ---- as results
-- an outcome with nothing in it
done : {E : Type 0} (r : Result Unit E) → IfOk r (λ y. y ≡ record {})
done (Ok _) = refl
done (Err _) = record {}

-- `test`, `test_tracks`: v is what reading says
pub tested_one : (v : Verdict) (r r' : Result Unit Refusal) → verdict_code r ≡ v → verdict_code r' ≡ v → r ≡ r'
tested_one v r r' p q = outcome_one (record {}) r r' (done r) (done r') (p ∙ sym q)

-- `write`, `write_tracks`: the number, and that a refusal names no block
pub written_one : (n : ℕ) (r r' : Result Unit Refusal) → refusal_code r ≡ n → verdict_code r ≡ verdict (refusal_code r) 0
    → refusal_code r' ≡ n → verdict_code r' ≡ verdict (refusal_code r') 0 → r ≡ r'
written_one n r r' p x q y =
    outcome_one (record {}) r r' (done r) (done r') (x ∙ ap (λ m. verdict m 0) (p ∙ sym q) ∙ sym y)

-- `read`: what was found, and what a good sheet's header is
found_verdict : (r : Result Header Refusal) → (λ (f : Found). verdict_at f.number f.block f.position) (found_of r) ≡ verdict_code r
found_verdict (Ok _) = refl
found_verdict (Err _) = refl

pub found_one : (s : List ℕ) (r r' : Result Header Refusal) → IfOk r (λ h. h ≡ header_in s) → IfOk r' (λ h. h ≡ header_in s) → found_of r ≡ found_of r' → r ≡ r'
found_one s r r' h h' e =
    outcome_one (header_in s) r r' h h' (sym (found_verdict r) ∙ ap (λ (f : Found). verdict_at f.number f.block f.position) e ∙ found_verdict r')

-- `read_tracks`: what was found has all of a header
abbrev header_found : FoundTracks → Header
header_found f = record { tracks = f.tracks; posts = f.posts; stamp = f.stamp; events = f.events }

tracks_verdict : (r : Result Header Refusal) → (λ (f : FoundTracks). verdict_at f.number f.block f.position) (found_tracks_of r) ≡ verdict_code r
tracks_verdict (Ok _) = refl
tracks_verdict (Err _) = refl

tracks_header : (r : Result Header Refusal) → IfOk r (λ h. h ≡ header_found (found_tracks_of r))
tracks_header (Ok _) = refl
tracks_header (Err _) = record {}

pub found_tracks_one : (r r' : Result Header Refusal) → found_tracks_of r ≡ found_tracks_of r' → r ≡ r'
found_tracks_one r r' e =
    outcome_one (header_found (found_tracks_of r)) r r' (tracks_header r) (subst (λ (f : FoundTracks). IfOk r' (λ h. h ≡ header_found f)) (sym e) (tracks_header r'))
    (sym (tracks_verdict r) ∙ ap (λ (f : FoundTracks). verdict_at f.number f.block f.position) e ∙ tracks_verdict r')
