-- Each statement of a public call has one outcome: any two that satisfy it are equal, in numbers, as a panel is given them, and as results. And what a refusal leaves.
-- Assumes nothing.
use Prim.Native.Nat.{ℕ}
use mathlib.Core.Bool.{false}
use mathlib.Core.Path.{◌≡◌, refl, sym, ap, ◌∙◌}
use mathlib.Core.List.{List}
use lib.Dec.{eqb}
use lib.ListN.{length}
use Rattle.relay.proofs.Truth.{split}
use Rattle.std.specs.Prelude.{Result, Ok, Err, IfOk}
use Rattle.sheet.specs.Layout.{two_tracks}
use Rattle.sheet.specs.Reading.{verdict_at}
use Rattle.sheet.specs.Refusals.{verdict_code}
use Rattle.sheet.specs.declared.refusal.Refusal.{Refusal}
use Rattle.sheet.proofs.Refusals.{outcome_one}
use Rattle.working.specs.Working.{worked_of, worked_tracks_of, work_verdict, work_of, worked_bytes, Works, work_verdict_up_to, work_tracks_of, worked_tracks_bytes, WorksTracks}
use Rattle.working.specs.declared.Session.{Session}
use Rattle.working.specs.declared.Worked.{Worked}
use Rattle.working.specs.declared.WorkedTracks.{WorkedTracks}

pub works_one : (s out : List ℕ) (r r' : Worked) (end end' : List ℕ) → Works s r out end → Works s r' out end' → (r ≡ r') × (end ≡ end')
works_one s out r r' end end' a b = (a.0 ∙ sym b.0, a.1 ∙ sym b.1)

-- 00, demand 1: 'A refused sheet or write leaves the lent output unaltered.'
pub refused_work : (s out : List ℕ) (r : Worked) (end : List ℕ) → Works s r out end → (r.number ≡ 0 → ⊥) → end ≡ out
unfolding work_of worked_bytes
refused_work s out r end w n =
    let no : eqb (work_verdict s (length out)).number 0 ≡ false =
    split (eqb (work_verdict s (length out)).number 0)
    (λ e. absurd (n (ap (λ (x : Worked). x.number) w.0 ∙ rw e)))
    (λ e. e) in
    w.1 ∙ rw no

-- ---- the same of a sheet of either form
pub works_tracks_one : (s out : List ℕ) (r r' : WorkedTracks) (end end' : List ℕ) → WorksTracks s r out end → WorksTracks s r' out end' → (r ≡ r') × (end ≡ end')
works_tracks_one s out r r' end end' a b = (a.0 ∙ sym b.0, a.1 ∙ sym b.1)

pub refused_work_tracks : (s out : List ℕ) (r : WorkedTracks) (end : List ℕ) → WorksTracks s r out end → (r.number ≡ 0 → ⊥) → end ≡ out
unfolding work_tracks_of worked_tracks_bytes
refused_work_tracks s out r end w n =
    let no : eqb (work_verdict_up_to two_tracks s (length out)).number 0 ≡ false =
    split (eqb (work_verdict_up_to two_tracks s (length out)).number 0)
    (λ e. absurd (n (ap (λ (x : WorkedTracks). x.number) w.0 ∙ rw e)))
    (λ e. e) in
    w.1 ∙ rw no

-- ---- as results: the numbers of a refusal, and the session that it ends with
worked_verdict : (r : Result Session Refusal) → (λ (w : Worked). verdict_at w.number w.block w.position) (worked_of r) ≡ verdict_code r
worked_verdict (Ok _) = refl
worked_verdict (Err _) = refl

pub worked_one : (end : Session) (r r' : Result Session Refusal) → IfOk r (λ z. z ≡ end) → IfOk r' (λ z. z ≡ end) → worked_of r ≡ worked_of r' → r ≡ r'
worked_one end r r' h h' e =
    outcome_one end r r' h h' (sym (worked_verdict r) ∙ ap (λ (w : Worked). verdict_at w.number w.block w.position) e ∙ worked_verdict r')

tracks_verdict : (r : Result Session Refusal) → (λ (w : WorkedTracks). verdict_at w.number w.block w.position) (worked_tracks_of r) ≡ verdict_code r
tracks_verdict (Ok _) = refl
tracks_verdict (Err _) = refl

pub worked_tracks_one : (end : Session) (r r' : Result Session Refusal) → IfOk r (λ z. z ≡ end) → IfOk r' (λ z. z ≡ end) → worked_tracks_of r ≡ worked_tracks_of r' → r ≡ r'
worked_tracks_one end r r' h h' e =
    outcome_one end r r' h h' (sym (tracks_verdict r) ∙ ap (λ (w : WorkedTracks). verdict_at w.number w.block w.position) e ∙ tracks_verdict r')
