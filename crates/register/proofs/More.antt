-- One record more: what stands and what is known after it, from the records before it.
-- Assumes nothing.
use Prim.Native.Nat.{ℕ, suc, ◌*◌, ◌≤◌, ◌<◌}
use mathlib.Core.Path.{◌≡◌, refl, sym, ap, ◌∙◌}
use mathlib.Core.Bool.{true, false}
use mathlib.Core.List.{List, [], ◌∷◌, ◌++◌}
use native.Mathlib.Omega.{arith}
use lib.ListN.{length, length-append}
use Rattle.relay.proofs.Truth.{split}
use Rattle.register.specs.Lexer.{run, begin, part, spelled}
use Rattle.register.specs.Reading.{Read, stands, taken, standing, after}
use Rattle.register.specs.Records.{kind_records, event_records}
use Rattle.register.specs.Texts.{Field, lines}
use Rattle.register.proofs.Prefixes.{stood, fell, empty}
use Rattle.register.proofs.Spelled.{nothing-spelled, run-spelled}

abbrev Rec : Type 0
Rec = List (List ℕ)

pub after_more : (s : Read) (rs : List Rec) (r : Rec) → after s (rs ++ (r ∷ [])) ≡ taken (after s rs) r
unfolding after
after_more s [] r = refl
after_more s (x ∷ rs) r = after_more (taken s x) rs r

-- where all stand, one more that stands
pub standing_more : (s : Read) (rs : List Rec) (r : Rec) → standing s rs ≡ length rs → stands (after s rs) r ≡ true → standing s (rs ++ (r ∷ [])) ≡ length (rs ++ (r ∷ []))
unfolding after
standing_more s [] r h e = omega (arith, stood s r [] e, empty (taken s r))
standing_more s (x ∷ rs) r h e =
    split (stands s x)
    (λ q. stood s x (rs ++ (r ∷ [])) q ∙ ap suc (standing_more (taken s x) rs r (omega (arith, stood s x rs q)) e))
    (λ q. absurd (omega (arith, fell s x rs q)))

-- and one more that does not
pub standing-fell : (s : Read) (rs : List Rec) (r : Rec) → standing s rs ≡ length rs → stands (after s rs) r ≡ false → standing s (rs ++ (r ∷ [])) ≡ length rs
unfolding after
standing-fell s [] r h e = fell s r [] e
standing-fell s (x ∷ rs) r h e =
    split (stands s x)
    (λ q. stood s x (rs ++ (r ∷ [])) q ∙ ap suc (standing-fell (taken s x) rs r (omega (arith, stood s x rs q)) e))
    (λ q. absurd (omega (arith, fell s x rs q)))

-- past one that does not stand nothing stands
pub standing-over : (s : Read) (rs more : List Rec) → standing s rs < length rs → standing s (rs ++ more) ≡ standing s rs
standing-over s [] more h = absurd (omega (arith, empty s))
standing-over s (x ∷ rs) more h =
    split (stands s x)
    (λ q. stood s x (rs ++ more) q ∙ ap suc (standing-over (taken s x) rs more (omega (arith, stood s x rs q))) ∙ sym (stood s x rs q))
    (λ q. fell s x (rs ++ more) q ∙ sym (fell s x rs q))

-- ---- how many
pub kinds-many : (i : ℕ) (ks : List ℕ) → length (kind_records i ks) ≡ length ks
unfolding kind_records
kinds-many i [] = refl
kinds-many i (k ∷ ks) = ap suc (kinds-many (suc i) ks)

pub events-many : (i : ℕ) (es : List (List ℕ)) → length (event_records i es) ≡ length es
unfolding event_records
events-many i [] = refl
events-many i (e ∷ es) = ap suc (events-many (suc i) es)

lines_long : (rows : List (List Field)) → 2 * length rows ≤ length (lines rows)
unfolding lines
lines_long [] = omega arith
lines_long (r ∷ rows) = rw length-append (omega (arith, lines_long rows))

-- each record that is whole took two bytes at least
pub rows_few : (text : List ℕ) → 2 * length (run begin text).rows ≤ length text
unfolding spelled
rows_few text =
    let l = run begin text in
    let e : lines l.rows ++ part l.mode l.fields l.field ≡ text = run-spelled begin text refl ∙ ap (λ (x : List ℕ). x ++ text) nothing-spelled in
    omega (arith, lines_long l.rows, length-append (lines l.rows) (part l.mode l.fields l.field), ap (λ (x : List ℕ). length x) e)
