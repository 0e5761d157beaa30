-- Export where sheets of one track and of two are read, by its outcomes: refused as reading refuses; 20 for a good sheet of two tracks, whatever the output; else what export makes of a sheet of one track. Of any sheet one outcome, and on a refusal nothing is written.
-- Assumes nothing.
use Prim.Native.Nat.{ℕ, ◌≤◌}
use mathlib.Core.Path.{◌≡◌, refl, sym, ◌∙◌}
use mathlib.Core.Bool.{not}
use mathlib.Core.List.{List}
use native.Mathlib.Omega.{arith}
use borrow.Author.Tests.{eq-eqb, ne_eqb}
use lib.Dec.{eqb}
use lib.ListN.{length}
use Rattle.relay.proofs.Truth.{by}
use Rattle.sheet.specs.Layout.{two_tracks, contents_wrong}
use Rattle.sheet.specs.Reading.{form_in, verdict, verdict_up_to}
use Rattle.exporting.specs.Exporting.{refused, export_of, export_into, Exports, export_tracks_of, export_tracks_into, ExportsTracks}
use Rattle.exporting.specs.declared.Exported.{Exported}
use Rattle.exporting.proofs.Outcomes.{export_within}

pub export_tracks_one : (s : List ℕ) (r r' : Exported) (out end end' : List ℕ) → ExportsTracks s r out end → ExportsTracks s r' out end' → (r ≡ r') × (end ≡ end')
export_tracks_one s r r' out end end' a b = (a.0 ∙ sym b.0, a.1 ∙ sym b.1)

module _ (s out : List ℕ) where
  -- ---- the outcomes
  pub tracks-unread : ((verdict_up_to two_tracks s).number ≡ 0 → ⊥) → ExportsTracks s (refused (verdict_up_to two_tracks s)) out out
  unfolding export_tracks_of export_tracks_into
  tracks-unread n = let h = ne_eqb (verdict_up_to two_tracks s).number 0 n in (rw h refl, rw (h, h) refl)

  module _ (z : (verdict_up_to two_tracks s).number ≡ 0) where
    pub tracks_two : form_in s ≡ two_tracks → ExportsTracks s (refused (verdict contents_wrong 0)) out out
    unfolding export_tracks_of export_tracks_into
    tracks_two e = let h = eq-eqb (verdict_up_to two_tracks s).number 0 z in (rw (h, eq-eqb (form_in s) two_tracks e) refl, rw (h, eq-eqb (form_in s) two_tracks e) refl)

    pub tracks_one : (r : Exported) (out' : List ℕ) → (form_in s ≡ two_tracks → ⊥) → Exports s r out out' → ExportsTracks s r out out'
    unfolding export_tracks_of export_tracks_into export_into
    tracks_one r out' n e =
        let h = eq-eqb (verdict_up_to two_tracks s).number 0 z in
        let k = ne_eqb (form_in s) two_tracks n in
        (rw (h, k) e.0, rw (h, k) e.1)

  -- ---- what it states of a sheet
  module _ (r : Exported) (out' : List ℕ) (e : ExportsTracks s r out out') where
    -- 'export as for reading': a sheet of either form that reading refuses is refused so, one of two tracks too
    pub reading_first : ((verdict_up_to two_tracks s).number ≡ 0 → ⊥) → (r ≡ refused (verdict_up_to two_tracks s)) × (out' ≡ out)
    reading_first n = export_tracks_one s r _ out out' out e (tracks-unread n)

    -- 02, item 7: 'Item 3's export refuses it (20, block 0)', a good sheet of two tracks, and leaves the output, were it too short or not
    pub two_refused : (verdict_up_to two_tracks s).number ≡ 0 → form_in s ≡ two_tracks → (r ≡ refused (verdict contents_wrong 0)) × (out' ≡ out)
    two_refused z f = export_tracks_one s r _ out out' out e (tracks_two z f)

-- no more is written than there is room for
pub tracks-within : (s : List ℕ) (r : Exported) (out out' : List ℕ) → ExportsTracks s r out out' → r.bytes ≤ length out
unfolding export_tracks_of
tracks-within s r out out' x =
    rw x.0 (by (λ (y : Exported). y.bytes ≤ length out) (not (eqb (verdict_up_to two_tracks s).number 0)) (λ e. omega arith)
    (λ e. by (λ (y : Exported). y.bytes ≤ length out) (eqb (form_in s) two_tracks) (λ h. omega arith) (λ h. export_within s (export_of s (length out)) out (export_into s out) (refl, refl))))
