-- A worked sheet can be asked about: its answers are right; and a sheet has right answers exactly when working its events gives that sheet again, byte for byte. Of one track or of two.
-- Assumes nothing.
use Prim.Native.Nat.{ℕ, zero, suc, ◌≤◌, ◌<◌}
use mathlib.Core.Path.{◌≡◌, refl, sym, ap, subst, ◌∙◌}
use mathlib.Core.Logic.{◌↔◌}
use mathlib.Core.Bool.{true}
use mathlib.Core.List.{List, [], ◌∷◌}
use native.Mathlib.Omega.{arith}
use borrow.Author.Tests.{eq-eqb, eqb-true}
use lib.Dec.{eqb}
use lib.ListN.{length, get_or, drop}
use Rattle.relay.proofs.Truth.{and_facts, split}
use Rattle.sheet.proofs.Accepts.{accepted-good}
use Rattle.sheet.proofs.Bytes.{Below}
use Rattle.sheet.proofs.TripRead.{decoded_tracked}
use Rattle.sheet.proofs.TripWritten.{same_sheet}
use Rattle.sheet.proofs.Trips.{tracked_accepted, tracked_read, tracked_written}
use Rattle.sheet.proofs.Writable.{WritableTracked}
use Rattle.sheet.specs.Entry.{answer_of, stamp_of, in_fields}
use Rattle.sheet.specs.Layout.{two_tracks}
use Rattle.sheet.specs.Reading.{blocks_in, verdict_up_to, decode_tracked}
use Rattle.sheet.specs.Sheet.{Tracked, circuit_of, encode_tracked}
use Rattle.sheet.specs.Writing.{all_in_fields}
use Rattle.tracks.specs.Circuit.{AfterTwo}
use Rattle.working.proofs.Along.{said-long}
use Rattle.working.proofs.Both.{marked-long}
use Rattle.working.proofs.Steps.{goes_by}
use Rattle.working.proofs.WorksTracks.{fields_kept}
use Rattle.working.specs.Run.{marked, next_by, answered_by, answers_by}
use Rattle.working.specs.Working.{worked_tracked}
use Rattle.why.specs.Why.{no_such_refusal, begun_of, right_answers, as_worked, asked, since_when, since_up_to}
use Rattle.why.specs.declared.Since.{Since}
use Rattle.why.proofs.Asked.{since_in_lem, since_not_asked}
use Rattle.sheet.proofs.Forms.{form-most}

-- ---- events, each with its track
module _ (form c : ℕ) where
  answered-right : (a : AfterTwo) (es : List (List ℕ)) (ts : List ℕ) → right_answers form c a (marked (answers_by form c a (marked es ts)) ts) ≡ true
  unfolding right_answers answers_by marked next_by
  answered-right a [] ts = refl
  answered-right a (e ∷ es) ts =
      let x : List ℕ = get_or (marked (e ∷ es) ts) 0 [] in
      let n : AfterTwo = next_by form c a x in
      rw (eq-eqb n.told.answer n.told.answer refl) (answered-right n es (drop 1 ts))

  -- events with their right answers stay as they are
  right_same : (a : AfterTwo) (es : List (List ℕ)) (ts : List ℕ) → ((i : ℕ) → i < length es → answered_by (get_or es i []) (answer_of (get_or es i [])) ≡ get_or es i [])
      → right_answers form c a (marked es ts) ≡ true
      → answers_by form c a (marked es ts) ≡ es
  unfolding right_answers answers_by marked
  right_same a [] ts f r = refl
  right_same a (e ∷ es) ts f r =
      let x : List ℕ = get_or (marked (e ∷ es) ts) 0 [] in
      let n : AfterTwo = next_by form c a x in
      let g = (and_facts (eqb (answer_of e) n.told.answer) (right_answers form c n (marked es (drop 1 ts)))).0 r in
      let kept : answered_by e n.told.answer ≡ e =
      ap (answered_by e) (sym (eqb-true (answer_of e) n.told.answer g.0)) ∙ f 0 (omega arith) in
      ap (λ (y : List ℕ). y ∷ answers_by form c n (marked es (drop 1 ts))) kept
      ∙ ap (λ (l : List (List ℕ)). e ∷ l) (right_same n es (drop 1 ts) (λ i h. f (suc i) (omega arith)) g.1)

  -- each event is itself with an answer
  stamps_kept : (a : AfterTwo) (es : List (List ℕ)) (ts : List ℕ) (i : ℕ) → i < length es
      → (length (get_or (answers_by form c a (marked es ts)) i []) ≡ 4) × (stamp_of (get_or (answers_by form c a (marked es ts)) i []) ≡ stamp_of (get_or es i []))
  unfolding answers_by marked
  stamps_kept a [] ts i h = absurd (omega (arith, h))
  stamps_kept a (e ∷ es) ts zero h = (refl, refl)
  stamps_kept a (e ∷ es) ts (suc i) h = stamps_kept (next_by form c a (get_or (marked (e ∷ es) ts) 0 [])) es (drop 1 ts) i (omega arith)

-- an event of four numbers is itself with its own answer
four_same : (e : List ℕ) → length e ≡ 4 → answered_by e (answer_of e) ≡ e
four_same [] h = absurd (omega (arith, h))
four_same (n ∷ []) h = absurd (omega (arith, h))
four_same (n ∷ p ∷ []) h = absurd (omega (arith, h))
four_same (n ∷ p ∷ a ∷ []) h = absurd (omega (arith, h))
four_same (n ∷ p ∷ a ∷ t ∷ []) h = refl
four_same (n ∷ p ∷ a ∷ t ∷ x ∷ xs) h = absurd (omega (arith, h))

marked-fields : (es : List (List ℕ)) (ts : List ℕ) → all_in_fields es ≡ true → all_in_fields (marked es ts) ≡ true
unfolding all_in_fields marked in_fields
marked-fields [] ts h = refl
marked-fields (e ∷ es) ts h =
    let f = (and_facts (in_fields e) (all_in_fields es)).0 h in
    rw f.0 (marked-fields es (drop 1 ts) f.1)

-- ---- an accepted sheet, where sheets of so many tracks are taken
module _ (most : ℕ) (fits : most ≤ two_tracks) (s : List ℕ) (small : Below 256 s) (z : (verdict_up_to most s).number ≡ 0) where
  abbrev t : Tracked
  t = decode_tracked s

  abbrev c : ℕ
  c = circuit_of t.table

  readable : WritableTracked t
  readable = decoded_tracked most (blocks_in (length s)) s (accepted-good most s z) fits small

  -- as many events as before
  long : length (worked_tracked t).events ≡ length t.events
  long = said-long (goes_by t.form c) _ (marked t.events t.tracks) ∙ marked-long t.events t.tracks

  -- the worked sheet can be written, so it reads back
  pub worked-writable : WritableTracked (worked_tracked t)
  worked-writable =
      let w = readable in
      record {
        form = w.form;
        table = w.table;
        fields = fields_kept t.form c (begun_of t) (marked t.events t.tracks) (marked-fields t.events t.tracks w.fields);
        tracks = rw long w.tracks;
        most = rw long w.most;
        stamp = w.stamp;
        words = w.words;
        four = λ i h. (stamps_kept t.form c (begun_of t) t.events t.tracks i (omega (arith, h, long))).0;
        stamps = λ i h.
            let l : i < length t.events = omega (arith, h, long) in
            rw (stamps_kept t.form c (begun_of t) t.events t.tracks i l).1 (w.stamps i l);
      }

  worked-right : as_worked (worked_tracked t) ≡ true
  worked-right = answered-right t.form c (begun_of t) t.events t.tracks

  same : as_worked t ≡ true → worked_tracked t ≡ t
  same r =
      same_sheet (worked_tracked t) t refl refl refl (right_same t.form c (begun_of t) t.events t.tracks (λ i h. four_same (get_or t.events i []) (readable.four i h)) r) refl

  -- 'the sheet's answers' are 'the ones that working its events gives'
  pub as_worked_iff : (as_worked t ≡ true) ↔ (encode_tracked (worked_tracked t) ≡ s)
  as_worked_iff = (
    λ r. ap encode_tracked (same r) ∙ tracked_written most fits s small z,
    λ e.
        let back : worked_tracked t ≡ t = sym (tracked_read (worked_tracked t) worked-writable) ∙ ap decode_tracked e in
        subst (λ (x : Tracked). as_worked x ≡ true) back worked-right,
  )

  -- of a sheet that working has written every refusal of 8, 9 or 13 is answered
  pub worked-answered : (k : ℕ) → ((since_up_to most (encode_tracked (worked_tracked t)) k).number ≡ 0) ↔ (asked (worked_tracked t) k ≡ true)
  unfolding since_when
  worked-answered k =
      let x = worked_tracked t in
      let w = worked-writable in
      let q : decode_tracked (encode_tracked x) ≡ x = tracked_read x w in
      let o : (verdict_up_to most (encode_tracked x)).number ≡ 0 = tracked_accepted x w most (form-most most fits s z) in (
        λ e.
            split (asked x k) (λ f. f)
            (λ f. absurd (let u : no_such_refusal ≡ 0 = ap (λ (v : Since). v.number) (since_not_asked most (encode_tracked x) k o (rw q f)) ∙ e in omega arith)),
        λ f.
            sym (ap (λ (v : Since). v.number) (rw (q, worked-right) at (since_in_lem most (encode_tracked x) k o (rw q f)))),
      )
