-- A text taken a byte at a time, by value, follows what is read of it: as long as every record stands, what is known by value is what the records say; from the first that does not, it counts those before.
-- Assumes nothing.
use Prim.Native.Nat.{ℕ, zero, suc, ◌+◌, ◌≤◌, ◌<◌, min}
use mathlib.Core.Path.{◌≡◌, refl, sym, ap}
use mathlib.Core.Logic.{◌⊎◌}
use mathlib.Core.List.{List, [], ◌∷◌}
use native.Mathlib.Omega.{arith}
use lib.ListN.{length, length-append}
use Rattle.digits.specs.Numerals.{marked}
use Rattle.digits.proofs.Numerals.{marked_more}
use Rattle.register.specs.Lexer.{adding, field_of, Lexed, lexed, snoc}
use Rattle.register.specs.Reading.{Read, nothing, standing, after}
use Rattle.register.specs.Texts.{Field, said, said_all}
use Rattle.register.specs.declared.Mode.{Mode}
use Rattle.register.specs.declared.Mode.TheVariants.{Start, Plain, Inside, Closing, AtCr, Broken}
use Rattle.register.specs.declared.Stage.{Stage}
use Rattle.register.specs.declared.Stage.TheVariants.{AtHeader, AtStart, AtKinds, AtEvents}
use Rattle.importing.specs.Importing.{record_at}
use Rattle.importing.specs.Rooms.{Fed, kept_at}
use Rattle.importing.specs.Steps.{word, mark_next, moved, pushed, place_next, most_counted}
use Rattle.importing.specs.declared.steps.Marks.{Marks}
use Rattle.importing.specs.declared.steps.State.{State}
use Rattle.importing.proofs.Judged.{mark_of}
use Rattle.importing.proofs.Kept.{Kept, same_kinds, same_events}
use Rattle.importing.proofs.Places.{place_more}
use Rattle.importing.proofs.Letters.{lettered, lettered_more}

-- ---- marks of fields
pub mark_none : (g : Stage) (i : ℕ) → 0 ≡ mark_of g i []
unfolding lettered marked
mark_none AtHeader i = refl
mark_none AtStart i = refl
mark_none AtKinds i = refl
mark_none AtEvents i = refl

-- past the fifth word there is none
word-min : (i : ℕ) → word (min 6 i) ≡ word i
word-min zero = refl
word-min (suc zero) = refl
word-min (suc (suc zero)) = refl
word-min (suc (suc (suc zero))) = refl
word-min (suc (suc (suc (suc zero)))) = refl
word-min (suc (suc (suc (suc (suc zero))))) = refl
word-min (suc (suc (suc (suc (suc (suc i)))))) = let e : min 6 (suc (suc (suc (suc (suc (suc i)))))) ≡ 6 = omega arith in rw e

pub mark_more : (g : Stage) (i : ℕ) (f : List ℕ) (b : ℕ) → mark_next g (min 6 i) (mark_of g i f) b ≡ mark_of g i (snoc f b)
mark_more AtHeader i f b = rw (word-min i) (sym (lettered_more (word i) 0 f b))
mark_more AtStart i f b = sym (marked_more 0 f b)
mark_more AtKinds i f b = sym (marked_more 0 f b)
mark_more AtEvents i f b = sym (marked_more 0 f b)

-- the marks of fields from place i on, pushed one after the other
unfoldable pub marks_from : Stage → ℕ → Marks → List Field → Marks
marks_from g i k [] = k
marks_from g i k (f ∷ fs) = marks_from g (suc i) (pushed k (mark_of g i (said f))) fs

marks-snoc : (g : Stage) (i : ℕ) (k : Marks) (fs : List Field) (f : Field) → marks_from g i k (snoc fs f) ≡ pushed (marks_from g i k fs) (mark_of g (i + length fs) (said f))
unfolding marks_from
marks-snoc g i k [] f = let e : i + 0 ≡ i = omega arith in rw e
marks-snoc g i k (x ∷ fs) f =
    let e : i + suc (length fs) ≡ suc i + length fs = omega arith in
    rw e (marks-snoc g (suc i) (pushed k (mark_of g i (said x))) fs f)

said-field : (m : Mode) (f : List ℕ) → said (field_of m f) ≡ f
said-field Start f = refl
said-field Plain f = refl
said-field Inside f = refl
said-field Closing f = refl
said-field AtCr f = refl
said-field Broken f = refl

-- ---- what is known
abbrev pub known : Lexed → Read
known l = after nothing (said_all l.rows)

abbrev pub standing_in : Lexed → ℕ
standing_in l = standing nothing (said_all l.rows)

-- every record so far stands
pub record On (l : Lexed) (f : Fed) : Type 0 where
  pub all : standing_in l ≡ length (said_all l.rows)
  pub mode : f.state.mode ≡ l.mode
  pub stage : f.state.stage ≡ (known l).stage
  pub stamp : f.state.stamp ≡ (known l).sheet.stamp
  pub posts : f.state.posts ≡ length (known l).sheet.kinds
  pub counted : f.state.events ≡ length (known l).sheet.events
  pub place : f.state.place ≡ min 6 (length l.fields)
  pub mark : f.state.mark ≡ mark_of (known l).stage (length l.fields) l.field
  pub first : Marks
  pub marks : f.state.marks ≡ marks_from (known l).stage 0 first l.fields
  pub kinds : Kept (known l).sheet.kinds f.kinds
  pub events : Kept (known l).sheet.events f.events

-- one does not, or the text is broken: those before are counted
pub record Off (l : Lexed) (f : Fed) : Type 0 where
  pub stops : f.state.mode ≡ Broken
  pub few : f.state.events ≤ most_counted
  pub count : record_at f.state.stage f.state.posts f.state.events ≡ suc (standing_in l)
  pub over : (l.mode ≡ Broken) ⊎ (standing_in l < length (said_all l.rows))

abbrev pub Follows : Lexed → Fed → Type 0
Follows l f = On l f ⊎ Off l f

-- ---- a byte within a record
module _ (l : Lexed) (f : Fed) (o : On l f) where
  abbrev s : State
  s = f.state

  abbrev g : Stage
  g = (known l).stage

  -- the fields are so, and the next byte stands there
  moves : (m m' : Mode) (fs : List Field) (fl : List ℕ) (p k : ℕ) (ms : Marks) → m ≡ m' → p ≡ min 6 (length fs) → k ≡ mark_of g (length fs) fl → (k₀ : Marks) → ms ≡ marks_from g 0 k₀ fs
      → On (lexed m' l.rows fs fl) (kept_at s (moved s m p k ms) f.kinds f.events)
  moves m m' fs fl p k ms e hp hk k₀ hm =
      record {
        all = o.all;
        mode = e;
        stage = o.stage;
        stamp = o.stamp;
        posts = o.posts;
        counted = o.counted;
        place = hp;
        mark = hk;
        first = k₀;
        marks = hm;
        kinds = rw (same_kinds (moved s m p k ms) s.posts f.kinds refl) o.kinds;
        events = rw (same_events (moved s m p k ms) s.events f.events refl) o.events;
      }

  pub opened : On (lexed Inside l.rows l.fields []) (kept_at s (moved s Inside s.place 0 s.marks) f.kinds f.events)
  opened = moves Inside Inside l.fields [] s.place 0 s.marks refl o.place (mark_none g (length l.fields)) o.first o.marks

  pub added : (b : ℕ) → On (lexed (adding l.mode) l.rows l.fields (snoc l.field b)) (kept_at s (moved s (adding s.mode) s.place (mark_next s.stage s.place s.mark b) s.marks) f.kinds f.events)
  added b =
      moves (adding s.mode) (adding l.mode) l.fields (snoc l.field b) s.place (mark_next s.stage s.place s.mark b) s.marks (ap adding o.mode) o.place
      (rw (o.stage, o.place, o.mark) (mark_more g (length l.fields) l.field b)) o.first o.marks

  pub closed : On (lexed Closing l.rows l.fields l.field) (kept_at s (moved s Closing s.place s.mark s.marks) f.kinds f.events)
  closed = moves Closing Closing l.fields l.field s.place s.mark s.marks refl o.place o.mark o.first o.marks

  pub ended : (m : Mode) → On (lexed m l.rows (snoc l.fields (field_of l.mode l.field)) []) (kept_at s (moved s m (place_next s.place) 0 (pushed s.marks s.mark)) f.kinds f.events)
  ended m =
      let fd = field_of l.mode l.field in
      let n : length (snoc l.fields fd) ≡ length l.fields + 1 = length-append l.fields (fd ∷ []) in
      let z : 0 + length l.fields ≡ length l.fields = omega arith in
      moves m m (snoc l.fields fd) [] (place_next s.place) 0 (pushed s.marks s.mark) refl
      (rw (o.place, n) (place_more (length l.fields))) (mark_none g (length (snoc l.fields fd))) o.first
      (rw (o.marks, o.mark) (sym (rw (said-field l.mode l.field, z) at (marks-snoc g 0 o.first l.fields fd))))
