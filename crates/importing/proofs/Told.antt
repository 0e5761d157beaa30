-- Nothing is told but at the end of a record: a byte that is no LF leaves what is known as it was.
-- Assumes nothing.
use Prim.Native.Nat.{ℕ}
use mathlib.Core.Path.{◌≡◌, refl}
use mathlib.Core.List.{List}
use Rattle.register.specs.Lexer.{class, action}
use Rattle.register.specs.Texts.{lf}
use Rattle.register.specs.declared.Class.{Class}
use Rattle.register.specs.declared.Class.TheVariants.{Quote, Comma, Cr, Lf, Other}
use Rattle.register.specs.declared.Mode.{Mode}
use Rattle.register.specs.declared.Mode.TheVariants.{Start, Plain, Inside, Closing, AtCr, Broken}
use Rattle.register.proofs.Spelled.{byte_of, class_byte}
use Rattle.importing.specs.Rooms.{fed_at, fed_next}
use Rattle.importing.specs.Steps.{acted, state_next}
use Rattle.importing.specs.declared.steps.State.{State}
use Rattle.importing.proofs.Kept.{same_kinds, same_events}

-- the counts stay
abbrev Quiet : State → State → Type 0
Quiet s s' = (s.posts ≡ s'.posts) × (s.events ≡ s'.events)

module _ (s : State) (b : ℕ) where
  -- what every byte but an LF does
  quiet : (m : Mode) (c : Class) → (c ≡ Lf → ⊥) → Quiet s (acted (action m c) s b)
  quiet Start Quote n = (refl, refl)
  quiet Start Comma n = (refl, refl)
  quiet Start Cr n = (refl, refl)
  quiet Start Other n = (refl, refl)
  quiet Start Lf n = absurd (n refl)
  quiet Plain Quote n = (refl, refl)
  quiet Plain Comma n = (refl, refl)
  quiet Plain Cr n = (refl, refl)
  quiet Plain Other n = (refl, refl)
  quiet Plain Lf n = absurd (n refl)
  quiet Inside Quote n = (refl, refl)
  quiet Inside Comma n = (refl, refl)
  quiet Inside Cr n = (refl, refl)
  quiet Inside Other n = (refl, refl)
  quiet Inside Lf n = absurd (n refl)
  quiet Closing Quote n = (refl, refl)
  quiet Closing Comma n = (refl, refl)
  quiet Closing Cr n = (refl, refl)
  quiet Closing Other n = (refl, refl)
  quiet Closing Lf n = absurd (n refl)
  quiet AtCr Quote n = (refl, refl)
  quiet AtCr Comma n = (refl, refl)
  quiet AtCr Cr n = (refl, refl)
  quiet AtCr Other n = (refl, refl)
  quiet AtCr Lf n = absurd (n refl)
  quiet Broken Quote n = (refl, refl)
  quiet Broken Comma n = (refl, refl)
  quiet Broken Cr n = (refl, refl)
  quiet Broken Other n = (refl, refl)
  quiet Broken Lf n = absurd (n refl)

  no_lf : (b ≡ lf → ⊥) → class b ≡ Lf → ⊥
  unfolding byte_of
  no_lf n e = n (rw e at (class_byte b))

  next_quiet : (b ≡ lf → ⊥) → Quiet s (state_next s b)
  unfolding state_next
  next_quiet n = quiet s.mode (class b) (no_lf n)

  pub not_told : (ks : List ℕ) (es : List (List ℕ)) → (b ≡ lf → ⊥) → fed_at (state_next s b) ks es ≡ fed_next (fed_at s ks es) b
  unfolding fed_next
  not_told ks es n =
      let q = next_quiet n in
      rw (same_kinds (state_next s b) s.posts ks q.0, same_events (state_next s b) s.events es q.1)
