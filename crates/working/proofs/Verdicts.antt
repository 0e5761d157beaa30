-- A verdict is that of working exactly when it may be named.
-- Assumes nothing.
use Prim.Native.Nat.{ℕ}
use mathlib.Core.Path.{◌≡◌, refl, subst}
use mathlib.Core.Logic.{◌↔◌}
use mathlib.Core.List.{List}
use Rattle.sheet.proofs.First.{named_none}
use Rattle.sheet.specs.Layout.{upper_bits}
use Rattle.sheet.specs.declared.Verdict.{Verdict}
use Rattle.working.specs.Working.{work_verdict_up_to}
use Rattle.working.proofs.Named.{NamedWork, unread, answered, short, fits, work_named, names_work}

-- 18 to 21 and 24 'given exactly when', with the block and the event's position: a verdict is that of working exactly when it may be named
pub work_iff : (most : ℕ) (s : List ℕ) (m : ℕ) (v : Verdict) → (work_verdict_up_to most s m ≡ v) ↔ NamedWork most s m v
work_iff most s m v = (λ e. subst (NamedWork most s m) e (work_named most s m), names_work most s m v)

-- 02, item 6: the position is 0 where no event's word is named
work_none : (most : ℕ) (s : List ℕ) (m : ℕ) (v : Verdict) → NamedWork most s m v → (v.number ≡ upper_bits → ⊥) → v.position ≡ 0
work_none most s m v (unread h b) n = named_none most s v b n
work_none most s m v (answered b j z h k l q u) n = refl
work_none most s m v (short z u h) n = refl
work_none most s m v (fits z u h) n = refl

pub work_names_none : (most : ℕ) (s : List ℕ) (m : ℕ) → ((work_verdict_up_to most s m).number ≡ upper_bits → ⊥) → (work_verdict_up_to most s m).position ≡ 0
work_names_none most s m = work_none most s m (work_verdict_up_to most s m) (work_named most s m)
