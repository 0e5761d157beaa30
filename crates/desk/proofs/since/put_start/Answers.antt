-- `since::put_start` meets its contract: the digit 0, and the line feed after it.
use Prim.Native.Nat.{ℕ}
use mathlib.Core.Path.{refl, ap, ◌∙◌}
use mathlib.Core.List.{List, [], ◌∷◌}
use native.Mathlib.Omega.{arith}
use lib.ListN.{set}
use Rattle.digits.proofs.Stores.{put_one, stored_more}
use Rattle.desk.proofs.Texts.{start_bytes}
use Rattle.desk.proofs.since.put_start.Goals as goal

pub returns : goal.returns
returns c = let d = c.args.out.now in
    let stands = ap (λ (l : List ℕ). set l 1 10) (put_one d 0 48 (omega arith)) ∙ stored_more d 0 (48 ∷ []) 10 (omega arith) in
    rw start_bytes (refl, stands)
