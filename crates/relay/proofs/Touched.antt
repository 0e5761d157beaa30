-- Which relays an event that is taken may alter: of the post named those that stand beside its number, of its neighbour An and W241 alone.
-- A theorem that follows one relay goes by these two laws and by the cases of the few events that may alter it. Each case holds by the laws of the word.
-- Assumes nothing.
use Prim.Native.Nat.{ℕ}
use mathlib.Core.Path.{◌≡◌, refl}
use mathlib.Core.Bool.{Bool, true, false, ◌||◌}
use lib.Dec.{eqb, ltb}
use Rattle.relay.specs.Choice.{pick}
use Rattle.relay.specs.Relays.{An, KPg, L, RL, lever, signal, W314, W241, jam, width, up}
use Rattle.relay.specs.declared.Pair.{Pair}
use Rattle.relay.specs.declared.Post.{Post}
use Rattle.relay.proofs.Cases.{Taken, reverse, normalise, pass, pass-idle, strike_block, strike_close, strike_idle, announce, release, garage, announcement_arrives, announcement-jammed, release_arrives, announcement-lost, release-lost, restore, button_jams, button_freed}
use Rattle.relay.proofs.Truth.{nor_facts}
use Rattle.relay.proofs.Word.{relays}

-- event n may alter relay k of the post named
unfoldable pub touched : ℕ → ℕ → Bool
touched n k =
    pick (eqb n 1 || eqb n 2) (eqb k lever || eqb k signal)
    (pick (eqb n 3) (eqb k KPg)
    (pick (eqb n 4) (eqb k L || eqb k signal)
    (pick (eqb n 5) (eqb k L || (eqb k RL || eqb k W314))
    (pick (eqb n 6 || eqb n 7) (eqb k An || eqb k KPg)
    (pick (eqb n 8) (eqb k L || (eqb k RL || (eqb k W314 || eqb k W241)))
    (pick (eqb n 9) (eqb k W314 || eqb k W241)
    (pick (eqb n 10) (eqb k L || eqb k RL) (pick (eqb n 11 || eqb n 12) (eqb k jam) false))))))))

-- every other relay of the post named stays
pub here-stays : {i j n : ℕ} {p o : Post} {b : Pair} → Taken i j p o n b → (k : ℕ) → ltb k width ≡ true → touched n k ≡ false
    → up k b.here.word ≡ up k p.word
unfolding touched
here-stays (reverse a b) k h f = let g = simp nor_facts at f in simp (relays, h, g.0, g.1)
here-stays (normalise a) k h f = let g = simp nor_facts at f in simp (relays, h, g.0, g.1)
here-stays (pass a b c) k h f = simp (relays, h, f)
here-stays (pass-idle a b) k h f = refl
here-stays (strike_block a b) k h f = let g = simp nor_facts at f in simp (relays, h, g.0, g.1)
here-stays (strike_close a b) k h f = let g = simp nor_facts at f in simp (relays, h, g.0, g.1)
here-stays (strike_idle a b) k h f = refl
here-stays (announce a b c) k h f = let g = simp nor_facts at f in simp (relays, h, g.0, g.1.0, g.1.1)
here-stays (release m a n b c d e) k h f = let g = simp nor_facts at f in simp (relays, h, g.0, g.1)
here-stays (garage m a n b c) k h f = let g = simp nor_facts at f in simp (relays, h, g.0, g.1)
here-stays (announcement_arrives m a b) k h f = let g = simp nor_facts at f in simp (relays, h, g.1.1.0)
here-stays (announcement-jammed m a b) k h f = let g = simp nor_facts at f in simp (relays, h, g.1.1.0)
here-stays (release_arrives m a b) k h f =
    let g = simp nor_facts at f in simp (relays, h, g.0, g.1.0, g.1.1.0, g.1.1.1)
here-stays (announcement-lost m a) k h f = let g = simp nor_facts at f in simp (relays, h, g.0)
here-stays (release-lost m a b) k h f = let g = simp nor_facts at f in simp (relays, h, g.1)
here-stays (restore m a b c d) k h f = let g = simp nor_facts at f in simp (relays, h, g.0, g.1)
here-stays (button_jams a b) k h f = simp (relays, h, f)
here-stays (button_freed a b) k h f = simp (relays, h, f)

-- every relay of its neighbour but An and W241 stays
pub other-stays : {i j n : ℕ} {p o : Post} {b : Pair} → Taken i j p o n b → (k : ℕ) → (eqb k An || eqb k W241) ≡ false
    → up k b.other.word ≡ up k o.word
other-stays (reverse a b) k f = refl
other-stays (normalise a) k f = refl
other-stays (pass a b c) k f = refl
other-stays (pass-idle a b) k f = refl
other-stays (strike_block a b) k f = refl
other-stays (strike_close a b) k f = refl
other-stays (strike_idle a b) k f = refl
other-stays (announce a b c) k f = refl
other-stays (release m a n b c d e) k f = simp (relays, (simp nor_facts at f).1)
other-stays (garage m a n b c) k f = simp (relays, (simp nor_facts at f).1)
other-stays (announcement_arrives m a b) k f = simp (relays, (simp nor_facts at f).0)
other-stays (announcement-jammed m a b) k f = refl
other-stays (release_arrives m a b) k f = refl
other-stays (announcement-lost m a) k f = refl
other-stays (release-lost m a b) k f = refl
other-stays (restore m a b c d) k f = refl
other-stays (button_jams a b) k f = refl
other-stays (button_freed a b) k f = refl
