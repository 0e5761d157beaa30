-- Every change that an event makes to a relay word, and when it makes it: a list, so that one test goes through all.
-- Assumes nothing.
use Prim.Native.Nat.{ℕ}
use mathlib.Core.Bool.{Bool, true, not, ◌&&◌}
use mathlib.Core.List.{List, [], ◌∷◌}
use lib.Dec.{eqb}
use Rattle.relay.specs.Choice.{requires}
use Rattle.relay.specs.Events.{may_record}
use Rattle.relay.specs.Kinds.{origin, terminus, ordinary, blocks_at_pedal}
use Rattle.relay.specs.Relays.{An, KPg, L, RL, lever, signal, W314, W241, jam, up, down, raise, lower}

-- a change of a word, and the test of kind and word under which an event makes it
pub record Change : Type 0 where
  pub under : ℕ → ℕ → Bool
  pub makes : ℕ → ℕ

-- ---- event by event
-- 1. the lever is reversed and the signal opens, with L up but at the terminus
abbrev pub reversing : Change
reversing = record { under = λ k w. requires (not (eqb (ordinary k) terminus)) (up L w); makes = λ w. raise signal (raise lever w) }

-- 2. the lever goes to normal and the signal closes
abbrev pub closing : Change
closing = record { under = λ k w. true; makes = λ w. lower signal (lower lever w) }

-- 3. KPg rises, with An up but at a short post
abbrev pub passing : Change
passing = record { under = may_record; makes = λ w. raise KPg w }

-- 4. the signal closes and L drops, at kinds 0 and 2
abbrev pub blocking : Change
blocking = record { under = λ k w. blocks_at_pedal (ordinary k); makes = λ w. lower L (lower signal w) }

-- 4. the signal closes, at the terminus
abbrev pub signal_closing : Change
signal_closing = record { under = λ k w. eqb (ordinary k) terminus; makes = λ w. lower signal w }

-- 5. RL and L drop, W314 rises, with the lever normal
abbrev pub announcing : Change
announcing = record { under = λ k w. not (eqb (ordinary k) terminus) && down lever w; makes = λ w. raise W314 (lower L (lower RL w)) }

-- 6 and 7. An and KPg drop
abbrev pub releasing : Change
releasing = record { under = λ k w. true; makes = λ w. lower KPg (lower An w) }

-- 6 and 7. W241 rises upstream
abbrev pub release_sending : Change
release_sending = record { under = λ k w. not (eqb (ordinary k) terminus); makes = λ w. raise W241 w }

-- 8 and 9. W314 drops
abbrev pub announcement_going : Change
announcement_going = record { under = λ k w. true; makes = λ w. lower W314 w }

-- 8. An rises downstream
abbrev pub announcement_arriving : Change
announcement_arriving = record { under = λ k w. not (eqb (ordinary k) origin); makes = λ w. raise An w }

-- 8. W241 drops, L and RL rise, with RL down
abbrev pub release_arriving : Change
release_arriving = record { under = λ k w. not (eqb (ordinary k) terminus) && down RL w; makes = λ w. raise RL (raise L (lower W241 w)) }

-- 9. W241 drops
abbrev pub release_going : Change
release_going = record { under = λ k w. true; makes = λ w. lower W241 w }

-- 10. L and RL rise, with RL down
abbrev pub restoring : Change
restoring = record { under = λ k w. not (eqb (ordinary k) terminus) && down RL w; makes = λ w. raise RL (raise L w) }

-- 11. the button jams, at a post but the origin
abbrev pub jamming : Change
jamming = record { under = λ k w. not (eqb (ordinary k) origin); makes = λ w. raise jam w }

-- 12. it is freed
abbrev pub freeing : Change
freeing = record { under = λ k w. true; makes = λ w. lower jam w }

-- ---- every change
abbrev pub changes : List Change
changes = reversing ∷ closing ∷ passing ∷ blocking ∷ signal_closing ∷ announcing ∷ releasing ∷ release_sending ∷ announcement_going ∷ announcement_arriving ∷ release_arriving ∷ release_going ∷ restoring ∷ jamming ∷ freeing ∷ []
