-- Every change that an event makes to a relay word keeps the rules of one word.
-- Each holds because the test of every change, at every word that keeps them and every kind, passes: it is computed whole and once, so that it moves with the rules.
use Prim.Native.Nat.{ℕ, zero, suc, ◌^◌, ◌<◌}
use mathlib.Core.Path.{◌≡◌, refl}
use mathlib.Core.Bool.{Bool, true, false, ◌&&◌}
use mathlib.Core.List.{List, [], ◌∷◌}
use Rattle.relay.specs.Choice.{requires}
use Rattle.relay.specs.Kinds.{ordinary}
use Rattle.relay.specs.Relays.{width}
use Rattle.relay.specs.Valid.{word_ok}
use Rattle.relay.proofs.Facts.{WordOk, word_iff}
use Rattle.relay.proofs.Forms.{every_kind, every-kind}
use Rattle.relay.proofs.Rules.{rules}
use Rattle.relay.proofs.Truth.{and_facts, requires_facts, every, every_one}
use Rattle.relay.proofs.Changes.{Change, reversing, closing, passing, blocking, signal_closing, announcing, releasing, release_sending, announcement_going, announcement_arriving, release_arriving, release_going, restoring, jamming, freeing, changes}

-- made at kind k and word w, it keeps the rules of one word
unfoldable all_kept : ℕ → ℕ → List Change → Bool
all_kept k w [] = true
all_kept k w (c ∷ cs) = requires (c.under k w) (word_ok k (c.makes w)) && all_kept k w cs

all_keep : every_kind (λ k. every (2 ^ width) (λ w. requires (word_ok k w) (all_kept k w changes))) ≡ true
unfolding rules every_kind every all_kept
all_keep = refl

-- change i of a list; past its end, one that is never made
unfoldable nth : List Change → ℕ → Change
nth [] i = record { under = λ k w. false; makes = λ w. w }
nth (c ∷ cs) zero = c
nth (c ∷ cs) (suc i) = nth cs i

nth_kept : (k w : ℕ) (cs : List Change) (i : ℕ) → all_kept k w cs ≡ true → requires ((nth cs i).under k w) (word_ok k ((nth cs i).makes w)) ≡ true
unfolding nth all_kept
nth_kept k w [] i e = refl
nth_kept k w (c ∷ cs) zero e = ((and_facts (requires (c.under k w) (word_ok k (c.makes w))) (all_kept k w cs)).0 e).0
nth_kept k w (c ∷ cs) (suc i) e =
    nth_kept k w cs i ((and_facts (requires (c.under k w) (word_ok k (c.makes w))) (all_kept k w cs)).0 e).1

-- the change f, where the test t passes, keeps the rules of each word at each kind
pub record Keeps (t : ℕ → ℕ → Bool) (f : ℕ → ℕ) : Type 0 where
  pub keeps-word : (k w : ℕ) → ordinary k < 5 → WordOk k w → t k w ≡ true → WordOk k (f w)

abbrev pub Kept : Change → Type 0
Kept c = Keeps c.under c.makes

-- change i of the list does
kept : (i : ℕ) → Kept (nth changes i)
kept i =
    record {
      keeps-word =
          λ k w h r e.
          let all = every_one (2 ^ width) _ (every-kind _ all_keep k h) w r.no_others in
          let one = nth_kept k w changes i ((requires_facts (word_ok k w) (all_kept k w changes)).0 all ((word_iff k w).1 r)) in
          let c = nth changes i in
          (word_iff k (c.makes w)).0 ((requires_facts (c.under k w) (word_ok k (c.makes w))).0 one e);
    }

-- ---- and each by its name
pub word-reverse : Kept reversing
unfolding nth
word-reverse = kept 0

pub word-normal : Kept closing
unfolding nth
word-normal = kept 1

pub word-pass : Kept passing
unfolding nth
word-pass = kept 2

pub word_block : Kept blocking
unfolding nth
word_block = kept 3

pub word-close : Kept signal_closing
unfolding nth
word-close = kept 4

pub word-announce : Kept announcing
unfolding nth
word-announce = kept 5

pub word-release : Kept releasing
unfolding nth
word-release = kept 6

pub word-release-sent : Kept release_sending
unfolding nth
word-release-sent = kept 7

pub word-announcement-gone : Kept announcement_going
unfolding nth
word-announcement-gone = kept 8

pub word_announcement_in : Kept announcement_arriving
unfolding nth
word_announcement_in = kept 9

pub word_release_in : Kept release_arriving
unfolding nth
word_release_in = kept 10

pub word-release-gone : Kept release_going
unfolding nth
word-release-gone = kept 11

pub word-restore : Kept restoring
unfolding nth
word-restore = kept 12

pub word-jam : Kept jamming
unfolding nth
word-jam = kept 13

pub word-free : Kept freeing
unfolding nth
word-free = kept 14
