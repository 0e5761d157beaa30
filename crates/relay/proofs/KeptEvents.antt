-- Every event keeps the rules of the two posts that it may alter, and of the sections beside them.
-- Case by case: each event is one of the changes of proofs/KeptPosts.antt.
use Prim.Native.Nat.{ℕ, ◌+◌, ◌<◌}
use mathlib.Core.Path.{◌≡◌, refl}
use native.Mathlib.Omega.{arith}
use Rattle.relay.specs.Choice.{grown}
use Rattle.relay.specs.Posts.{form}
use Rattle.relay.specs.Valid.{most_events}
use Rattle.relay.specs.declared.Pair.{Pair}
use Rattle.relay.specs.declared.Post.{Post}
use Rattle.relay.proofs.Cases.{garage-kind, Taken, reverse, normalise, pass, pass-idle, strike_block, strike_close, strike_idle, announce, release, garage, announcement_arrives, announcement-jammed, release_arrives, announcement-lost, release-lost, restore, button_jams, button_freed}
use Rattle.relay.proofs.Facts.{PostOk, SectionOk}
use Rattle.relay.proofs.KeptWords.{word-reverse, word-normal, word_block, word-close, word-jam, word-free}
use Rattle.relay.proofs.Truth.{facts}
use Rattle.relay.proofs.Word.{relays}
use Rattle.relay.proofs.KeptPosts.{One, Two, alike, word, unseen, idle, passes, announces, sends-back, announcement_in, release_in, announcement-gone, release-gone, restores}

-- ---- every event that is taken
-- what an event at post i of n keeps, its neighbour being post j: p is the post named, o the neighbour, b the two as the event leaves them
pub data Kept (n i j t : ℕ) (p o : Post) (b : Pair) : Type 0 where
  -- the neighbour is not altered
  single : b.other ≡ o → One n i t p b.here → Kept n i j t p o b
  -- the neighbour is the post before
  back : i ≡ j + 1 → (i < n → PostOk n j t o → SectionOk o p → Two n j i t o p b.other b.here) → Kept n i j t p o b
  -- the neighbour is the next post
  onward : j ≡ i + 1 → (j < n → PostOk n j t o → SectionOk p o → Two n i j t p o b.here b.other) → Kept n i j t p o b

-- each case of an event keeps what it alters
pub keeps : {n i j t m : ℕ} {p o : Post} {b : Pair} → t < most_events → PostOk n i t p → Taken i j p o m b → Kept n i j t p o b
keeps {p = p} room r (reverse a b) = single refl (unseen r (word r word-reverse (simp facts b)) (simp relays (alike p.word)))
keeps {p = p} room r (normalise a) = single refl (unseen r (word r word-normal refl) (simp relays (alike p.word)))
keeps room r (pass a b c) = single refl (passes r room a b c)
keeps room r (pass-idle a b) = single refl (idle r)
keeps {p = p} room r (strike_block a b) = single refl (unseen r (word r word_block a) (simp relays (alike p.word)))
keeps {p = p} room r (strike_close a b) = single refl (unseen r (word r word-close (simp facts a)) (simp relays (alike p.word)))
keeps room r (strike_idle a b) = single refl (idle r)
keeps room r (announce a b c) = single refl (announces r room a b c)
keeps {p = p} room r (release k a m b c d e) =
    back k (λ f o s. sends-back room k f o r s p.c (omega arith) r.zeros.terminus-garage r.zeros.intermediate-garage b c)
keeps {p = p} room r (garage k a m b c) =
    let g = garage-kind (form p) a in
    back k (λ f o s. sends-back room k f o r s (grown p.c) (omega arith) (λ z. absurd (omega arith)) (λ z. absurd (omega arith)) b c)
keeps room r (announcement_arrives k a b) = onward k (λ f o s. announcement_in room k f r o s a)
keeps room r (announcement-jammed k a b) = onward k (λ f o s. announcement-gone room k f r o s a)
keeps room r (release_arrives k a b) = onward k (λ f o s. release_in room k f r o s a b)
keeps room r (announcement-lost k a) = onward k (λ f o s. announcement-gone room k f r o s a)
keeps room r (release-lost k a b) = onward k (λ f o s. release-gone room k f r o s a b)
keeps room r (restore k a b c d) = onward k (λ f o s. restores room k f r o s a b c d)
keeps {p = p} room r (button_jams a b) = single refl (unseen r (word r word-jam (simp facts a)) (simp relays (alike p.word)))
keeps {p = p} room r (button_freed a b) = single refl (unseen r (word r word-free refl) (simp relays (alike p.word)))
