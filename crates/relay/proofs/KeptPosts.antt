-- Each change that an event makes to one post, or to two neighbours, keeps their rules and those of the sections beside them; which event makes which is proofs/KeptEvents.antt's.
-- The word by proofs/KeptWords.antt, the counts because one grows by 1 as the events taken do, and the equations of a section because what grows on one side grows on the other.
use Prim.Native.Nat.{ℕ, ◌+◌, ◌≤◌, ◌<◌}
use mathlib.Core.Path.{◌≡◌, refl}
use mathlib.Core.Bool.{Bool, true, false}
use native.Mathlib.Omega.{arith}
use Rattle.relay.specs.Choice.{one}
use Rattle.relay.specs.Events.{may_record}
use Rattle.relay.specs.Kinds.{origin, terminus, intermediate}
use Rattle.relay.specs.Posts.{post, form, word_to, more_a, more_x, more_y, more_v, more_g, more_r, more_q}
use Rattle.relay.specs.Relays.{An, KPg, L, RL, lever, W314, W241, up, raise, lower}
use Rattle.relay.specs.Valid.{most_events}
use Rattle.relay.specs.declared.Post.{Post}
use Rattle.relay.proofs.Cases.{sent_back, under_way}
use Rattle.relay.proofs.Facts.{KindOk, WordOk, PostOk, SectionOk, Within}
use Rattle.relay.proofs.KeptWords.{Keeps, word-pass, word-announce, word-release, word-release-sent, word-announcement-gone, word_announcement_in, word_release_in, word-release-gone, word-restore}
use Rattle.relay.proofs.Truth.{facts, equal_or_not, split, ones, up_or_down}
use Rattle.relay.proofs.Word.{relays}

-- ---- kinds
-- a kind is one of 0 to 4
pub kind-small : (n i k : ℕ) → KindOk n i k → k < 5
kind-small n i k r =
    equal_or_not i 0
    (λ e. omega (arith, r.first e))
    (λ e. equal_or_not (i + 1) n (λ f. omega (arith, r.last e f)) (λ f. omega (arith, r.middle e f)))

-- a post upstream of a section is not the terminus
pub not_terminus : (n i k : ℕ) → KindOk n i k → i + 1 < n → k ≡ terminus → ⊥
not_terminus n i k r h e =
    equal_or_not i 0 (λ z. omega (arith, r.first z)) (λ z. omega (arith, r.middle z (omega arith)))

-- a post downstream of a section is not the origin
pub not_origin : (n i k : ℕ) → KindOk n i k → (i ≡ 0 → ⊥) → k ≡ origin → ⊥
not_origin n i k r h e =
    equal_or_not (i + 1) n (λ z. omega (arith, r.last h z)) (λ z. omega (arith, r.middle h z))

-- ---- what is kept
-- post i of n is kept, with one more event taken, and so are the sections beside it
pub record One (n i t : ℕ) (p q : Post) : Type 0 where
  pub post : PostOk n i (t + 1) q
  pub above : (x : Post) → SectionOk x p → SectionOk x q
  pub below : (y : Post) → SectionOk p y → SectionOk q y

-- posts i and j of n, two neighbours, are kept, the section between them, and those beside it
pub record Two (n i j t : ℕ) (u d u' d' : Post) : Type 0 where
  pub upper : PostOk n i (t + 1) u'
  pub lower : PostOk n j (t + 1) d'
  pub above : (x : Post) → SectionOk x u → SectionOk x u'
  pub between : SectionOk u' d'
  pub below : (y : Post) → SectionOk d y → SectionOk d' y

-- a post that is not altered is kept, however many events are taken meanwhile
pub later : {n i t u : ℕ} {p : Post} → t ≤ u → PostOk n i t p → PostOk n i u p
later k r = record { kind = r.kind; word = r.word; zeros = r.zeros; counts = omega (arith, r.counts) }

-- two words that look alike from the sections beside a post
abbrev pub Alike : ℕ → ℕ → Type 0
Alike w v =
    (up An w ≡ up An v) × (up KPg w ≡ up KPg v) × (up RL w ≡ up RL v) × (up W314 w ≡ up W314 v) × (up W241 w ≡ up W241 v)

-- a word looks like itself
pub alike : (w : ℕ) → Alike w w
alike w = (refl, refl, refl, refl, refl)

-- ---- one post is altered
module _ {n i t : ℕ} {p : Post} (r : PostOk n i t p) where
  -- its word, after a change that keeps the rules
  pub word : {c : ℕ → ℕ → Bool} {f : ℕ → ℕ} → Keeps c f → c p.kind p.word ≡ true → WordOk p.kind (f p.word)
  word k e = k.keeps-word p.kind p.word (kind-small n i (form p) r.kind) r.word e

  -- in its word alone
  pub word_to_lem : {w : ℕ} → WordOk p.kind w → PostOk n i (t + 1) (word_to w p)
  word_to_lem k = record { kind = r.kind; word = k; zeros = r.zeros; counts = omega (arith, r.counts) }

  -- in its word and what it keeps of the section downstream
  pub up_to : {w a x y v g : ℕ} → (form p ≡ terminus → ⊥) → WordOk p.kind w
      → Within (t + 1) (post w p.kind a x y v g p.r p.q p.e p.c)
      → PostOk n i (t + 1) (post w p.kind a x y v g p.r p.q p.e p.c)
  up_to z k c =
      record {
        kind = r.kind;
        word = k;
        zeros =
            record {
              origin-zero = r.zeros.origin-zero;
              terminus-zero = λ e. absurd (z e);
              terminus-garage = r.zeros.terminus-garage;
              intermediate-garage = r.zeros.intermediate-garage;
            };
        counts = c;
      }

  -- in its word and what it keeps of the section upstream
  pub down_to : {w f q e c : ℕ} → (form p ≡ origin → ⊥) → (form p ≡ terminus → c ≡ 0) → (form p ≡ intermediate → c ≡ 0)
      → WordOk p.kind w
      → Within (t + 1) (post w p.kind p.a p.x p.y p.v p.g f q e c)
      → PostOk n i (t + 1) (post w p.kind p.a p.x p.y p.v p.g f q e c)
  down_to z f g k c =
      record {
        kind = r.kind;
        word = k;
        zeros =
            record {
              origin-zero = λ e. absurd (z e);
              terminus-zero = r.zeros.terminus-zero;
              terminus-garage = f;
              intermediate-garage = g;
            };
        counts = c;
      }

  -- a change that is seen from no section
  pub unseen : {w : ℕ} → WordOk p.kind w → Alike w p.word → One n i t p (word_to w p)
  unseen k e =
      record { post = word_to_lem k; above = λ x s. simp (e.0, e.1) s; below = λ y s. simp (e.2, e.3, e.4) s }

  -- a strike with no effect
  pub idle : One n i t p p
  idle = record { post = later (omega arith) r; above = λ x s. s; below = λ y s. s }

  -- 3. a passage is recorded
  pub passes : t < most_events → (form p ≡ origin → ⊥) → may_record p.kind p.word ≡ true → up KPg p.word ≡ false
      → One n i t p (more_q (word_to (raise KPg p.word) p))
  passes room k a b =
      record {
        post =
            down_to k r.zeros.terminus-garage r.zeros.intermediate-garage (word word-pass a)
            (omega (arith, r.counts));
        above = λ x s. simp relays (omega (arith, ones, r.counts));
        below = λ y s. simp relays s;
      }

  -- 5. an announcement is sent
  pub announces : t < most_events → (form p ≡ terminus → ⊥) → up RL p.word ≡ true → up lever p.word ≡ false
      → One n i t p (more_a (word_to (raise W314 (lower L (lower RL p.word))) p))
  announces room k a b =
      record {
        post = up_to k (word word-announce (simp facts (k, b))) (omega (arith, r.counts));
        above = λ x s. simp relays s;
        below = λ y s. simp relays (omega (arith, ones, r.counts, up_or_down (up RL p.word)));
      }

-- ---- two neighbours are altered, u upstream and d downstream
module _ {n i j t : ℕ} {u d : Post} (room : t < most_events) (next : j ≡ i + 1) (fits : j < n) (U : PostOk n i t u) (D : PostOk n j t d) (s : SectionOk u d) where
  -- the upstream post is not the terminus, the downstream post not the origin
  u_kind : form u ≡ terminus → ⊥
  u_kind = not_terminus n i (form u) U.kind (omega arith)

  d-kind : form d ≡ origin → ⊥
  d-kind = not_origin n j (form d) D.kind (omega arith)

  -- where An, W314 or W241 is up RL is down
  held : 1 ≤ one (up An d.word) + one (up W314 u.word) + one (up W241 u.word) → up RL u.word ≡ false
  held k = split (up RL u.word) (λ e. absurd (omega (arith, ones, s, up_or_down (up RL u.word)))) (λ e. e)

  -- the upstream post alone is altered, in its word and what it keeps of the section
  pub upstream : {w a x y v g : ℕ} → WordOk u.kind w → Within (t + 1) (post w u.kind a x y v g u.r u.q u.e u.c)
      → (up An w ≡ up An u.word) × (up KPg w ≡ up KPg u.word)
      → SectionOk (post w u.kind a x y v g u.r u.q u.e u.c) d
      → Two n i j t u d (post w u.kind a x y v g u.r u.q u.e u.c) d
  upstream k c e b =
      record {
        upper = up_to U u_kind k c;
        lower = later (omega arith) D;
        above = λ x z. simp (e.0, e.1) z;
        between = b;
        below = λ y z. z;
      }

  -- 6 and 7, with c afterwards
  pub sends-back : (c : ℕ) → c ≤ d.c + 1 → (form d ≡ terminus → c ≡ 0) → (form d ≡ intermediate → c ≡ 0)
      → up An d.word ≡ true → up KPg d.word ≡ true
      → Two n i j t u d (under_way u) (sent_back c d)
  sends-back c m f g a b =
      record {
        upper = word_to_lem U (word U word-release-sent (simp facts u_kind));
        lower = down_to D d-kind f g (word D word-release refl) (omega (arith, D.counts));
        above = λ x z. simp relays z;
        between = simp relays (omega (arith, ones, D.counts, up_or_down (up RL u.word)));
        below = λ y z. simp relays z;
      }

  -- 8. the announcement under way arrives
  pub announcement_in : up W314 u.word ≡ true → Two n i j t u d (word_to (lower W314 u.word) u) (more_r (word_to (raise An d.word) d))
  announcement_in a =
      record {
        upper = word_to_lem U (word U word-announcement-gone refl);
        lower =
            down_to D d-kind D.zeros.terminus-garage D.zeros.intermediate-garage (word D word_announcement_in (simp facts d-kind))
            (omega (arith, D.counts));
        above = λ x z. simp relays z;
        between = simp relays (omega (arith, ones, D.counts, up_or_down (up RL u.word)));
        below = λ y z. simp relays z;
      }

  -- 8. the release under way arrives
  pub release_in : up W314 u.word ≡ false → up W241 u.word ≡ true
      → Two n i j t u d (more_v (word_to (raise RL (raise L (lower W241 u.word))) u)) d
  release_in a b =
      upstream (word U word_release_in (simp facts (u_kind, held (omega (arith, ones))))) (omega (arith, U.counts))
      (simp relays (refl, refl))
      (simp relays (omega (arith, ones, U.counts, up_or_down (up RL u.word))))

  -- 8 at a jammed post, and 9: the announcement under way is lost
  pub announcement-gone : up W314 u.word ≡ true → Two n i j t u d (more_x (word_to (lower W314 u.word) u)) d
  announcement-gone a =
      upstream (word U word-announcement-gone refl) (omega (arith, U.counts)) (simp relays (refl, refl)) (simp relays (omega (arith, ones, U.counts)))

  -- 9. the release under way is lost
  pub release-gone : up W314 u.word ≡ false → up W241 u.word ≡ true → Two n i j t u d (more_y (word_to (lower W241 u.word) u)) d
  release-gone a b =
      upstream (word U word-release-gone refl) (omega (arith, U.counts)) (simp relays (refl, refl)) (simp relays (omega (arith, ones, U.counts)))

  -- 10. the section is restored
  pub restores : up RL u.word ≡ false → up W314 u.word ≡ false → up W241 u.word ≡ false → up An d.word ≡ false
      → Two n i j t u d (more_g (word_to (raise RL (raise L u.word)) u)) d
  restores a b c e =
      upstream (word U word-restore (simp facts (u_kind, a))) (omega (arith, U.counts)) (simp relays (refl, refl))
      (simp relays (omega (arith, ones, U.counts, up_or_down (up RL u.word))))
