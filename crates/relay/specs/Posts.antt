-- The record of one post: its relay word, its kind and nine counts. 01, 'One post's relays'.
-- Upstream of a section it keeps: sent a, announcements lost x, releases lost y, releases received v, restorations g.
-- Downstream of one: announcements received r, passages recorded q, releases sent e, of which garage releases c.
-- Assumes nothing.
use Rattle.std.specs.Prelude.{ℕ, List, eqb, get_or}
use Rattle.relay.specs.Choice.{pick, grown}
use Rattle.relay.specs.Kinds.{terminus, ordinary}
use Rattle.relay.specs.Relays.{L, RL, raise}
use Rattle.relay.specs.declared.Post.{Post}

-- a record, by its fields in their order
abbrev pub post : ℕ → ℕ → ℕ → ℕ → ℕ → ℕ → ℕ → ℕ → ℕ → ℕ → ℕ → Post
post word kind a x y v g r q e c =
    record { word = word; kind = kind; a = a; x = x; y = y; v = v; g = g; r = r; q = q; e = e; c = c }

-- the ordinary form of its kind
abbrev pub form : Post → ℕ
form p = ordinary p.kind

-- the record with another word
abbrev pub word_to : ℕ → Post → Post
word_to w p = post w p.kind p.a p.x p.y p.v p.g p.r p.q p.e p.c

-- the record with one count grown by 1
abbrev pub more_a : Post → Post
more_a p = post p.word p.kind (grown p.a) p.x p.y p.v p.g p.r p.q p.e p.c

abbrev pub more_x : Post → Post
more_x p = post p.word p.kind p.a (grown p.x) p.y p.v p.g p.r p.q p.e p.c

abbrev pub more_y : Post → Post
more_y p = post p.word p.kind p.a p.x (grown p.y) p.v p.g p.r p.q p.e p.c

abbrev pub more_v : Post → Post
more_v p = post p.word p.kind p.a p.x p.y (grown p.v) p.g p.r p.q p.e p.c

abbrev pub more_g : Post → Post
more_g p = post p.word p.kind p.a p.x p.y p.v (grown p.g) p.r p.q p.e p.c

abbrev pub more_r : Post → Post
more_r p = post p.word p.kind p.a p.x p.y p.v p.g (grown p.r) p.q p.e p.c

abbrev pub more_q : Post → Post
more_q p = post p.word p.kind p.a p.x p.y p.v p.g p.r (grown p.q) p.e p.c

abbrev pub more_e : Post → Post
more_e p = post p.word p.kind p.a p.x p.y p.v p.g p.r p.q (grown p.e) p.c

abbrev pub more_c : Post → Post
more_c p = post p.word p.kind p.a p.x p.y p.v p.g p.r p.q p.e (grown p.c)

-- 'Fresh line: L and RL up at all posts but the terminus, everything else down, counts zero'
unfoldable pub fresh_word : ℕ → ℕ
fresh_word kind = pick (eqb (ordinary kind) terminus) 0 (raise RL (raise L 0))

unfoldable pub fresh_post : ℕ → Post
fresh_post kind = post (fresh_word kind) kind 0 0 0 0 0 0 0 0 0

-- what stands past the end of a row
abbrev pub blank : Post
blank = post 0 0 0 0 0 0 0 0 0 0 0

-- post i of a line
abbrev pub at : List Post → ℕ → Post
at l i = get_or l i blank
