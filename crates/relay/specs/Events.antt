-- The twelve events. 01, 'Events', and 02, items 2 and 5: each is a list of refusals, 0 where none is given, and a change.
-- p is the post that the event names; o is its neighbour: upstream for 6 and 7, downstream for 8, 9 and 10.
-- Assumes nothing.
use Rattle.std.specs.Prelude.{ℕ, Bool, false, not, ◌&&◌, ◌||◌, eqb}
use Rattle.relay.specs.Answers.{leverThere, lDown, rlDown, leverReversed, anDown, kpgDown, rlUp, nothingUnderWay, sectionFree, signalUnderWay, anUp, noDevice, buttonJammed, buttonFree}
use Rattle.relay.specs.Choice.{pick}
use Rattle.relay.specs.Kinds.{origin, terminus, is_short, ordinary, has_signal_pedal, has_passage_pedal, has_garage_release, blocks_at_pedal}
use Rattle.relay.specs.Posts.{form, word_to, more_a, more_x, more_y, more_v, more_g, more_r, more_q, more_e, more_c}
use Rattle.relay.specs.Relays.{An, KPg, L, RL, lever, signal, W314, W241, jam, up, down, raise, lower}
use Rattle.relay.specs.declared.Post.{Post}
use Rattle.relay.specs.declared.Pair.{Pair}

-- the post named and its neighbour, as an event leaves them
abbrev pub pair : Post → Post → Pair
pair p o = record { here = p; other = o }

-- 1. Reverse the lever: 'Refused 7 if already reversed, then 8 if L is down (8 not at the terminus).' k is the ordinary form of the kind, w the word
unfoldable pub reverse_refusal : ℕ → ℕ → ℕ
reverse_refusal k w = pick (up lever w) leverThere (pick (not (eqb k terminus) && down L w) lDown 0)

-- 'signal opens'
unfoldable pub reversed : Post → Post
reversed p = word_to (raise signal (raise lever p.word)) p

-- 2. Lever to normal: 'Refused 7 if already normal.'
unfoldable pub normal_refusal : ℕ → ℕ
normal_refusal w = pick (down lever w) leverThere 0

-- 'signal closes'
unfoldable pub normal : Post → Post
normal p = word_to (lower signal (lower lever p.word)) p

-- 3. Passage pedal: 'if An is up', at a kind k with the word w; 02, item 5, at a short post: 'event 3 asks only that KPg be down'
abbrev pub may_record : ℕ → ℕ → Bool
may_record k w = is_short k || up An w

-- 'if An is up and KPg down, KPg rises and q grows by 1. Otherwise taken with no effect.'
unfoldable pub passed : Post → Post
passed p = pick (may_record p.kind p.word && down KPg p.word) (more_q (word_to (raise KPg p.word) p)) p

-- 4. Signal pedal: 'if the lever is reversed, the signal closes, and at kinds 0 and 2 L drops. With a normal lever, taken with no effect.'
unfoldable pub struck : Post → Post
struck p =
    pick (up lever p.word)
    (pick (blocks_at_pedal (form p))
    (word_to (lower L (lower signal p.word)) p)
    (word_to (lower signal p.word) p))
    p

-- 5. Announce: 'refused 9 if RL is down (house), then 10 if the lever is reversed.'
unfoldable pub announce_refusal : ℕ → ℕ
announce_refusal w = pick (down RL w) rlDown (pick (up lever w) leverReversed 0)

-- 'RL and L drop, W314 rises, a grows by 1.'
unfoldable pub announced : Post → Post
announced p = more_a (word_to (raise W314 (lower L (lower RL p.word))) p)

-- 6 and 7: 'refused 11 if An is down, then 12 if KPg is down', then as rest says
abbrev pub unless_passed : ℕ → ℕ → ℕ
unless_passed w rest = pick (down An w) anDown (pick (down KPg w) kpgDown rest)

-- 6. Release: 'refused 11 if An is down, then 12 if KPg is down, then 13 if RL is up (kinds 2, 3, 4) or 10 if the lever is reversed (kind 1).'
unfoldable pub release_refusal : ℕ → ℕ → ℕ
release_refusal k w =
    unless_passed w (pick (eqb k terminus) (pick (up lever w) leverReversed 0) (pick (up RL w) rlUp 0))

-- 7. Garage release: 'refused 11, then 12, as above and on nothing else.'
unfoldable pub garage_refusal : ℕ → ℕ
garage_refusal w = unless_passed w 0

-- 'An and KPg drop, e grows by 1', at the post named
unfoldable pub released : Post → Post
released p = more_e (word_to (lower KPg (lower An p.word)) p)

-- 'As 6, and c grows by 1.'
unfoldable pub garaged : Post → Post
garaged p = more_c (released p)

-- 'W241 of the section upstream rises'
unfoldable pub release_under_way : Post → Post
release_under_way o = word_to (raise W241 o.word) o

-- 8 and 9: 'refused 14 if nothing is under way'
unfoldable pub under_way_refusal : ℕ → ℕ
under_way_refusal w = pick (down W314 w && down W241 w) nothingUnderWay 0

-- 8. Arrival: 'W314: it drops, An downstream rises, r grows by 1. W241: it drops, L and RL rise, v grows by 1.'
-- 02, item 2: 'An announcement arriving at a jammed post clears from the circuit and is counted in x; An stays down.'
unfoldable pub arrived : Post → Post → Pair
arrived p o =
    pick (up W314 p.word)
    (pick (up jam o.word)
    (pair (more_x (word_to (lower W314 p.word) p)) o)
    (pair (word_to (lower W314 p.word) p) (more_r (word_to (raise An o.word) o))))
    (pair (more_v (word_to (raise RL (raise L (lower W241 p.word))) p)) o)

-- 9. Loss (house): 'The signal under way drops; x or y grows by 1.'
unfoldable pub lost : Post → Post
lost p =
    pick (up W314 p.word)
    (more_x (word_to (lower W314 p.word) p))
    (more_y (word_to (lower W241 p.word) p))

-- 10. Restoration by the supervisor (house): 'refused 15 if RL is up, 16 if a signal is under way, 17 if An downstream is up.' w is the word upstream, z the word downstream
unfoldable pub restore_refusal : ℕ → ℕ → ℕ
restore_refusal w z =
    pick (up RL w) sectionFree (pick (up W314 w || up W241 w) signalUnderWay (pick (up An z) anUp 0))

-- 'L and RL rise, g grows by 1.'
unfoldable pub restored : Post → Post
restored p = more_g (word_to (raise RL (raise L p.word)) p)

-- 02, item 2, 'event 11 (the button jams)': the jam rises, and nothing else moves
unfoldable pub jammed : Post → Post
jammed p = word_to (raise jam p.word) p

-- 'and event 12 (it is freed)': it drops
unfoldable pub freed : Post → Post
freed p = word_to (lower jam p.word) p

-- ---- by the event's number n
-- 6: this kind of post lacks the device
unfoldable pub lacks : ℕ → ℕ → Bool
lacks n k =
    pick (eqb n 3) (not (has_passage_pedal k))
    (pick (eqb n 4) (not (has_signal_pedal k))
    (pick (eqb n 5) (eqb k terminus)
    (pick (eqb n 6) (eqb k origin)
    (pick (eqb n 7) (not (has_garage_release k))
    (pick (eqb n 11 || eqb n 12) (eqb k origin) false)))))

-- 22: 'for events 6, 7 and 11 at a jammed post'
unfoldable pub jam_hinders : ℕ → ℕ → Bool
jam_hinders n w = (eqb n 6 || eqb n 7 || eqb n 11) && up jam w

-- 23: 'for 12 at a free one'
unfoldable pub nothing_to_free : ℕ → ℕ → Bool
nothing_to_free n w = eqb n 12 && down jam w

-- the event's own list: k is the ordinary form of the kind, w the word of the post named, z its neighbour's word
unfoldable pub own_refusal : ℕ → ℕ → ℕ → ℕ → ℕ
own_refusal n k w z =
    pick (eqb n 1) (reverse_refusal k w)
    (pick (eqb n 2) (normal_refusal w)
    (pick (eqb n 5) (announce_refusal w)
    (pick (eqb n 6) (release_refusal k w)
    (pick (eqb n 7) (garage_refusal w)
    (pick (eqb n 8 || eqb n 9) (under_way_refusal w)
    (pick (eqb n 10) (restore_refusal w z) 0))))))

-- 6, then 22 and 23, 'both right after 6', then the event's own list, at a post of kind k; 02, item 5: 'as those of the ordinary kind'
unfoldable pub refusal : ℕ → ℕ → ℕ → ℕ → ℕ
refusal n k w z =
    pick (lacks n (ordinary k)) noDevice
    (pick (jam_hinders n w) buttonJammed (pick (nothing_to_free n w) buttonFree (own_refusal n (ordinary k) w z)))

-- what the event, taken, makes of the two posts
unfoldable pub changed : ℕ → Post → Post → Pair
changed n p o =
    pick (eqb n 1) (pair (reversed p) o)
    (pick (eqb n 2) (pair (normal p) o)
    (pick (eqb n 3) (pair (passed p) o)
    (pick (eqb n 4) (pair (struck p) o)
    (pick (eqb n 5) (pair (announced p) o)
    (pick (eqb n 6) (pair (released p) (release_under_way o))
    (pick (eqb n 7) (pair (garaged p) (release_under_way o))
    (pick (eqb n 8) (arrived p o)
    (pick (eqb n 9) (pair (lost p) o)
    (pick (eqb n 10) (pair (restored p) o)
    (pick (eqb n 11) (pair (jammed p) o) (pick (eqb n 12) (pair (freed p) o) (pair p o))))))))))))
