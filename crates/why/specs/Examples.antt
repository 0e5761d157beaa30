-- Questions with their answers: on four sheets of one track that are worked, on one with an answer that working does not give, and on one of two tracks. 02, items 1 and 7.
-- That these are the answers stands in proofs/Paper.antt.
-- Assumes nothing.
use Rattle.std.specs.Prelude.{ℕ, List, [], ◌∷◌}
use Rattle.relay.specs.Examples.{listing_kinds, listing, case_kinds}
use Rattle.sheet.specs.Entry.{entry}
use Rattle.sheet.specs.Layout.{two_tracks}
use Rattle.sheet.specs.Sheet.{Tracked, of_one}
use Rattle.working.specs.Examples.{as_listed}
use Rattle.why.specs.Why.{no_such_refusal, since, since_in}
use Rattle.why.specs.declared.Since.{Since}

-- the answers to the questions of a sheet at these positions
abbrev pub answers : Tracked → List ℕ → List Since
answers t [] = []
answers t (k ∷ ks) = since_in t k ∷ answers t ks

-- a table of one track and events with their answers; start stamp and all stamps 0
abbrev pub sheet : List ℕ → List (List ℕ) → Tracked
sheet ks es = of_one (record { stamp = 0; kinds = ks; events = es })

-- an event, its post and its answer
abbrev pub ev : ℕ → ℕ → ℕ → List ℕ
ev number post answer = entry number post answer 0

-- ---- 'the paper's listing': event 5 (8) since 2, event 13 (8) since 2; event 2 was taken, event 9 has a 12
abbrev pub paper_sheet : Tracked
paper_sheet = sheet listing_kinds (as_listed listing)

abbrev pub paper_asked : List ℕ
paper_asked = 5 ∷ 13 ∷ 2 ∷ 9 ∷ 0 ∷ 15 ∷ 16 ∷ []

abbrev pub paper_since : List Since
paper_since =
    since 0 0 2
    ∷ since 0 0 2
    ∷ since no_such_refusal 0 0
    ∷ since no_such_refusal 0 0
    ∷ since no_such_refusal 0 0
    ∷ since no_such_refusal 0 0
    ∷ since no_such_refusal 0 0
    ∷ []

-- ---- case 11 of the table marked P: the onward section was never announced, so RL is up from the start
abbrev pub case_sheet : Tracked
case_sheet = sheet case_kinds (ev 5 0 0 ∷ ev 8 0 0 ∷ ev 3 1 0 ∷ ev 6 1 13 ∷ [])

abbrev pub case_since : List Since
case_since = since 0 0 0 ∷ []

-- ---- one section: the strike (2) drops L, the announcement (4) drops RL and finds L down; the release is received (10); then L drops by an announcement (11)
abbrev pub short_sheet : Tracked
short_sheet =
    sheet listing_kinds
    (ev 1 0 0
    ∷ ev 4 0 0
    ∷ ev 2 0 0
    ∷ ev 5 0 0
    ∷ ev 5 0 9
    ∷ ev 1 0 8
    ∷ ev 8 0 0
    ∷ ev 3 1 0
    ∷ ev 6 1 0
    ∷ ev 8 0 0
    ∷ ev 5 0 0
    ∷ ev 5 0 9
    ∷ ev 1 0 8
    ∷ [])

abbrev pub short_asked : List ℕ
short_asked = 5 ∷ 6 ∷ 12 ∷ 13 ∷ []

-- 9 since the announcement, 8 since the strike; later both since the announcement
abbrev pub short_since : List Since
short_since = since 0 0 4 ∷ since 0 0 2 ∷ since 0 0 11 ∷ since 0 0 11 ∷ []

-- ---- a post between: RL of post 1 is up from the start (4), dropped by its announcement (5) and raised by the release received (11);
-- dropped again (16) and raised by a restoration (18)
abbrev pub long_sheet : Tracked
long_sheet =
    sheet case_kinds
    (ev 5 0 0
    ∷ ev 8 0 0
    ∷ ev 3 1 0
    ∷ ev 6 1 13
    ∷ ev 5 1 0
    ∷ ev 6 1 0
    ∷ ev 8 0 0
    ∷ ev 8 1 0
    ∷ ev 3 2 0
    ∷ ev 6 2 0
    ∷ ev 8 1 0
    ∷ ev 5 0 0
    ∷ ev 8 0 0
    ∷ ev 3 1 0
    ∷ ev 6 1 13
    ∷ ev 5 1 0
    ∷ ev 9 1 0
    ∷ ev 10 1 0
    ∷ ev 6 1 13
    ∷ [])

abbrev pub long_asked : List ℕ
long_asked = 4 ∷ 15 ∷ 19 ∷ []

abbrev pub long_since : List Since
long_since = since 0 0 0 ∷ since 0 0 11 ∷ since 0 0 18 ∷ []

-- ---- one answer that working does not give, after the chosen event
abbrev pub altered_sheet : Tracked
altered_sheet = sheet case_kinds (ev 5 0 0 ∷ ev 8 0 0 ∷ ev 3 1 0 ∷ ev 6 1 13 ∷ ev 5 1 9 ∷ [])

abbrev pub altered_since : List Since
altered_since = since no_such_refusal 0 0 ∷ []

-- ---- two tracks of two posts on a polarised circuit: L of post 0 drops by the announcement on track 1 (1) and by the strike on track 2 (3), and each track is told of its own (5, 6);
-- the announcement on track 2 meets track 1's signal (8) and then not (10)
abbrev pub two_sheet : Tracked
two_sheet =
    record {
      form = two_tracks;
      stamp = 0;
      table = 0 ∷ 1 ∷ 0 ∷ 1 ∷ 0 ∷ [];
      events =
          ev 5 0 0
          ∷ ev 1 0 0
          ∷ ev 4 0 0
          ∷ ev 2 0 0
          ∷ ev 1 0 8
          ∷ ev 1 0 8
          ∷ ev 5 0 9
          ∷ ev 5 0 25
          ∷ ev 8 0 0
          ∷ ev 5 0 0
          ∷ ev 5 0 9
          ∷ [];
      tracks = 0 ∷ 1 ∷ 1 ∷ 1 ∷ 1 ∷ 0 ∷ 0 ∷ 1 ∷ 0 ∷ 1 ∷ 1 ∷ [];
    }

abbrev pub two_asked : List ℕ
two_asked = 5 ∷ 6 ∷ 7 ∷ 8 ∷ 11 ∷ []

abbrev pub two_since : List Since
two_since = since 0 0 3 ∷ since 0 0 1 ∷ since 0 0 1 ∷ since no_such_refusal 0 0 ∷ since 0 0 10 ∷ []
