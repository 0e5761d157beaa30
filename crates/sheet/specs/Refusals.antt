-- The number, the block and the position that each refusal of a sheet stands for, and what an outcome of testing, reading or writing returns in numbers.
-- Assumes nothing.
use Rattle.std.specs.Prelude.{ℕ, List, Result, Ok, Err}
use Rattle.relay.specs.Answers.{notValid}
use Rattle.sheet.specs.Layout.{length_wrong, check_wrong, contents_wrong, room_short, upper_bits}
use Rattle.sheet.specs.Check.{word}
use Rattle.sheet.specs.Reading.{form_in, entries_in, verdict_at, verdict, refused, refused_tracks}
use Rattle.sheet.specs.declared.Verdict.{Verdict}
use Rattle.sheet.specs.declared.Header.{Header}
use Rattle.sheet.specs.declared.Found.{Found}
use Rattle.sheet.specs.declared.FoundTracks.{FoundTracks}
use Rattle.sheet.specs.declared.refusal.Refusal.{Refusal}
use Rattle.sheet.specs.declared.refusal.Refusal.TheVariants.{NotValid, Length, Check, Contents, RoomShort, UpperBits}

-- the number of a refusal
abbrev pub number_of_refusal : Refusal → ℕ
number_of_refusal NotValid = notValid
number_of_refusal Length = length_wrong
number_of_refusal (Check _) = check_wrong
number_of_refusal (Contents _) = contents_wrong
number_of_refusal RoomShort = room_short
number_of_refusal (UpperBits _ _) = upper_bits

-- its number, its block and the event's position in it
abbrev pub verdict_of_refusal : Refusal → Verdict
verdict_of_refusal NotValid = verdict notValid 0
verdict_of_refusal Length = verdict length_wrong 0
verdict_of_refusal (Check block) = verdict check_wrong block
verdict_of_refusal (Contents block) = verdict contents_wrong block
verdict_of_refusal RoomShort = verdict room_short 0
verdict_of_refusal (UpperBits block position) = verdict_at upper_bits block position

-- what an outcome returns: that of its refusal, or zeros
abbrev pub verdict_code : {T : Type 0} → Result T Refusal → Verdict
verdict_code (Ok _) = verdict 0 0
verdict_code (Err refusal) = verdict_of_refusal refusal

-- and as a number alone
abbrev pub refusal_code : {T : Type 0} → Result T Refusal → ℕ
refusal_code (Ok _) = 0
refusal_code (Err refusal) = number_of_refusal refusal

-- what a good sheet says beside its table and its events
abbrev pub header_in : List ℕ → Header
header_in s = record { tracks = form_in s; posts = word s 0 1; stamp = word s 0 2; events = entries_in s }

-- what reading a sheet of one track returns
abbrev pub found_of : Result Header Refusal → Found
found_of (Ok header) =
    record { number = 0; block = 0; position = 0; posts = header.posts; stamp = header.stamp; events = header.events }
found_of (Err refusal) = refused (verdict_of_refusal refusal)

-- and one of either form
abbrev pub found_tracks_of : Result Header Refusal → FoundTracks
found_tracks_of (Ok header) =
    record {
      number = 0;
      block = 0;
      position = 0;
      tracks = header.tracks;
      posts = header.posts;
      stamp = header.stamp;
      events = header.events;
    }
found_tracks_of (Err refusal) = refused_tracks (verdict_of_refusal refusal)
