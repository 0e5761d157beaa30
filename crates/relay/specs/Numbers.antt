-- The number of each refusal, event and form: what is stored and returned stays a number, and these say which one each stands for.
-- Assumes nothing.
use Rattle.std.specs.Prelude.{ℕ, Bool, ◌&&◌, ◌||◌, eqb, leb, Result, Ok, Err}
use Rattle.relay.specs.Answers.{taken, notValid, noSuchPlace, noSuchEvent, stampBehind, sessionFull, noDevice, leverThere, lDown, rlDown, leverReversed, anDown, kpgDown, rlUp, nothingUnderWay, sectionFree, signalUnderWay, anUp, buttonJammed, buttonFree}
use Rattle.relay.specs.Kinds.{origin, terminus, pedal_station, announcement_station, intermediate}
use Rattle.relay.specs.declared.event.Event.{Event}
use Rattle.relay.specs.declared.event.Event.TheVariants.{Reverse, Normal, Pass, Strike, Announce, Release, Garage, Arrive, Lose, Restore, Jam, Free}
use Rattle.relay.specs.declared.form.Form.{Form}
use Rattle.relay.specs.declared.form.Form.TheVariants.{Origin, Terminus, PedalStation, AnnouncementStation, Intermediate}
use Rattle.relay.specs.declared.refusal.Refusal.{Refusal}
use Rattle.relay.specs.declared.refusal.Refusal.TheVariants.{NotValid, NoSuchPlace, NoSuchEvent, StampBehind, SessionFull, NoDevice, LeverThere, LDown, RlDown, LeverReversed, AnDown, KpgDown, RlUp, NothingUnderWay, SectionFree, SignalUnderWay, AnUp, ButtonJammed, ButtonFree}

-- the number of a refusal
abbrev pub number_of_refusal : Refusal → ℕ
number_of_refusal NotValid = notValid
number_of_refusal NoSuchPlace = noSuchPlace
number_of_refusal NoSuchEvent = noSuchEvent
number_of_refusal StampBehind = stampBehind
number_of_refusal SessionFull = sessionFull
number_of_refusal NoDevice = noDevice
number_of_refusal LeverThere = leverThere
number_of_refusal LDown = lDown
number_of_refusal RlDown = rlDown
number_of_refusal LeverReversed = leverReversed
number_of_refusal AnDown = anDown
number_of_refusal KpgDown = kpgDown
number_of_refusal RlUp = rlUp
number_of_refusal NothingUnderWay = nothingUnderWay
number_of_refusal SectionFree = sectionFree
number_of_refusal SignalUnderWay = signalUnderWay
number_of_refusal AnUp = anUp
number_of_refusal ButtonJammed = buttonJammed
number_of_refusal ButtonFree = buttonFree

-- a number of one of them: 1 to 17, 22 or 23
abbrev pub is_refusal : ℕ → Bool
is_refusal n = (leb notValid n && leb n anUp) || (eqb n buttonJammed || eqb n buttonFree)

-- the number that such an outcome returns: that of its refusal, or 'taken'
abbrev pub refusal_code : {T : Type 0} → Result T Refusal → ℕ
refusal_code (Ok _) = taken
refusal_code (Err refusal) = number_of_refusal refusal

-- the number of an event
abbrev pub number_of_event : Event → ℕ
number_of_event Reverse = 1
number_of_event Normal = 2
number_of_event Pass = 3
number_of_event Strike = 4
number_of_event Announce = 5
number_of_event Release = 6
number_of_event Garage = 7
number_of_event Arrive = 8
number_of_event Lose = 9
number_of_event Restore = 10
number_of_event Jam = 11
number_of_event Free = 12

-- the kind that an ordinary form is stored as
abbrev pub number_of_form : Form → ℕ
number_of_form Origin = origin
number_of_form Terminus = terminus
number_of_form PedalStation = pedal_station
number_of_form AnnouncementStation = announcement_station
number_of_form Intermediate = intermediate

-- how many forms there are
abbrev pub forms : ℕ
forms = 5
