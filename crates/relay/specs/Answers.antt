-- The numbers returned. 01, 'Numbers returned' and 'Events', and 02, item 2. Numbers 18 to 21 are the sheet's.
-- Assumes nothing.
use Rattle.std.specs.Prelude.{ℕ}

abbrev pub taken : ℕ
taken = 0

abbrev pub notValid : ℕ
notValid = 1

abbrev pub noSuchPlace : ℕ
noSuchPlace = 2

abbrev pub noSuchEvent : ℕ
noSuchEvent = 3

abbrev pub stampBehind : ℕ
stampBehind = 4

abbrev pub sessionFull : ℕ
sessionFull = 5

abbrev pub noDevice : ℕ
noDevice = 6

abbrev pub leverThere : ℕ
leverThere = 7

abbrev pub lDown : ℕ
lDown = 8

abbrev pub rlDown : ℕ
rlDown = 9

abbrev pub leverReversed : ℕ
leverReversed = 10

abbrev pub anDown : ℕ
anDown = 11

abbrev pub kpgDown : ℕ
kpgDown = 12

abbrev pub rlUp : ℕ
rlUp = 13

abbrev pub nothingUnderWay : ℕ
nothingUnderWay = 14

abbrev pub sectionFree : ℕ
sectionFree = 15

abbrev pub signalUnderWay : ℕ
signalUnderWay = 16

abbrev pub anUp : ℕ
anUp = 17

abbrev pub buttonJammed : ℕ
buttonJammed = 22

abbrev pub buttonFree : ℕ
buttonFree = 23
