-- Document 01, "Refusal numbers": the number of each refusal, and the answers that a number makes.
use Rattle.std.specs.Prelude.{ℕ, Bool, true, false, List, [], ◌∷◌, Option, None, Some, Result, Ok, Err, ◌&&◌, ◌||◌, eqb}
use Rattle.ground.specs.Pick.{pick}
use Rattle.ground.specs.First.{Condition}
use Rattle.refusals.specs.declared.Refusal.{Refusal}
use Rattle.refusals.specs.declared.Refusal.TheVariants.{FrameShort, FrameLong, OtherAddress, OtherOpcode, BufferShort, GroupSource}
use Rattle.refusals.specs.declared.Refusal.TheVariants.{Rate, Metres, Percentage, LargestFrame, Delay, RoomSmall, PauseShort, Refresh, RoomLarge, Halt}
use Rattle.refusals.specs.declared.Refusal.TheVariants.{FrontAbove, FrontMisplaced, ClassAbove, Kind, BodyShort, PriorityAbove, Length, WireBusy}
use Rattle.refusals.specs.declared.Refusal.TheVariants.{Paused, UnderWay, NoneEnded, OtherLate, NotDue, Overrun, TimeAbove, NotHeld, NotEnabled}
use Rattle.refusals.specs.declared.Refusal.TheVariants.{Settings, InputLong}

-- document 01's number of each
abbrev pub number : Refusal → ℕ
-- 1, 2: "frame shorter than 60; longer than M - 4"
number FrameShort = 1
number FrameLong = 2
-- 3, 4: "control frame for another address; opcode not 01-01"
number OtherAddress = 3
number OtherOpcode = 4
-- 5, 6: "control buffer under 60 octets; source has the group bit"
number BufferShort = 5
number GroupSource = 6
-- 10, 11, 12: "rate; metres above 100,000; percentage outside 40-100"
number Rate = 10
number Metres = 11
number Percentage = 12
-- 13: "M outside 64-9,216"
number LargestFrame = 13
-- 14: "a generation or station delay above 1,048,576 bits, a path above 134,217,728"
number Delay = 14
-- 15: "an enabled room below headroom + M + hysteresis"
number RoomSmall = 15
-- 16: "64T < I + one-way time + 64"
number PauseShort = 16
-- 17, 18: "I outside 1-4,194,304; enabled room or hysteresis above 1,073,741,824"
number Refresh = 17
number RoomLarge = 18
-- 19: "halt delay above its rate's limit"
number Halt = 19
-- 20, 21, 22: "head above 8; present head in a class its map doesn't give; map entry above 7"
number FrontAbove = 20
number FrontMisplaced = 21
number ClassAbove = 22
-- 30, 31: "kind above 07; body cut short"
number Kind = 30
number BodyShort = 31
-- 32, 33: "priority above 7; length outside 64-M"
number PriorityAbove = 32
number Length = 33
-- 34, 35: "wire busy; priority paused at A"
number WireBusy = 34
number Paused = 35
-- 36, 37: "128 under way; none whose wire time has ended"
number UnderWay = 36
number NoneEnded = 37
-- 38, 39: "other frame later than G after PFC became due; PFC not due"
number OtherLate = 38
number NotDue = 39
-- 40, 41: "a bound would be overrun; time above 2^40"
number Overrun = 40
number TimeAbove = 41
-- 42, 43: "more than is held; priority not enabled"
number NotHeld = 42
number NotEnabled = 43
-- 44, 45: "settings missing or repeated; input too long"
number Settings = 44
number InputLong = 45

-- all of them
abbrev pub refusals : List Refusal
refusals =
    FrameShort ∷ FrameLong ∷ OtherAddress ∷ OtherOpcode ∷ BufferShort ∷ GroupSource ∷ Rate ∷ Metres ∷ Percentage
    ∷ LargestFrame ∷ Delay ∷ RoomSmall ∷ PauseShort ∷ Refresh ∷ RoomLarge ∷ Halt ∷ FrontAbove ∷ FrontMisplaced
    ∷ ClassAbove ∷ Kind ∷ BodyShort ∷ PriorityAbove ∷ Length ∷ WireBusy ∷ Paused ∷ UnderWay ∷ NoneEnded
    ∷ OtherLate ∷ NotDue ∷ Overrun ∷ TimeAbove ∷ NotHeld ∷ NotEnabled ∷ Settings ∷ InputLong ∷ []

-- a number is that of one of these
abbrev pub is_listed : ℕ → List Refusal → Bool
is_listed given [] = false
is_listed given (refusal ∷ rest) = eqb given (number refusal) || is_listed given rest

-- the one of these with a number (InputLong, which is the last, where none has it: no order gives such a number)
unfoldable pub numbered_in : ℕ → List Refusal → Refusal
numbered_in given [] = InputLong
numbered_in given (refusal ∷ rest) = pick (eqb given (number refusal)) refusal (numbered_in given rest)

-- the refusal with a number
abbrev pub numbered : ℕ → Refusal
numbered given = numbered_in given refusals

-- an answer by its number: refused, or this where the number is 0
unfoldable pub refused_or : {A : Type 0} → ℕ → A → Result A Refusal
refused_or given value = pick (eqb given 0) (Ok value) (Err (numbered given))

-- document 01's number of an answer: the refusal's, or 0 where it is not refused
abbrev pub number_of : {A : Type 0} → Result A Refusal → ℕ
number_of (Ok value) = 0
number_of (Err refusal) = number refusal

-- the refusal that a number stands for; none where it is 0
unfoldable pub refusal_if : ℕ → Option Refusal
refusal_if given = pick (eqb given 0) None (Some (numbered given))

-- line 1 of a report: "refusal or 0": the number that is told of a refusal, if there is one
abbrev pub number_told : Option Refusal → ℕ
number_told None = 0
number_told (Some refusal) = number refusal

-- a number that an answer can have: 0, or that of a refusal
abbrev pub is_number : ℕ → Bool
is_number given = eqb given 0 || is_listed given refusals

-- each number of an order is one
abbrev pub are_numbers : List Condition → Bool
are_numbers [] = true
are_numbers (condition ∷ rest) = is_number condition.number && are_numbers rest
