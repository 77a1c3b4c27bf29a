-- Document 01, "Numbers on each side of a limit": the cases marked P that the recorder's definitions decide, a test a row.
use Rattle.std.specs.Prelude.{Bool, not, List, [], ◌∷◌, eqb}
use Rattle.room_to_keep.specs.Keep.{kept}
use Rattle.settings.specs.Cases.{settings004}
use Rattle.recorder.specs.Watching.{Recorder, fresh, room_at, arrived_at, taking_leaves}
use Rattle.recorder.specs.declared.Watch.{Watch}

-- document 004's example watched, with rooms of 17,779 octets
abbrev pub watch004 : Watch
watch004 = record { settings = settings004 132 56 17779; kept = kept 2000 200 49588 43444 }

-- 64 octets held of priority 3, and taken again
abbrev pub holding64 : Recorder
holding64 = arrived_at watch004 fresh 3 64 0

abbrev pub taken_again : Recorder
taken_again = taking_leaves watch004 holding64 3 64 0

abbrev pub recorder_cases : List Bool
recorder_cases =
    -- P "There, 64 octets held: wanted"
    not (room_at fresh 3).wanted
    ∷ eqb (room_at holding64 3).held 64
    ∷ (room_at holding64 3).wanted
    -- "taken again: not wanted"
    ∷ eqb (room_at taken_again 3).held 0
    ∷ not (room_at taken_again 3).wanted
    ∷ []
