-- Document 01, "Room watching at B", for the whole recorder: the rooms of the priorities, what arrives in them and what is taken.
use Rattle.std.specs.Prelude.{ℕ, not, List, [], ◌∷◌, Result, Ok, Err, get_or, set, ltb, eqb}
use Rattle.ground.specs.Pick.{pick}
use Rattle.ground.specs.Eight.{eight}
use Rattle.ground.specs.First.{Condition, ◌gives◌, first_of}
use Rattle.refusals.specs.declared.Refusal.{Refusal}
use Rattle.marks.specs.Marks.{fresh_marks, wanted_at, with_mark}
use Rattle.marks.specs.declared.Marks.{Marks}
use Rattle.rooms.specs.Room.{limits_for, arrived_in, taken_from, empty_room, room_in, numbers_of}
use Rattle.rooms.specs.declared.Room.{Room}
use Rattle.rooms.specs.declared.Limits.{Limits}
use Rattle.settings.specs.Settings.{is_enabled, room_of}
use Rattle.recorder.specs.declared.Watch.{Watch}

-- station B: the numbers of each priority's room, and its marks
pub record Recorder : Type 0 where
  pub rooms : List (List ℕ)
  pub marks : Marks

-- as the code holds it: the rooms lent, the marks by value
abbrev pub recorder_of : List (List ℕ) → Marks → Recorder
recorder_of rooms marks = record { rooms = rooms; marks = marks }

-- "buffers empty"; nothing wanted, no PFC frame due or started
abbrev pub fresh : Recorder
fresh = recorder_of (eight (λ n. numbers_of empty_room)) fresh_marks

-- the room of a priority, with what it holds
abbrev pub room_at : Recorder → ℕ → Room
room_at r priority = room_in (get_or r.rooms priority []) (wanted_at r.marks priority)

-- the limits of a priority's room by the settings and the headroom that they carry
unfoldable pub limits_of : Watch → ℕ → Limits
limits_of w priority = limits_for (room_of w.settings.rooms priority) w.kept.headroom.0 w.settings.largest w.settings.hysteresis

-- the recorder once the room of a priority is as given
unfoldable pub with_room : Recorder → ℕ → Room → ℕ → Recorder
with_room r priority room clock =
    recorder_of (set r.rooms priority (numbers_of room)) (with_mark r.marks priority room.wanted clock)

-- a frame arrives where the enabled octet and the limits of its priority's room are these; "Frames of priorities not enabled arrive
-- without being held or counted."
unfoldable pub arrived_with : ℕ → Limits → Recorder → ℕ → ℕ → ℕ → Recorder
arrived_with enabled limits r priority length clock =
    pick (is_enabled enabled priority) (with_room r priority (arrived_in limits (room_at r priority) length) clock) r

unfoldable pub arrived_at : Watch → Recorder → ℕ → ℕ → ℕ → Recorder
arrived_at w r priority length clock = arrived_with w.settings.enabled (limits_of w priority) r priority length clock

-- 32 "priority above 7", 43 "priority not enabled", 42 "more than is held", in this order; 0: none of them
abbrev pub taking_order : ℕ → Recorder → ℕ → ℕ → List Condition
taking_order enabled r priority octets =
    ltb 7 priority gives 32 ∷ not (is_enabled enabled priority) gives 43 ∷ ltb (room_at r priority).held octets gives 42 ∷ []

unfoldable pub refusal_with : ℕ → Recorder → ℕ → ℕ → ℕ
refusal_with enabled r priority octets = first_of (taking_order enabled r priority octets)

unfoldable pub taking_refusal : Watch → Recorder → ℕ → ℕ → ℕ
taking_refusal w r priority octets = refusal_with w.settings.enabled r priority octets

-- the disk takes octets
unfoldable pub taken_with : Limits → Recorder → ℕ → ℕ → ℕ → Recorder
taken_with limits r priority octets clock = with_room r priority (taken_from limits (room_at r priority) octets) clock

unfoldable pub taken_at : Watch → Recorder → ℕ → ℕ → ℕ → Recorder
taken_at w r priority octets clock = taken_with (limits_of w priority) r priority octets clock

-- the recorder after a taking; a refusal leaves it as it was
unfoldable pub leaves_with : ℕ → Limits → Recorder → ℕ → ℕ → ℕ → Recorder
leaves_with enabled limits r priority octets clock =
    pick (eqb (refusal_with enabled r priority octets) 0) (taken_with limits r priority octets clock) r

unfoldable pub taking_leaves : Watch → Recorder → ℕ → ℕ → ℕ → Recorder
taking_leaves w r priority octets clock = leaves_with w.settings.enabled (limits_of w priority) r priority octets clock

-- the marks that a taking answers, or those before it where it is refused
abbrev pub marks_or : Result Marks Refusal → Marks → Marks
marks_or (Ok marks) before = marks
marks_or (Err refusal) before = before
