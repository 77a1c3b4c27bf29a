-- How a room is put back with its mark, and what a taking answers once its tests are known. Assumes nothing.
use Prim.Native.Nat.{ℕ}
use mathlib.Core.Path.{◌≡◌, sym, ap, ◌∙◌}
use mathlib.Core.Bool.{Bool, true, false}
use mathlib.Core.List.{List}
use lib.Dec.{ltb}
use Rattle.std.specs.Prelude.{Result, Ok, Err}
use lib.ListN.{set}
use Rattle.ground.specs.First.{first_of}
use Rattle.ground.specs.Pick.{pick}
use Rattle.refusals.specs.Refusals.{number_of, refused_or, numbered_in}
use Rattle.refusals.specs.declared.Refusal.{Refusal}
use Rattle.refusals.specs.declared.Refusal.TheVariants.{PriorityAbove, NotHeld, NotEnabled}
use Rattle.settings.specs.Settings.{is_enabled}
use Rattle.marks.specs.Marks.{with_mark}
use Rattle.marks.specs.declared.Marks.{Marks}
use Rattle.rooms.specs.Room.{numbers_of}
use Rattle.rooms.specs.declared.Limits.{Limits}
use Rattle.rooms.specs.declared.Room.{Room}
use Rattle.recorder.specs.Watching.{Recorder, recorder_of, room_at, with_room, refusal_with, taken_with, leaves_with, marks_or}

-- a priority's room is read, changed, and put back with its mark
pub room_put : (r : Recorder) (priority clock : ℕ) (after : Room → Room) {was room : Room} {numbers : List ℕ} {marks : Marks} →
    was ≡ room_at r priority → room ≡ after was → numbers ≡ numbers_of room → marks ≡ with_mark r.marks priority room.wanted clock →
    recorder_of (set r.rooms priority numbers) marks ≡ with_room r priority (after (room_at r priority)) clock
unfolding with_room
room_put r priority clock after {room = room} is_was is_room is_numbers is_marks =
    let is : room ≡ after (room_at r priority) = is_room ∙ ap after is_was in
    let rooms = is_numbers ∙ ap (λ (x : Room). numbers_of x) is in
    let marked = is_marks ∙ ap (λ (x : Room). with_mark r.marks priority x.wanted clock) is in
    λ i. recorder_of (set r.rooms priority (rooms i)) (marked i)

-- 32, 43 and 42 in their order, and no refusal, by the values of their tests
module _ (enabled : ℕ) (limits : Limits) (r : Recorder) (priority octets clock : ℕ) where
  -- a taking's three promises, of its answer and of what it leaves
  abbrev Answers : Result Marks Refusal → List (List ℕ) → Type 0
  Answers answer rooms =
      (number_of answer ≡ refusal_with enabled r priority octets) ×
      (answer ≡ refused_or (refusal_with enabled r priority octets) (marks_or answer r.marks)) ×
      (recorder_of rooms (marks_or answer r.marks) ≡ leaves_with enabled limits r priority octets clock)

  pub taking_32 : ltb 7 priority ≡ true → Answers (Err PriorityAbove) r.rooms
  unfolding pick refusal_with leaves_with first_of refused_or numbered_in
  taking_32 e32 = (simp e32, simp e32, simp e32)

  pub taking_43 : ltb 7 priority ≡ false → is_enabled enabled priority ≡ false → Answers (Err NotEnabled) r.rooms
  unfolding pick refusal_with leaves_with first_of refused_or numbered_in
  taking_43 e32 e43 = (simp (e32, e43), simp (e32, e43), simp (e32, e43))

  -- 42 by the room as it was read
  held_as : {was : Room} {told : Bool} → was ≡ room_at r priority → ltb was.held octets ≡ told → ltb (room_at r priority).held octets ≡ told
  held_as is told = ap (λ (x : Room). ltb x.held octets) (sym is) ∙ told

  pub taking_42 : {was : Room} → ltb 7 priority ≡ false → is_enabled enabled priority ≡ true → was ≡ room_at r priority →
      ltb was.held octets ≡ true → Answers (Err NotHeld) r.rooms
  unfolding pick refusal_with leaves_with first_of refused_or numbered_in
  taking_42 e32 e43 is e42 =
      let held = held_as is e42 in (simp (e32, e43, held), simp (e32, e43, held), simp (e32, e43, held))

  pub taking_0 : {was : Room} {rooms : List (List ℕ)} {marks : Marks} → ltb 7 priority ≡ false → is_enabled enabled priority ≡ true →
      was ≡ room_at r priority → ltb was.held octets ≡ false → recorder_of rooms marks ≡ taken_with limits r priority octets clock →
      Answers (Ok marks) rooms
  unfolding pick refusal_with leaves_with first_of refused_or numbered_in
  taking_0 e32 e43 is e42 done =
      let held = held_as is e42 in (simp (e32, e43, held), simp (e32, e43, held), done ∙ simp (e32, e43, held))
