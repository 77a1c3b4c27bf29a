-- The rooms of a recorder in which one room changed: that room is the one put, every other is as before. With accepted settings the marks
-- are cut off nowhere. Each law assumes what it states.
use Prim.Native.Nat.{ℕ, ◌<◌}
use mathlib.Core.Path.{◌≡◌, refl, sym, ap, ◌∙◌, subst}
use mathlib.Core.Bool.{Bool, true, false}
use mathlib.Core.List.{[]}
use native.Mathlib.Omega.{arith}
use borrow.Author.Tests.{eqb-true, eqb-false}
use lib.Dec.{eqb}
use lib.ListN.{length, length-set}
use lib.Seq.{get_or-set_same, get_or-set_other}
use Rattle.ground.specs.Pick.{pick}
use Rattle.ground.proofs.Eight.{get_d_eight}
use Rattle.marks.specs.Marks.{with_mark}
use Rattle.rooms.specs.Room.{empty_room, room_in, numbers_of}
use Rattle.rooms.specs.RoomRun.{Marked}
use Rattle.rooms.specs.declared.Limits.{Limits}
use Rattle.rooms.specs.declared.Room.{Room}
use Rattle.room_to_keep.specs.declared.Kept.{Kept}
use Rattle.settings.specs.Settings.{headroom_of, settings_refusal}
use Rattle.settings.proofs.Settled.{kept_for}
use Rattle.settings.proofs.SettingsLaws.{accepted_facts}
use Rattle.recorder.specs.Watching.{Recorder, fresh, room_at, limits_of, with_room, arrived_with, taken_with, leaves_with}
use Rattle.recorder.specs.declared.Watch.{Watch}

-- a room and a mark for each of the eight priorities
pub record EightRooms (r : Recorder) : Type 0 where
  pub rooms : length r.rooms ≡ 8
  pub wanted : length r.marks.wanted ≡ 8

pub eight_fresh : EightRooms fresh
eight_fresh = record { rooms = refl; wanted = refl }

module _ (r : Recorder) (priority : ℕ) (room : Room) (clock : ℕ) where
  pub eight_put : EightRooms r → EightRooms (with_room r priority room clock)
  unfolding with_room with_mark
  eight_put all = record { rooms = length-set r.rooms priority _ ∙ all.rooms; wanted = length-set r.marks.wanted priority _ ∙ all.wanted }

  -- the room put
  pub room_put_at : EightRooms r → priority < 8 → room_at (with_room r priority room clock) priority ≡ room
  unfolding with_room with_mark
  room_put_at all below =
      let numbers = get_or-set_same r.rooms priority (numbers_of room) [] (omega (arith, all.rooms, below)) in
      let marked = get_or-set_same r.marks.wanted priority room.wanted false (omega (arith, all.wanted, below)) in
      λ i. room_in (numbers i) (marked i)

  -- every other room
  pub room_kept_at : (other : ℕ) → (other ≡ priority → ⊥) → room_at (with_room r priority room clock) other ≡ room_at r other
  unfolding with_room with_mark
  room_kept_at other apart =
      let numbers = get_or-set_other r.rooms priority other (numbers_of room) [] apart in
      let marked = get_or-set_other r.marks.wanted priority other room.wanted false apart in
      λ i. room_in (numbers i) (marked i)

-- an arrival and a taking keep the eight
either : (test : Bool) {one other : Recorder} → EightRooms one → EightRooms other → EightRooms (pick test one other)
unfolding pick
either true one other = one
either false one other = other

pub eight_arrived : (enabled : ℕ) (limits : Limits) (r : Recorder) (priority length clock : ℕ) → EightRooms r →
    EightRooms (arrived_with enabled limits r priority length clock)
unfolding arrived_with
eight_arrived enabled limits r priority length clock all = either _ (eight_put r priority _ clock all) all

pub eight_left : (enabled : ℕ) (limits : Limits) (r : Recorder) (priority octets clock : ℕ) → EightRooms r →
    EightRooms (leaves_with enabled limits r priority octets clock)
unfolding leaves_with taken_with
eight_left enabled limits r priority octets clock all = either _ (eight_put r priority _ clock all) all

-- the marks of a watch whose sums are its settings' own: nothing is cut off
pub marks_whole : (w : Watch) (priority : ℕ) → w.kept ≡ kept_for w.settings → settings_refusal w.settings ≡ 0 →
    Marked (headroom_of w.settings) w.settings.largest w.settings.hysteresis (limits_of w priority)
unfolding limits_of
marks_whole w priority own accepted =
    let ok = accepted_facts w.settings accepted in
    let headroom : w.kept.headroom.0 ≡ headroom_of w.settings = ap (λ (k : Kept). k.headroom.0) own in
    record {
      mark = omega (arith, headroom, ok.largest_most, ok.generation_most, ok.request_most, ok.data_most);
      resume = omega (arith, headroom, ok.largest_most, ok.generation_most, ok.request_most, ok.data_most, ok.hysteresis_most);
    }

-- "buffers empty"
pub fresh_room : (p : ℕ) → p < 8 → room_at fresh p ≡ empty_room
fresh_room p below = λ i. room_in (get_d_eight (λ n. numbers_of empty_room) [] p below i) (get_d_eight (λ n. false) false p below i)

-- what holds of the room put, if p is its priority, and of the room before, if it is not, holds of the room of p
pub room_then : (r : Recorder) (priority : ℕ) (room : Room) (clock : ℕ) → EightRooms r → (P : Room → Type 0) (p : ℕ) → p < 8 →
    (p ≡ priority → P room) → ((p ≡ priority → ⊥) → P (room_at r p)) → P (room_at (with_room r priority room clock) p)
room_then r priority room clock all P p below own other = go (eqb p priority) refl
  where
    go : (b : Bool) → eqb p priority ≡ b → P (room_at (with_room r priority room clock) p)
    go true e =
        let same : p ≡ priority = eqb-true p priority e in
        subst (λ (k : ℕ). P (room_at (with_room r priority room clock) k)) (sym same)
        (subst P (sym (room_put_at r priority room clock all (omega arith))) (own same))
    go false e = let apart = eqb-false p priority e in subst P (sym (room_kept_at r priority room clock p apart)) (other apart)
