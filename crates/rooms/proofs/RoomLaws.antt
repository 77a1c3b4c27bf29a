-- What a room keeps, for any set of priorities that shares it: a room of one priority, one shared by all, one a PAUSE timer empties,
-- one a port. A mark of headroom + M leaves the headroom whole when the crossing frame is in; what is held, dropped and taken adds up
-- to what arrived; and the marks move as document 01 says (for the span and the worst see `Moves`). For whoever shows that no frame is dropped. Each law names
-- what it assumes of the limits; the counts are those of a 64-bit number, so the sums assume less than 2^64 octets.
use Prim.Native.Nat.{ℕ, ◌+◌, ◌-◌, ◌^◌, ◌≤◌, ◌<◌}
use mathlib.Core.Path.{◌≡◌, refl, sym, ◌∙◌}
use mathlib.Core.Bool.{Bool, true, false, false≢true}
use mathlib.Core.List.{List, [], ◌∷◌}
use native.Mathlib.Omega.{arith}
use lib.Dec.{ltb, leb}
use borrow.Author.Tests.{ltb-false, lt-ltb, le-ltb, le-leb, lt-leb, leb-true}
use Rattle.ground.specs.Pick.{pick}
use Rattle.ground.proofs.Pick.{pick_yes, pick_no}
use Rattle.units.specs.Units.{within64}
use Rattle.rooms.specs.Room.{free_of, fits, held_after, dropped_after, wanted_after, arrived_in, taken_from}
use Rattle.rooms.specs.RoomRun.{Marked, NotWantedFree, HeldWithin, RoomEvent, after_event, after_run, TakesHeld, arrived_sum, taken_sum}
use Rattle.rooms.specs.RoomRun.RoomEvent.{arrival, taking}
use Rattle.rooms.specs.RoomRun.TakesHeld.{ends, arrives, takes}
use Rattle.rooms.specs.Room.{empty_room}
use Rattle.rooms.specs.declared.Room.{Room}
use Rattle.rooms.specs.declared.Limits.{Limits}

module _ (limits : Limits) (free : ℕ) (before : Bool) where
  -- "pause becomes wanted when free room < headroom + M"
  pub wanted_below_mark : free < limits.mark → wanted_after limits free before ≡ true
  unfolding wanted_after
  wanted_below_mark below = pick_yes _ _ (lt-ltb _ _ below)

  -- "it stops being wanted when free room ≥ headroom + M + hysteresis"
  pub ends_from_resume : limits.mark ≤ limits.resume → limits.resume ≤ free → wanted_after limits free before ≡ false
  unfolding wanted_after
  ends_from_resume ordered above = pick_no _ _ (le-ltb free limits.mark (omega arith)) ∙ pick_yes _ _ (le-leb _ _ above)

  -- "between the two it stays"
  pub stays_between : limits.mark ≤ free → free < limits.resume → wanted_after limits free before ≡ before
  unfolding wanted_after
  stays_between from below = pick_no _ _ (le-ltb _ _ from) ∙ pick_no _ _ (lt-leb _ _ below)

  -- not wanted once the marks were tried: the mark's octets are free
  pub free_unless_wanted : wanted_after limits free before ≡ false → limits.mark ≤ free
  unfolding wanted_after pick
  free_unless_wanted = go (ltb free limits.mark) refl
    where
      go : (b : Bool) → ltb free limits.mark ≡ b → pick b true (pick (leb limits.resume free) false before) ≡ false → limits.mark ≤ free
      go true below told = absurd (false≢true (sym told))
      go false from told = ltb-false _ _ from

module _ (limits : Limits) where
  -- not wanted means that the mark's octets are free: in an empty room that has them, and after every arrival and taking
  pub free_at_start : limits.mark ≤ limits.size → NotWantedFree limits empty_room
  free_at_start large not_wanted = omega arith

  pub free_after_event : (room : Room) (event : RoomEvent) → NotWantedFree limits (after_event limits room event)
  unfolding arrived_in taken_from
  free_after_event room (arrival length) = free_unless_wanted limits _ room.wanted
  free_after_event room (taking octets) = free_unless_wanted limits _ room.wanted

  pub free_after_run : (room : Room) (events : List RoomEvent) → NotWantedFree limits room → NotWantedFree limits (after_run limits room events)
  free_after_run room [] free = free
  free_after_run room (event ∷ events) free = free_after_run (after_event limits room event) events (free_after_event room event)

  -- no more is held than the room has: nothing in an empty room, and an arrival or taking keeps it so
  pub held_at_start : HeldWithin limits empty_room
  held_at_start = omega arith

  held_when_arrived : (held length : ℕ) → held ≤ limits.size → held_after limits.size held length ≤ limits.size
  unfolding held_after pick
  held_when_arrived held length = go (fits limits.size held length) refl
    where
      go : (b : Bool) → fits limits.size held length ≡ b → held ≤ limits.size → pick b (held + length) held ≤ limits.size
      go true room within = omega (arith, leb-true)
      go false full within = within

  pub held_after_event : (room : Room) (event : RoomEvent) → HeldWithin limits room → HeldWithin limits (after_event limits room event)
  unfolding arrived_in taken_from
  held_after_event room (arrival length) within = held_when_arrived room.held length within
  held_after_event room (taking octets) within = omega arith

  pub held_after_run : (room : Room) (events : List RoomEvent) → HeldWithin limits room → HeldWithin limits (after_run limits room events)
  held_after_run room [] within = within
  held_after_run room (event ∷ events) within = held_after_run (after_event limits room event) events (held_after_event room event within)

-- not wanted, in document 01's numbers: headroom + M octets are free
pub not_wanted_leaves : (headroom largest hysteresis : ℕ) (limits : Limits) (room : Room) →
    Marked headroom largest hysteresis limits → NotWantedFree limits room → room.wanted ≡ false →
    headroom + largest ≤ free_of limits.size room.held
not_wanted_leaves headroom largest hysteresis limits room marked free not_wanted = omega (arith, free not_wanted)

-- a frame of at most M that arrives while pause is not wanted: "The extra M is for the frame that crosses the mark."
pub record Crossing (headroom : ℕ) (limits : Limits) (room : Room) (length : ℕ) : Type 0 where
  pub fit : fits limits.size room.held length ≡ true
  pub held : (arrived_in limits room length).held ≡ room.held + length
  pub dropped : (arrived_in limits room length).dropped ≡ room.dropped
  pub left : headroom ≤ free_of limits.size (arrived_in limits room length).held

pub crossing : (headroom largest hysteresis length : ℕ) (limits : Limits) (room : Room) →
    Marked headroom largest hysteresis limits → NotWantedFree limits room → room.wanted ≡ false → length ≤ largest →
    Crossing headroom limits room length
unfolding arrived_in held_after dropped_after
crossing headroom largest hysteresis length limits room marked free not_wanted small =
    let from : limits.mark ≤ limits.size - room.held = free not_wanted in
    let fit : fits limits.size room.held length ≡ true = le-leb length (limits.size - room.held) (omega (arith, marked.mark)) in
    let held : (arrived_in limits room length).held ≡ room.held + length = pick_yes _ _ fit in
    record { fit = fit; held = held; dropped = pick_yes _ _ fit; left = omega (arith, marked.mark, held) }

-- what one arrival adds to what is held and dropped is its length
arrival_adds : (size held dropped length : ℕ) → dropped + length < 2 ^ 64 →
    (held_after size held length + dropped_after size held dropped length ≡ held + dropped + length) ×
    (dropped_after size held dropped length ≤ dropped + length)
unfolding held_after dropped_after pick
arrival_adds size held dropped length small = go (fits size held length)
  where
    go : (b : Bool) →
        (pick b (held + length) held + pick b dropped (within64 (dropped + length)) ≡ held + dropped + length) ×
        (pick b dropped (within64 (dropped + length)) ≤ dropped + length)
    go true = (omega arith, omega arith)
    go false = (omega arith, omega arith)

-- held, dropped and taken add up to what arrived, from any room on
pub adds_up_from : (limits : Limits) (room : Room) (events : List RoomEvent) → TakesHeld limits room events →
    room.dropped + arrived_sum events < 2 ^ 64 →
    (after_run limits room events).held + (after_run limits room events).dropped + taken_sum events ≡ room.held + room.dropped + arrived_sum events
unfolding arrived_in taken_from
adds_up_from limits room [] ends small = omega arith
adds_up_from limits room (arrival length ∷ events) (arrives rest) small =
    let one = arrival_adds limits.size room.held room.dropped length (omega arith) in
    omega (arith, one.0, adds_up_from limits (arrived_in limits room length) events rest (omega (arith, one.1)))
adds_up_from limits room (taking octets ∷ events) (takes within rest) small =
    omega (arith, adds_up_from limits (taken_from limits room octets) events rest small)

-- and so from the empty room
pub adds_up : (limits : Limits) (events : List RoomEvent) → TakesHeld limits empty_room events → arrived_sum events < 2 ^ 64 →
    (after_run limits empty_room events).held + (after_run limits empty_room events).dropped + taken_sum events ≡ arrived_sum events
adds_up limits events held_takings small = omega (arith, adds_up_from limits empty_room events held_takings (omega arith))

module _ (limits : Limits) (room : Room) where
  -- a taking makes no priority wanted
  pub still_unwanted : (octets : ℕ) → NotWantedFree limits room → room.wanted ≡ false → (taken_from limits room octets).wanted ≡ false
  unfolding taken_from wanted_after pick
  still_unwanted octets free off =
      let from = free off in pick_no _ _ (le-ltb _ limits.mark (omega arith)) ∙ go (leb limits.resume (free_of limits.size (room.held - octets)))
    where
      go : (above : Bool) → pick above false room.wanted ≡ false
      go true = refl
      go false = off
