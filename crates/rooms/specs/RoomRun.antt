-- A room over a run of arrivals and takings, for whatever set of priorities shares it: the words of the laws about rooms.
use Rattle.std.specs.Prelude.{ℕ, ◌+◌, ◌≤◌, ◌≡◌, false, List, [], ◌∷◌}
use Rattle.rooms.specs.Room.{free_of, arrived_in, taken_from}
use Rattle.rooms.specs.declared.Room.{Room}
use Rattle.rooms.specs.declared.Limits.{Limits}

-- the marks of a headroom, a largest frame and a hysteresis: "headroom + M" and "headroom + M + hysteresis"
pub record Marked (headroom largest hysteresis : ℕ) (limits : Limits) : Type 0 where
  pub mark : limits.mark ≡ headroom + largest
  pub resume : limits.resume ≡ headroom + largest + hysteresis

-- while pause is not wanted the mark's octets are free
abbrev pub NotWantedFree : Limits → Room → Type 0
NotWantedFree limits room = room.wanted ≡ false → limits.mark ≤ free_of limits.size room.held

-- no more is held than the room has
abbrev pub HeldWithin : Limits → Room → Type 0
HeldWithin limits room = room.held ≤ limits.size

-- a frame of a length arrives, or the disk takes octets
pub data RoomEvent : Type 0 where
  arrival : ℕ → RoomEvent
  taking : ℕ → RoomEvent

-- the room after one event, "After each arrival or taking"
abbrev pub after_event : Limits → Room → RoomEvent → Room
after_event limits room (arrival length) = arrived_in limits room length
after_event limits room (taking octets) = taken_from limits room octets

-- the room after a run, the first event first
abbrev pub after_run : Limits → Room → List RoomEvent → Room
after_run limits room [] = room
after_run limits room (event ∷ events) = after_run limits (after_event limits room event) events

-- not 42 "more than is held": each taking is of at most what the room then holds
pub data TakesHeld (limits : Limits) : Room → List RoomEvent → Type 0 where
  ends : {room : Room} → TakesHeld limits room []
  arrives : {room : Room} {length : ℕ} {events : List RoomEvent} →
      TakesHeld limits (arrived_in limits room length) events →
      TakesHeld limits room (arrival length ∷ events)
  takes : {room : Room} {octets : ℕ} {events : List RoomEvent} →
      octets ≤ room.held →
      TakesHeld limits (taken_from limits room octets) events →
      TakesHeld limits room (taking octets ∷ events)

-- the octets that arrive in a run, and those that are taken
abbrev pub arrived_sum : List RoomEvent → ℕ
arrived_sum [] = 0
arrived_sum (arrival length ∷ events) = length + arrived_sum events
arrived_sum (taking octets ∷ events) = arrived_sum events

abbrev pub taken_sum : List RoomEvent → ℕ
taken_sum [] = 0
taken_sum (arrival length ∷ events) = taken_sum events
taken_sum (taking octets ∷ events) = octets + taken_sum events
