-- Document 01, "Room watching at B", for the set of priorities that share one room and one wanted mark. In
-- document 01 each enabled priority has its own, a set of one; a later request joins them.
use Rattle.std.specs.Prelude.{ℕ, ◌+◌, ◌-◌, max, Bool, true, false, List, [], ◌∷◌, get_or, ltb, leb}
use Rattle.ground.specs.Pick.{pick}
use Rattle.units.specs.Units.{within64}
use Rattle.rooms.specs.declared.Room.{Room}
use Rattle.rooms.specs.declared.Limits.{Limits}

-- what is free of a room, and none where more is held than it has
abbrev pub free_of : ℕ → ℕ → ℕ
free_of size held = size - held

-- "A frame that fits": its length is at most the free room
abbrev pub fits : ℕ → ℕ → ℕ → Bool
fits size held length = leb length (free_of size held)

-- "A frame that fits is held"
unfoldable pub held_after : ℕ → ℕ → ℕ → ℕ
held_after size held length = pick (fits size held length) (held + length) held

-- "else dropped and its octets counted"
unfoldable pub dropped_after : ℕ → ℕ → ℕ → ℕ → ℕ
dropped_after size held dropped length = pick (fits size held length) dropped (within64 (dropped + length))

-- "pause becomes wanted when free room < headroom + M; it stops being wanted when free room ≥ headroom + M + hysteresis; between the two it stays"
unfoldable pub wanted_after : Limits → ℕ → Bool → Bool
wanted_after limits free before = pick (ltb free limits.mark) true (pick (leb limits.resume free) false before)

-- octets arriving in a wanted span, "the crossing frame not counted": it arrives while pause is not yet wanted
unfoldable pub span_after : Bool → ℕ → ℕ → ℕ
span_after wanted span length = pick wanted (within64 (span + length)) 0

-- a span ends where pause is no longer wanted
unfoldable pub span_kept : Bool → ℕ → ℕ
span_kept wanted span = pick wanted span 0

-- the room after a frame of this length arrived
unfoldable pub arrived_in : Limits → Room → ℕ → Room
arrived_in limits room length =
    record {
      held = held_after limits.size room.held length;
      dropped = dropped_after limits.size room.held room.dropped length;
      wanted = wanted_after limits (free_of limits.size (held_after limits.size room.held length)) room.wanted;
      span = span_after room.wanted room.span length;
      worst = max room.worst (span_after room.wanted room.span length);
    }

-- whether pause is wanted after octets were taken
abbrev pub wanted_once_taken : Limits → Room → ℕ → Bool
wanted_once_taken limits room octets = wanted_after limits (free_of limits.size (room.held - octets)) room.wanted

-- the room after octets were taken
unfoldable pub taken_from : Limits → Room → ℕ → Room
taken_from limits room octets =
    record {
      held = room.held - octets;
      dropped = room.dropped;
      wanted = wanted_once_taken limits room octets;
      span = span_kept (wanted_once_taken limits room octets) room.span;
      worst = room.worst;
    }

-- an empty room, nothing wanted
abbrev pub empty_room : Room
empty_room = record { held = 0; dropped = 0; wanted = false; span = 0; worst = 0 }

-- a room is kept as four numbers beside its wanted mark: what is held, what was dropped, the span, the worst
abbrev pub room_in : List ℕ → Bool → Room
room_in numbers wanted =
    record {
      held = get_or numbers 0 0;
      dropped = get_or numbers 1 0;
      wanted = wanted;
      span = get_or numbers 2 0;
      worst = get_or numbers 3 0;
    }

abbrev pub numbers_of : Room → List ℕ
numbers_of room = room.held ∷ room.dropped ∷ room.span ∷ room.worst ∷ []

-- the limits of a room: free room below "headroom + M": wanted; from "headroom + M + hysteresis" on: no longer
abbrev pub limits_for : ℕ → ℕ → ℕ → ℕ → Limits
limits_for size headroom largest hysteresis =
    record {
      size = size;
      mark = within64 (headroom + largest);
      resume = within64 (within64 (headroom + largest) + hysteresis);
    }
