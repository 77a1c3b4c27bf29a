-- A room made of its parts after a taking is the definition's. Assumes nothing.
use Prim.Native.Nat.{ℕ, ◌-◌}
use mathlib.Core.Path.{◌≡◌}
use mathlib.Core.Bool.{Bool}
use Rattle.rooms.specs.Room.{wanted_after, span_kept, taken_from}
use Rattle.rooms.specs.declared.Limits.{Limits}
use Rattle.rooms.specs.declared.Room.{Room}

abbrev room_of : ℕ → ℕ → Bool → ℕ → ℕ → Room
room_of held dropped wanted span worst = record { held = held; dropped = dropped; wanted = wanted; span = span; worst = worst }

module _ (limits : Limits) (room : Room) (octets : ℕ) where
  -- from what is held to what is free, from that to the mark, from that to the span
  pub taken_made : {held free span : ℕ} {wanted : Bool} →
      held ≡ room.held - octets →
      free ≡ limits.size - held →
      wanted ≡ wanted_after limits free room.wanted →
      span ≡ span_kept wanted room.span →
      room_of held room.dropped wanted span room.worst ≡ taken_from limits room octets
  unfolding taken_from
  taken_made is_held is_free is_wanted is_span = rw (is_span, is_wanted, is_free, is_held)
