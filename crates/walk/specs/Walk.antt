-- Document 01, a wait of n octet times: what time changes, all of it at once.
use Rattle.std.specs.Prelude.{ℕ, ◌+◌, ◌-◌, ◌/◌, ◌^◌, Bool, ltb}
use Rattle.ground.specs.Pick.{pick}
use Rattle.units.specs.Units.{quantum}
use Rattle.head.specs.Timers.{after_quanta}
use Rattle.moments.specs.Moments.{Moment, due_by}
use Rattle.walk.specs.declared.Walk.{Walk}

-- "A quantum passes at A when time reaches each positive multiple of 64.": as many as there are multiples on the way
abbrev pub quanta_in : ℕ → ℕ → ℕ
quanta_in clock n = (clock + n) / quantum - clock / quantum

-- n octet times pass: the clock, the timers, and PFC due by the refresh if its moment is reached, "dated from that moment even inside a
-- step"
abbrev pub walked_on : Walk → Moment → ℕ → Walk
walked_on walk refresh n =
    record {
      clock = record { 0 = walk.clock.0 + n };
      head = after_quanta walk.head (quanta_in walk.clock.0 n);
      due = due_by refresh (walk.clock.0 + n) walk.due;
    }

-- a walk stays below this moment, far above document 01's 2^40
abbrev pub farthest : ℕ
farthest = 2 ^ 63

abbrev pub is_near : ℕ → ℕ → Bool
is_near clock n = ltb (clock + n) farthest

-- a walk that would go too far stays where it is
unfoldable pub walked_by : Walk → Moment → ℕ → Walk
walked_by walk refresh n = pick (is_near walk.clock.0 n) (walked_on walk refresh n) walk
