-- Document 01's moments: since when PFC is due, when the last PFC frame started, when a frame's wire time ends. All are octet times
-- since the start.
use Rattle.std.specs.Prelude.{ℕ, ◌+◌, Bool, true, false, ltb, leb, Option, None, Some}
use Rattle.ground.specs.Pick.{pick}
use Rattle.units.specs.Units.{within64}
use Rattle.units.specs.declared.OctetTimes.{OctetTimes}

-- a moment, or none
abbrev pub Moment : Type 0
Moment = Option OctetTimes

-- the moment that stands so many octet times after the start
abbrev pub at : ℕ → Moment
at moment = Some (record { 0 = moment })

-- there is no moment: 39 "PFC not due" where PFC has none
unfoldable pub is_never : Moment → Bool
is_never None = true
is_never (Some first) = false

-- a moment is still ahead; also where there is none
unfoldable pub is_ahead : Moment → ℕ → Bool
is_ahead None clock = true
is_ahead (Some first) clock = ltb clock first.0

-- the clock is past a moment by more than a bound
unfoldable pub past_due : Moment → ℕ → ℕ → Bool
past_due None bound clock = false
past_due (Some first) bound clock = ltb (first.0 + bound) clock

-- "PFC becomes due when any wanted mark changes"; "until then its first moment stands"
unfoldable pub due_on : Bool → ℕ → Moment → Moment
due_on true clock None = at clock
due_on false clock None = None
due_on changed clock (Some first) = Some first

-- "at least I octet times (the refresh) have passed since the last PFC frame started": the moment from which that holds, none where no
-- PFC frame has started
unfoldable pub refresh_from : Moment → ℕ → Moment
refresh_from None refresh = None
refresh_from (Some started) refresh = at (within64 (started.0 + refresh))

-- due by the refresh, "dated from that moment even inside a step"
unfoldable pub due_by : Moment → ℕ → Moment → Moment
due_by refresh clock (Some first) = Some first
due_by None clock None = None
due_by (Some moment) clock None = pick (leb moment.0 clock) (Some moment) None
