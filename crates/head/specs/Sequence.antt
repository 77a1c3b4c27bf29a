-- Document 01: "Timer n after any sequence depends only on the enable setting, the quanta passed, and e[n] and time[n] of the accepted
-- requests, in their order." What a sequence is, the head after it, and what priority n sees of it.
use Rattle.std.specs.Prelude.{ℕ, ◌+◌, ◌-◌, Bool, ◌&&◌, List, [], ◌∷◌, map, slice_index}
use Rattle.ground.specs.Pick.{pick}
use Rattle.ground.specs.Eight.{is_set}
use Rattle.head.specs.declared.Head.{Head}
use Rattle.head.specs.Timers.{after_quanta, after_request}

-- a request that A accepts, with its enable vector and its times, or a count of quanta passing
pub data Event : Type 0 where
  request : ℕ → List ℕ → Event
  passing : ℕ → Event

-- the head after one event
abbrev pub after_event : Head → Event → Head
after_event head (request e times) = after_request head e times
after_event head (passing quanta) = after_quanta head quanta

-- the head after a sequence, the first event first
abbrev pub after : Head → List Event → Head
after head [] = head
after head (event ∷ events) = after (after_event head event) events

-- "the quanta passed, and e[n] and time[n] of the accepted requests"
pub data Told : Type 0 where
  asked : Bool → ℕ → Told
  elapsed : ℕ → Told

-- what one event tells priority n
abbrev pub tells_of : ℕ → Event → Told
tells_of n (request e times) = asked (is_set e n) (slice_index times n)
tells_of n (passing count) = elapsed count

-- "in their order": what a sequence tells priority n
abbrev pub told : ℕ → List Event → List Told
told n events = map (tells_of n) events

-- a time that the timer is set to, and the quanta that pass until it is set again
pub record Setting : Type 0 where
  pub time : ℕ
  pub passed : ℕ

-- what is left of that for a timer: the quanta before its first setting, and its settings. Requests that do not set it are left out,
-- and the quanta of neighbouring passings added up
pub record Seen : Type 0 where
  pub first : ℕ
  pub settings : List Setting

-- of no event nothing
abbrev pub nothing_seen : Seen
nothing_seen = record { first = 0; settings = [] }

-- of a request that sets the timer, before what is seen later
abbrev pub seen_setting : ℕ → Seen → Seen
seen_setting time later = record { first = 0; settings = record { time = time; passed = later.first } ∷ later.settings }

-- of a passing, before what is seen later
abbrev pub seen_passing : ℕ → Seen → Seen
seen_passing quanta later = record { first = quanta + later.first; settings = later.settings }

-- of what priority n is told, by whether PFC is enabled for it
abbrev pub seen_of : Bool → List Told → Seen
seen_of enabled [] = nothing_seen
seen_of enabled (asked e time ∷ rest) = pick (e && enabled) (seen_setting time (seen_of enabled rest)) (seen_of enabled rest)
seen_of enabled (elapsed count ∷ rest) = seen_passing count (seen_of enabled rest)

-- what priority n sees of a sequence, with an enable setting
abbrev pub seen : ℕ → ℕ → List Event → Seen
seen enabled n events = seen_of (is_set enabled n) (told n events)

-- the timer that what is seen makes of one: each setting replaces it, and the quanta after it lower it
abbrev pub settled : ℕ → List Setting → ℕ
settled timer [] = timer
settled timer (setting ∷ settings) = settled (setting.time - setting.passed) settings

-- from where the timer stands
abbrev pub timer_by : ℕ → Seen → ℕ
timer_by timer s = settled (timer - s.first) s.settings
