-- Document 01, "The bench": for each kind of record its refusals in their order, and the state after it.
use Rattle.std.specs.Prelude.{ℕ, ◌+◌, ◌-◌, ◌/◌, Bool, true, List, [], ◌∷◌, ◌++◌, ltb, eqb, Option, Some, None, Result, Ok, Err}
use lib.ListN.{length}
use Rattle.ground.specs.Pick.{pick}
use Rattle.refusals.specs.Refusals.{number}
use Rattle.units.specs.Units.{within64}
use Rattle.moments.specs.Moments.{Moment, at, is_never, is_ahead, past_due, due_by}
use Rattle.frame_build.specs.Build.{built_frame}
use Rattle.refusals.specs.declared.Refusal.{Refusal}
use Rattle.frame.specs.declared.Request.{Request}
use Rattle.frame.specs.Read.{verdict}
use Rattle.head.specs.declared.Head.{Head}
use Rattle.head.specs.Timers.{after_request, after_quanta, is_paused}
use Rattle.units.specs.Units.{wire_time, pfc_time}
use Rattle.marks.specs.declared.Marks.{Marks}
use Rattle.recorder.specs.declared.Watch.{Watch}
use Rattle.marks.specs.Marks.{refresh_of, started_at, with_due, times_for}
use Rattle.recorder.specs.Watching.{Recorder, recorder_of, arrived_at, taking_refusal, taken_at}
use Rattle.records.specs.Records.{Asked}
use Rattle.records.specs.declared.Record.TheVariants.{Wait, StartData, Arrive, StartOther, StartPfc, TakeEffect, TakeOctets}
use Rattle.decisions.specs.Chains.{length_outside, wait_number, start_data_number, arrive_number, start_other_number, start_pfc_number}
use Rattle.bench_meaning.specs.State.{Frame, Direction, State, data_octets, priority_of, length_of, with_head, with_recorder, with_to_b, with_to_a}

-- a moment plus a count of octet times
abbrev pub after : ℕ → ℕ → ℕ
after moment count = within64 (moment + count)

-- the source of B's PFC frames, "02-00-00-00-00-0B", and A's own address, "02-00-00-00-00-0A"
abbrev pub source_b : List ℕ
source_b = 0x02 ∷ 0x00 ∷ 0x00 ∷ 0x00 ∷ 0x00 ∷ 0x0B ∷ []

abbrev pub address_a : List ℕ
address_a = 0x02 ∷ 0x00 ∷ 0x00 ∷ 0x00 ∷ 0x00 ∷ 0x0A ∷ []

-- a wire is busy until the moment from which it is free
abbrev pub busy : Direction → ℕ → Bool
busy direction clock = ltb clock direction.free

-- a frame starts: it holds the wire for its wire time, and is the newest under way
abbrev pub joined : Direction → ℕ → ℕ → List ℕ → Direction
joined direction clock wire octets =
    record { free = after clock wire; row = direction.row ++ (record { end = after clock wire; octets = octets } ∷ []) }

-- a frame that only holds the wire starts
abbrev pub held_by : Direction → ℕ → ℕ → Direction
held_by direction clock wire = record { free = after clock wire; row = direction.row }

-- the oldest frame has gone, and these are left
abbrev pub leaving : Direction → List Frame → Direction
leaving direction rest = record { free = direction.free; row = rest }

-- when the wire time of a row's oldest frame ends. Frames stand in the order of their starts, so that the oldest's ends first
unfoldable pub oldest_end : List Frame → Moment
oldest_end [] = None
oldest_end (oldest ∷ rest) = at oldest.end

-- "A frame can arrive from the moment its wire time ends": 37 where none has
abbrev pub none_ended : Direction → ℕ → Bool
none_ended direction clock = is_ahead (oldest_end direction.row) clock

-- "It must have arrived D octet times after that, a PFC frame P after.": overdue once time is past the oldest's end by more
abbrev pub overdue : Direction → ℕ → ℕ → Bool
overdue direction bound moment = past_due (oldest_end direction.row) bound moment

-- since when a PFC frame is due once time has reached a moment: the refresh may fall due on the way
abbrev pub due_then : Watch → State → ℕ → Moment
due_then w s moment = due_by (refresh_of w.settings.refresh.0 s.recorder.marks) moment s.recorder.marks.due

-- 40 "a bound would be overrun": a frame's arrival, or "A due PFC frame must start within G + W"
unfoldable pub overrun : Watch → State → ℕ → Bool
overrun w s moment =
    pick (overdue s.to_b w.kept.«data».0 moment) true
    (pick (overdue s.to_a w.kept.request.0 moment) true
    (past_due (due_then w s moment) (w.kept.generation.0 + w.kept.wire.0) moment))

-- the number of the refusal of what is asked, or 0 where it is accepted: a record's by its kind, of which each order is written in
-- `decisions/specs/Chains.antt`; octets that ask nothing have their own
unfoldable pub refusal_of : Watch → State → Asked → ℕ
refusal_of w s (Ok (Wait n)) = wait_number (s.clock + n) (overrun w s (s.clock + n))
refusal_of w s (Ok (StartData priority length)) =
    start_data_number
    priority
    (length_outside w.settings.largest length)
    (busy s.to_b s.clock)
    (is_paused s.head priority)
    (lib.ListN.length s.to_b.row)
refusal_of w s (Ok Arrive) = arrive_number (none_ended s.to_b s.clock)
refusal_of w s (Ok (StartOther length)) =
    start_other_number
    (length_outside w.settings.largest length)
    (busy s.to_a s.clock)
    (past_due s.recorder.marks.due w.kept.generation.0 s.clock)
refusal_of w s (Ok StartPfc) =
    start_pfc_number (is_never s.recorder.marks.due) (busy s.to_a s.clock) (lib.ListN.length s.to_a.row)
refusal_of w s (Ok TakeEffect) = arrive_number (none_ended s.to_a s.clock)
refusal_of w s (Ok (TakeOctets priority octets)) = taking_refusal w s.recorder priority octets
refusal_of w s (Err refusal) = number refusal

-- what a PFC frame does at A: a request is taken; anything else changes nothing
unfoldable pub effect_of : Result (Option Request) Refusal → Head → Head
effect_of (Ok None) head = head
effect_of (Ok (Some request)) head = after_request head request.e request.times
effect_of (Err refusal) head = head

-- the octets of the PFC frame as B builds it now
abbrev pub pfc_now : Watch → Marks → List ℕ
pfc_now w marks = built_frame source_b w.settings.enabled (times_for w.settings.enabled w.settings.pause marks)

-- the recorder with other marks
abbrev pub marked : Recorder → Marks → Recorder
marked r marks = recorder_of r.rooms marks

-- the state after each kind, where it is accepted
-- kind 01: "A quantum passes at A when time reaches each positive multiple of 64.": as many as there are after now and up to now + n
unfoldable pub waited : Watch → State → ℕ → State
waited w s n =
    record {
      clock = s.clock + n;
      head = after_quanta s.head ((s.clock + n) / 64 - s.clock / 64);
      recorder = marked s.recorder (with_due s.recorder.marks (due_then w s (s.clock + n)));
      to_b = s.to_b;
      to_a = s.to_a;
    }

-- kind 02: "A frame of length L holds its wire L + 20 octet times"
unfoldable pub data_started : State → ℕ → ℕ → State
data_started s priority length = with_to_b s (joined s.to_b s.clock (wire_time length) (data_octets priority length))

-- kind 03: the oldest data frame reaches B
unfoldable pub arrived : Watch → State → List Frame → State
arrived w s [] = s
arrived w s (oldest ∷ rest) =
    with_recorder (with_to_b s (leaving s.to_b rest)) (arrived_at w s.recorder (priority_of oldest) (length_of oldest) s.clock)

-- kind 04: "kind 04's frames only hold the wire"
unfoldable pub other_started : State → ℕ → State
other_started s length = with_to_a s (held_by s.to_a s.clock (wire_time length))

-- kind 05: the PFC frame, with the marks as they stand
unfoldable pub pfc_started : Watch → State → State
pfc_started w s =
    with_recorder (with_to_a s (joined s.to_a s.clock pfc_time (pfc_now w s.recorder.marks)))
    (marked s.recorder (started_at s.recorder.marks s.clock))

-- kind 06: the oldest PFC frame is read at A
unfoldable pub took_effect : Watch → State → List Frame → State
took_effect w s [] = s
took_effect w s (oldest ∷ rest) =
    with_head (with_to_a s (leaving s.to_a rest)) (effect_of (verdict oldest.octets w.settings.largest address_a) s.head)

-- kind 07: B's disk takes octets
unfoldable pub octets_taken : Watch → State → ℕ → ℕ → State
octets_taken w s priority octets = with_recorder s (taken_at w s.recorder priority octets s.clock)

-- the state after a record that is accepted
unfoldable pub next_of : Watch → State → Asked → State
next_of w s (Ok (Wait n)) = waited w s n
next_of w s (Ok (StartData priority length)) = data_started s priority length
next_of w s (Ok Arrive) = arrived w s s.to_b.row
next_of w s (Ok (StartOther length)) = other_started s length
next_of w s (Ok StartPfc) = pfc_started w s
next_of w s (Ok TakeEffect) = took_effect w s s.to_a.row
next_of w s (Ok (TakeOctets priority octets)) = octets_taken w s priority octets
next_of w s (Err refusal) = s

-- one record: its number, and the state after it; "All return the number and leave state, counters and lent octets as found."
unfoldable pub step_of : Watch → State → Asked → State
step_of w s asked = pick (eqb (refusal_of w s asked) 0) (next_of w s asked) s
