-- Whole runs of the bench: any list of records from the start, and the sums over the records that a run's counters answer to.
use Rattle.std.specs.Prelude.{ℕ, ◌+◌, ◌≤◌, max, List, [], ◌∷◌, ◌≡◌, eqb, Ok, Err}
use Rattle.ground.specs.Pick.{pick}
use Rattle.room_to_keep.specs.Keep.{kept}
use Rattle.settings.specs.declared.Settings.{Settings}
use Rattle.settings.specs.Settings.{headroom_of}
use Rattle.rooms.specs.Room.{fits}
use Rattle.recorder.specs.declared.Watch.{Watch}
use Rattle.recorder.specs.Watching.{room_at, limits_of}
use Rattle.records.specs.Records.{Asked}
use Rattle.records.specs.declared.Record.TheVariants.{Wait, StartData, Arrive, StartOther, StartPfc, TakeEffect, TakeOctets}
use Rattle.bench_meaning.specs.State.{Frame, State, priority_of, length_of, empty}
use Rattle.bench_meaning.specs.Step.{refusal_of, step_of}

-- settings with the sums that they carry
abbrev pub watch_of : Settings → Watch
watch_of s = record { settings = s; kept = kept s.largest s.generation.0 s.request_path.0 s.data_path.0 }

-- the state after a list of records, of which refused ones change nothing
unfoldable pub after : Watch → State → List Asked → State
after w s [] = s
after w s (asked ∷ rest) = after w (step_of w s asked) rest

-- the state that a list of records reaches from the start
abbrev pub reached : Settings → List Asked → State
reached s records = after (watch_of s) (empty (watch_of s)) records

-- no record of a list is refused
unfoldable pub AllAccepted : Watch → State → List Asked → Type 0
AllAccepted w s [] = Unit
AllAccepted w s (asked ∷ rest) = (refusal_of w s asked ≡ 0) × AllAccepted w (step_of w s asked) rest

-- the octets of a priority that the oldest data frame under way brings
unfoldable pub oldest_brings : ℕ → List Frame → ℕ
oldest_brings priority [] = 0
oldest_brings priority (oldest ∷ rest) = pick (eqb (priority_of oldest) priority) (length_of oldest) 0

-- the octets of a priority that reach B where a record is accepted: only kind 03 brings any
unfoldable pub brings : ℕ → State → Asked → ℕ
brings priority s (Ok (Wait n)) = 0
brings priority s (Ok (StartData started length)) = 0
brings priority s (Ok Arrive) = oldest_brings priority s.to_b.row
brings priority s (Ok (StartOther length)) = 0
brings priority s (Ok StartPfc) = 0
brings priority s (Ok TakeEffect) = 0
brings priority s (Ok (TakeOctets taken octets)) = 0
brings priority s (Err refusal) = 0

-- the octets of a priority that reach B by a record in a state
unfoldable pub arriving : Watch → ℕ → State → Asked → ℕ
arriving w priority s asked = pick (eqb (refusal_of w s asked) 0) (brings priority s asked) 0

-- those of them that do not fit the room that is free before the record
unfoldable pub not_fitting : Watch → ℕ → State → ℕ → ℕ
not_fitting w priority s octets = pick (fits (limits_of w priority).size (room_at s.recorder priority).held octets) 0 octets

-- "dropped and its octets counted": the sum over the records of what arrived and did not fit
unfoldable pub dropped_sum : Watch → ℕ → State → List Asked → ℕ
dropped_sum w priority s [] = 0
dropped_sum w priority s (asked ∷ rest) =
    not_fitting w priority s (arriving w priority s asked) + dropped_sum w priority (step_of w s asked) rest

-- the octets that arrived in the present wanted span: what arrives while pause is wanted is added, and where it is not wanted the sum
-- starts again
unfoldable pub span_sum : Watch → ℕ → State → ℕ → Asked → ℕ
span_sum w priority s span asked = pick (room_at s.recorder priority).wanted (span + arriving w priority s asked) 0

-- "Worst": the largest such sum, over the records, from a span that stands at `span`
unfoldable pub worst_from : Watch → ℕ → State → ℕ → List Asked → ℕ
worst_from w priority s span [] = 0
worst_from w priority s span (asked ∷ rest) =
    max (span_sum w priority s span asked) (worst_from w priority (step_of w s asked) (span_sum w priority s span asked) rest)

-- from the start of a span
abbrev pub worst_sum : Watch → ℕ → State → List Asked → ℕ
worst_sum w priority s records = worst_from w priority s 0 records

-- a run loses nothing of a priority: its counters are the sums over the records, no octet is dropped, and no wanted span brings more
-- than the headroom
pub record NothingLost (s : Settings) (records : List Asked) (priority : ℕ) : Type 0 where
  pub dropped_counted : (room_at (reached s records).recorder priority).dropped ≡ dropped_sum (watch_of s) priority (empty (watch_of s)) records
  pub worst_counted : (room_at (reached s records).recorder priority).worst ≡ worst_sum (watch_of s) priority (empty (watch_of s)) records
  pub none_dropped : (room_at (reached s records).recorder priority).dropped ≡ 0
  pub within_headroom : (room_at (reached s records).recorder priority).worst ≤ headroom_of s

-- some records, none of them refused, after which the time is as given
pub record Reaches (w : Watch) (s : State) (time : ℕ) : Type 0 where
  pub records : List Asked
  pub accepted : AllAccepted w s records
  pub passes : (after w s records).clock ≡ time
