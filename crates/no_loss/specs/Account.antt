-- The account of a priority over the records of a run: what arrived is what is held, was taken or was dropped. And what was dropped, said by
-- that account alone.
use Rattle.std.specs.Prelude.{ℕ, ◌+◌, ◌-◌, List, [], ◌∷◌, ◌≡◌, eqb, Ok, Err}
use Rattle.ground.specs.Pick.{pick}
use Rattle.rooms.specs.Room.{fits}
use Rattle.settings.specs.declared.Settings.{Settings}
use Rattle.settings.specs.Settings.{room_of}
use Rattle.recorder.specs.declared.Watch.{Watch}
use Rattle.recorder.specs.Watching.{room_at}
use Rattle.records.specs.Records.{Asked}
use Rattle.records.specs.declared.Record.TheVariants.{Wait, StartData, Arrive, StartOther, StartPfc, TakeEffect, TakeOctets}
use Rattle.bench_meaning.specs.State.{State, empty}
use Rattle.bench_meaning.specs.Step.{refusal_of, step_of}
use Rattle.no_loss.specs.Runs.{watch_of, reached, arriving, dropped_sum}

-- the octets of a priority that B's disk takes where a record is accepted: only kind 07 takes any
unfoldable pub takes : ℕ → Asked → ℕ
takes priority (Ok (Wait n)) = 0
takes priority (Ok (StartData started length)) = 0
takes priority (Ok Arrive) = 0
takes priority (Ok (StartOther length)) = 0
takes priority (Ok StartPfc) = 0
takes priority (Ok TakeEffect) = 0
takes priority (Ok (TakeOctets taken octets)) = pick (eqb taken priority) octets 0
takes priority (Err refusal) = 0

-- the octets of a priority that a record takes in a state
unfoldable pub taking : Watch → ℕ → State → Asked → ℕ
taking w priority s asked = pick (eqb (refusal_of w s asked) 0) (takes priority asked) 0

-- the sums over the records of what arrived and of what was taken
unfoldable pub arrived_sum : Watch → ℕ → State → List Asked → ℕ
arrived_sum w priority s [] = 0
arrived_sum w priority s (asked ∷ rest) = arriving w priority s asked + arrived_sum w priority (step_of w s asked) rest

unfoldable pub taken_sum : Watch → ℕ → State → List Asked → ℕ
taken_sum w priority s [] = 0
taken_sum w priority s (asked ∷ rest) = taking w priority s asked + taken_sum w priority (step_of w s asked) rest

-- the octets that do not fit a priority's room where so many are held: all that arrive, or none
unfoldable pub overflow : Watch → ℕ → ℕ → ℕ → ℕ
overflow w priority held octets = pick (fits (room_of w.settings.rooms priority) held octets) 0 octets

-- what is held once octets have arrived and others were taken
unfoldable pub held_by : Watch → ℕ → ℕ → ℕ → ℕ → ℕ
held_by w priority held arrived taken = held + arrived - overflow w priority held arrived - taken

-- what is dropped over the records, from `held` octets on: what is held is carried along by the account, and no state is asked for it
unfoldable pub dropped_from : Watch → ℕ → State → ℕ → List Asked → ℕ
dropped_from w priority s held [] = 0
dropped_from w priority s held (asked ∷ rest) =
    overflow w priority held (arriving w priority s asked) +
    dropped_from w priority (step_of w s asked) (held_by w priority held (arriving w priority s asked) (taking w priority s asked)) rest

-- the account of a priority over the records from the start
pub record AddsUp (s : Settings) (records : List Asked) (priority : ℕ) : Type 0 where
  -- what arrived is what is held, was taken and was dropped
  pub arrived_is : arrived_sum (watch_of s) priority (empty (watch_of s)) records ≡
      (room_at (reached s records).recorder priority).held + taken_sum (watch_of s) priority (empty (watch_of s)) records +
      dropped_sum (watch_of s) priority (empty (watch_of s)) records
  -- what was dropped is what did not fit beside what the account holds
  pub dropped_is : dropped_sum (watch_of s) priority (empty (watch_of s)) records ≡ dropped_from (watch_of s) priority (empty (watch_of s)) 0 records
