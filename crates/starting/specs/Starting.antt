-- Kinds 02 and 04 as the code takes them: the number by the values that it holds, and what goes by value once the frame has started.
use Rattle.std.specs.Prelude.{ℕ, ◌+◌}
use Rattle.units.specs.Units.{within64, wire_time}
use Rattle.units.specs.declared.OctetTimes.{OctetTimes}
use Rattle.moments.specs.Moments.{past_due}
use Rattle.head.specs.Timers.{is_paused}
use Rattle.recorder.specs.declared.Watch.{Watch}
use Rattle.decisions.specs.Chains.{length_outside, start_data_number, start_other_number}
use Rattle.bench_state.specs.Answered.{busy_until, with_to_b, with_to_a, joined_by}
use Rattle.bench_state.specs.declared.Bench.{Bench}

-- kind 02
unfoldable pub data_number : Watch → Bench → ℕ → ℕ → ℕ
data_number w bench priority length =
    start_data_number
    priority
    (length_outside w.settings.largest length)
    (busy_until bench.to_b.free.0 bench.clock.0)
    (is_paused bench.head priority)
    bench.to_b.count

-- "The wire is busy until start + L + 20"
abbrev pub data_end : OctetTimes → ℕ → OctetTimes
data_end clock length = record { 0 = within64 (clock.0 + wire_time length) }

abbrev pub data_joins : Bench → ℕ → Bench
data_joins bench length = with_to_b bench (joined_by bench.to_b (data_end bench.clock length))

-- kind 04
unfoldable pub other_number : Watch → Bench → ℕ → ℕ
other_number w bench length =
    start_other_number
    (length_outside w.settings.largest length)
    (busy_until bench.to_a.free.0 bench.clock.0)
    (past_due bench.marks.due w.kept.generation.0 bench.clock.0)

abbrev pub other_holds : Bench → ℕ → Bench
other_holds bench length = with_to_a bench (record { free = data_end bench.clock length; count = bench.to_a.count })
