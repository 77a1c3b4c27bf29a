-- A run as the code takes it: what goes by value at the start.
use Rattle.std.specs.Prelude.{ℕ}
use Rattle.head.specs.Timers.{start}
use Rattle.marks.specs.Marks.{fresh_marks}
use Rattle.bench_state.specs.declared.Bench.{Bench}
use Rattle.rows.specs.declared.Direction.{Direction}

-- a direction at the start
abbrev pub idle_now : Direction
idle_now = record { free = record { 0 = 0 }; count = 0 }

-- what goes by value at the start: "Time starts at 0, buffers empty."
abbrev pub empty_bench : ℕ → Bench
empty_bench enabled =
    record { clock = record { 0 = 0 }; head = start enabled; marks = fresh_marks; to_b = idle_now; to_a = idle_now }
