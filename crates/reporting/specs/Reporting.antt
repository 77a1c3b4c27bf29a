-- A report from what the code holds.
use Rattle.std.specs.Prelude.{ℕ, List}
use Rattle.recorder.specs.Watching.{recorder_of}
use Rattle.bench_meaning.specs.State.{idle}
use Rattle.bench_meaning.specs.Run.{report_of}
use Rattle.bench_meaning.specs.declared.Report.{Report}
use Rattle.bench_state.specs.declared.Bench.{Bench}

-- the report of what the code holds: the frames under way are not in it
abbrev pub standing : ℕ → Bench → List (List ℕ) → ℕ → ℕ → ℕ → Report
standing enabled bench rooms steps refusal at =
    report_of enabled
    (record { clock = bench.clock.0; head = bench.head; recorder = recorder_of rooms bench.marks; to_b = idle; to_a = idle })
    steps refusal at
