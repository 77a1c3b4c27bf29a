-- Kinds 03 and 07 as the code takes them: what goes by value once a data frame arrived, and once octets were taken.
use Rattle.std.specs.Prelude.{ℕ, List}
use Rattle.octets.specs.Numbers.{octet_at, word_at}
use Rattle.recorder.specs.Watching.{Recorder, recorder_of, arrived_at, taking_refusal, taking_leaves}
use Rattle.recorder.specs.declared.Watch.{Watch}
use Rattle.bench_state.specs.Answered.{with_marks, with_to_b, left_by}
use Rattle.bench_state.specs.declared.Bench.{Bench}

-- kind 03: the recorder once the frame in the first slot arrived, and what goes by value
unfoldable pub brought_by : Watch → Bench → List (List ℕ) → List ℕ → Recorder
brought_by w bench rooms slots = arrived_at w (recorder_of rooms bench.marks) (octet_at slots 0) (word_at slots 1) bench.clock.0

abbrev pub arrival_leaves : Bench → Recorder → Bench
arrival_leaves bench recorder = with_marks (with_to_b bench (left_by bench.to_b)) recorder.marks

-- kind 07: the number, the recorder after the taking, and what goes by value
unfoldable pub taking_number : Watch → Bench → List (List ℕ) → ℕ → ℕ → ℕ
taking_number w bench rooms priority octets = taking_refusal w (recorder_of rooms bench.marks) priority octets

unfoldable pub taking_by : Watch → Bench → List (List ℕ) → ℕ → ℕ → Recorder
taking_by w bench rooms priority octets = taking_leaves w (recorder_of rooms bench.marks) priority octets bench.clock.0

abbrev pub taking_marks : Bench → Recorder → Bench
taking_marks bench recorder = with_marks bench recorder.marks
