-- Kind 05 as the code takes it: the number by the values that it holds, and what goes by value once the frame has started.
use Rattle.std.specs.Prelude.{ℕ, ◌+◌}
use Rattle.units.specs.Units.{within64, pfc_time}
use Rattle.units.specs.declared.OctetTimes.{OctetTimes}
use Rattle.moments.specs.Moments.{is_never}
use Rattle.marks.specs.Marks.{started_at}
use Rattle.decisions.specs.Chains.{start_pfc_number}
use Rattle.bench_state.specs.Answered.{busy_until, with_marks, with_to_a, joined_by}
use Rattle.bench_state.specs.declared.Bench.{Bench}

unfoldable pub pfc_number : Bench → ℕ
pfc_number bench =
    start_pfc_number (is_never bench.marks.due) (busy_until bench.to_a.free.0 bench.clock.0) bench.to_a.count

abbrev pub pfc_end : OctetTimes → OctetTimes
pfc_end clock = record { 0 = within64 (clock.0 + pfc_time) }

abbrev pub pfc_joins : Bench → Bench
pfc_joins bench = with_marks (with_to_a bench (joined_by bench.to_a (pfc_end bench.clock))) (started_at bench.marks bench.clock.0)
