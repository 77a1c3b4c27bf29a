-- Kind 06 as the code takes it.
use Rattle.std.specs.Prelude.{ℕ, List, take}
use Rattle.frame.specs.Read.{verdict}
use Rattle.recorder.specs.declared.Watch.{Watch}
use Rattle.bench_meaning.specs.Step.{address_a, effect_of}
use Rattle.bench_state.specs.Answered.{with_head, with_to_a, left_by}
use Rattle.bench_state.specs.declared.Bench.{Bench}

-- what goes by value once the frame in the first slot took effect
abbrev pub effect_leaves : Watch → Bench → List ℕ → Bench
effect_leaves w bench slots =
    with_head (with_to_a bench (left_by bench.to_a)) (effect_of (verdict (take 60 slots) w.settings.largest address_a) bench.head)
