-- A wait as the code takes it: the walk from where the bench stands, the bounds where it ends, and what goes by value then.
use Rattle.std.specs.Prelude.{ℕ, ◌+◌, Bool, true, List, Result}
use Rattle.ground.specs.Pick.{pick}
use Rattle.refusals.specs.Refusals.{refused_or}
use Rattle.refusals.specs.declared.Refusal.{Refusal}
use Rattle.units.specs.Units.{within64}
use Rattle.moments.specs.Moments.{Moment, past_due}
use Rattle.marks.specs.Marks.{refresh_of, with_due}
use Rattle.recorder.specs.declared.Watch.{Watch}
use Rattle.rows.specs.Rows.{oldest_in}
use Rattle.walk.specs.Walk.{walked_by}
use Rattle.walk.specs.declared.Walk.{Walk}
use Rattle.decisions.specs.Chains.{wait_number}
use Rattle.bench_state.specs.declared.Bench.{Bench}

-- the walk of a wait from where the bench stands
unfoldable pub walk_from : Watch → Bench → ℕ → Walk
walk_from w bench n =
    walked_by (record { clock = bench.clock; head = bench.head; due = bench.marks.due }) (refresh_of w.settings.refresh.0 bench.marks) n

-- what goes by value where a walk ends
unfoldable pub after_walk : Bench → Walk → Bench
after_walk bench walk =
    record {
      clock = walk.clock;
      head = walk.head;
      marks = with_due bench.marks walk.due;
      to_b = bench.to_b;
      to_a = bench.to_a;
    }

-- 40: one of three moments is past its bound
unfoldable pub overrun_by : Moment → ℕ → Moment → ℕ → Moment → ℕ → ℕ → Bool
overrun_by data_end data_bound pfc_end pfc_bound due due_bound clock =
    pick (past_due data_end data_bound clock) true (pick (past_due pfc_end pfc_bound clock) true (past_due due due_bound clock))

-- 40 where a walk ends
unfoldable pub late_after : Watch → Bench → List ℕ → List ℕ → Walk → Bool
late_after w bench data_ends pfc_ends walk =
    overrun_by
    (oldest_in bench.to_b.count data_ends)
    w.kept.«data».0
    (oldest_in bench.to_a.count pfc_ends)
    w.kept.request.0
    walk.due
    (within64 (w.kept.generation.0 + w.kept.wire.0))
    walk.clock.0

-- the number of a wait
unfoldable pub waiting_number : Watch → Bench → List ℕ → List ℕ → ℕ → ℕ
waiting_number w bench data_ends pfc_ends n =
    wait_number (within64 (bench.clock.0 + n)) (late_after w bench data_ends pfc_ends (walk_from w bench n))

-- a wait is taken whole or refused whole
unfoldable pub waited_by : Watch → Bench → List ℕ → List ℕ → ℕ → Result Bench Refusal
waited_by w bench data_ends pfc_ends n = refused_or (waiting_number w bench data_ends pfc_ends n) (after_walk bench (walk_from w bench n))
