-- Where a data frame is accepted, fewer than 128 are under way; and when a frame's wire time ends. Assumes nothing.
use Prim.Native.Nat.{ℕ, ◌+◌, ◌<◌}
use mathlib.Core.Path.{◌≡◌}
use native.Mathlib.Omega.{arith}
use Rattle.units.specs.Units.{within64, wire_time}
use Rattle.units.specs.declared.OctetTimes.{OctetTimes}
use Rattle.recorder.specs.declared.Watch.{Watch}
use Rattle.decisions.proofs.Order.{start_data_room}
use Rattle.bench_state.specs.declared.Bench.{Bench}
use Rattle.starting.specs.Starting.{data_number, data_end}

pub data_room : (w : Watch) (bench : Bench) (priority length : ℕ) → data_number w bench priority length ≡ 0 → bench.to_b.count < 128
unfolding data_number
data_room w bench priority length e = start_data_room _ _ _ _ _ e

pub end_is : (clock size wire : ℕ) {end : OctetTimes} → wire ≡ within64 (wire_time size) → end.0 ≡ within64 (clock + wire) →
    end ≡ data_end (record { 0 = clock }) size
end_is clock size wire {end} is_wire is_end =
    let is : end.0 ≡ within64 (clock + wire_time size) = omega arith in λ i. record { 0 = is i }
