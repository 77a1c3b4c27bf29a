-- Where the PFC frame is accepted, fewer than 128 are under way; and when its wire time ends. Assumes nothing.
use Prim.Native.Nat.{ℕ, ◌+◌, ◌<◌}
use mathlib.Core.Path.{◌≡◌}
use Rattle.units.specs.Units.{within64, pfc_time}
use Rattle.units.specs.declared.OctetTimes.{OctetTimes}
use Rattle.decisions.proofs.Order.{start_pfc_room}
use Rattle.bench_state.specs.declared.Bench.{Bench}
use Rattle.asking.specs.Asking.{pfc_number, pfc_end}

pub pfc_room : (bench : Bench) → pfc_number bench ≡ 0 → bench.to_a.count < 128
unfolding pfc_number
pfc_room bench e = start_pfc_room _ _ _ e

-- a moment is its count
pub end_now : (clock : ℕ) (end : OctetTimes) → end.0 ≡ within64 (clock + pfc_time) → end ≡ pfc_end (record { 0 = clock })
end_now clock end is = λ i. record { 0 = is i }
