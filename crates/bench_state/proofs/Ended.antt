-- A frame whose wire time has ended is under way. Assumes nothing.
use Prim.Native.Nat.{ℕ, zero, suc, ◌≤◌}
use mathlib.Core.Path.{◌≡◌}
use mathlib.Core.List.{List}
use native.Mathlib.Omega.{arith}
use Rattle.ground.specs.First.{first_of}
use Rattle.ground.specs.Pick.{pick}
use Rattle.moments.specs.Moments.{is_ahead}
use Rattle.rows.specs.Rows.{oldest_in}
use Rattle.decisions.specs.Chains.{arrive_number}
use Rattle.bench_state.specs.Answered.{ended_in}

pub ended_some : (count : ℕ) (ends : List ℕ) (clock : ℕ) → ended_in count ends clock ≡ 0 → 1 ≤ count
unfolding ended_in arrive_number is_ahead oldest_in pick first_of
ended_some zero ends clock e = absurd (omega arith)
ended_some (suc count) ends clock e = omega arith
