-- Document 01: "Each is given exactly when its condition holds and none earlier in the order does", of each kind's order. Assumes nothing.
use Prim.Native.Nat.{ℕ, ◌<◌}
use mathlib.Core.Path.{◌≡◌, refl}
use mathlib.Core.Bool.{Bool}
use native.Mathlib.Omega.{arith}
use borrow.Author.Tests.{leb-false}
use Rattle.ground.specs.First.{GivenExactly, are_apart, is_among, test_at}
use Rattle.ground.specs.Pick.{pick}
use Rattle.ground.proofs.First.{first_given}
pub use Rattle.refusals.specs.Refusals.{refused_or, numbered_in}
use Rattle.decisions.specs.Chains.{wait_order, wait_number, start_data_order, start_data_number, arrive_order, arrive_number}
use Rattle.decisions.specs.Chains.{start_other_order, start_other_number, start_pfc_order, start_pfc_number}

-- "kind 01: 41, 40"
pub wait_given : (reached : ℕ) (overrun : Bool) → GivenExactly (wait_order reached overrun) (wait_number reached overrun)
unfolding wait_number are_apart is_among pick
wait_given reached overrun = first_given (wait_order reached overrun) refl

-- "02: 32, 33, 34, 35, 36"
pub start_data_given : (priority : ℕ) (outside busy paused : Bool) (count : ℕ) →
    GivenExactly (start_data_order priority outside busy paused count) (start_data_number priority outside busy paused count)
unfolding start_data_number are_apart is_among pick
start_data_given priority outside busy paused count = first_given (start_data_order priority outside busy paused count) refl

-- kinds 03 and 06: 37
pub arrive_given : (none_ended : Bool) → GivenExactly (arrive_order none_ended) (arrive_number none_ended)
unfolding arrive_number are_apart is_among pick
arrive_given none_ended = first_given (arrive_order none_ended) refl

-- "04: 33, 34, 38"
pub start_other_given : (outside busy late : Bool) → GivenExactly (start_other_order outside busy late) (start_other_number outside busy late)
unfolding start_other_number are_apart is_among pick
start_other_given outside busy late = first_given (start_other_order outside busy late) refl

-- "05: 39, 34, 36"
pub start_pfc_given : (undue busy : Bool) (count : ℕ) → GivenExactly (start_pfc_order undue busy count) (start_pfc_number undue busy count)
unfolding start_pfc_number are_apart is_among pick
start_pfc_given undue busy count = first_given (start_pfc_order undue busy count) refl

-- where a frame is accepted, fewer than 128 are under way
pub start_data_room : (priority : ℕ) (outside busy paused : Bool) (count : ℕ) → start_data_number priority outside busy paused count ≡ 0 → count < 128
unfolding test_at
start_data_room priority outside busy paused count none =
    leb-false 128 count ((start_data_given priority outside busy paused count).none_only none 4 (omega arith))

pub start_pfc_room : (undue busy : Bool) (count : ℕ) → start_pfc_number undue busy count ≡ 0 → count < 128
unfolding test_at
start_pfc_room undue busy count none = leb-false 128 count ((start_pfc_given undue busy count).none_only none 2 (omega arith))
