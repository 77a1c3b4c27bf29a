-- Laws of timers lowered by a count of quanta. Assumes nothing.
use Rattle.std.proofs.Common.{◌≡◌, ℕ, ◌+◌, ◌-◌, ◌≤◌, min, List, length, get_or, ◌∙◌, arith}
use Rattle.head.specs.Timers.{lowered}
use Rattle.ground.proofs.Eight.{eight_same, eight_of_list}

-- no quanta change nothing
pub lowered_by_none : (timers : List ℕ) → length timers ≡ 8 → timers ≡ lowered timers 0
lowered_by_none timers long = eight_of_list timers 0 long ∙ eight_same (λ n. get_or timers n 0) (λ n. get_or timers n 0 - 0) (λ n below. omega arith)

-- two counts in a row are their sum
pub lowered_twice : (timers : List ℕ) (one two : ℕ) → lowered (lowered timers one) two ≡ lowered timers (one + two)
lowered_twice timers one two = eight_same (λ n. get_or timers n 0 - one - two) (λ n. get_or timers n 0 - (one + two)) (λ n below. omega arith)

-- a count cut down to one that no timer is above lowers by as much
pub lowered_by_least : (timers : List ℕ) (count most : ℕ) → ((n : ℕ) → get_or timers n 0 ≤ most) → lowered timers (min count most) ≡ lowered timers count
lowered_by_least timers count most small =
    eight_same (λ n. get_or timers n 0 - min count most) (λ n. get_or timers n 0 - count) (λ n below. omega (arith, small n))
