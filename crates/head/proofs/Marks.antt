-- The timers by marks of the bits are those of the definition. Assumes nothing.
use Rattle.std.proofs.Common.{◌≡◌, ℕ, Bool, true, false, ◌&&◌, List, get_or, refl}
use Rattle.ground.specs.Pick.{pick}
use Rattle.ground.specs.Eight.{eight, is_set}
use Rattle.head.specs.declared.Head.{Head}
use Rattle.head.specs.Marks.{replaced_all, replaced_if}
use Rattle.head.specs.Timers.{timer, timer_after_request}
use Rattle.ground.proofs.Eight.{eight_same}

replaced_if_lem : (e enabled : Bool) (time timer : ℕ) → replaced_if e enabled time timer ≡ pick (e && enabled) time timer
unfolding pick
replaced_if_lem true true time timer = refl
replaced_if_lem true false time timer = refl
replaced_if_lem false enabled time timer = refl

pub replaced_all_lem : (head : Head) (e : ℕ) (times : List ℕ) →
    replaced_all (eight (is_set e)) (eight (is_set head.enabled)) times head.timers ≡ eight (timer_after_request head e times)
replaced_all_lem head e times =
    eight_same (λ n. replaced_if (is_set e n) (is_set head.enabled n) (get_or times n 0) (timer head n)) (timer_after_request head e times)
    (λ n below. replaced_if_lem (is_set e n) (is_set head.enabled n) (get_or times n 0) (timer head n))
