-- Document 01, "Timers and choice at A": the eight pause timers, what a request and the passing of quanta make of them.
use Rattle.std.specs.Prelude.{ℕ, ◌+◌, ◌-◌, ◌%◌, ◌^◌, Bool, ◌&&◌, List, nat_lt, slice_index}
use Rattle.ground.specs.Pick.{pick}
use Rattle.ground.specs.Eight.{eight, is_set}
use Rattle.head.specs.declared.Head.{Head}

-- timer n
abbrev pub timer : Head → ℕ → ℕ
timer head n = slice_index head.timers n

-- "Eight timers in quanta, all zero at the start."
abbrev pub start : ℕ → Head
start enabled = record { enabled = enabled; timers = eight (λ n. 0); indications = 0 }

-- "each n with e[n] set and PFC enabled"
abbrev pub is_named : ℕ → ℕ → ℕ → Bool
is_named enabled e n = is_set e n && is_set enabled n

-- "A request sets timer n to time[n] for each n with e[n] set and PFC enabled; others keep their value."
abbrev pub timer_after_request : Head → ℕ → List ℕ → ℕ → ℕ
timer_after_request head e times n = pick (is_named head.enabled e n) (slice_index times n) (timer head n)

-- the head once A accepts a request: its indications "go from 4,294,967,295 back to 0"
abbrev pub after_request : Head → ℕ → List ℕ → Head
after_request head e times = record { enabled = head.enabled; timers = eight (timer_after_request head e times); indications = (head.indications + 1) % 2 ^ 32 }

-- "A count of quanta passing lowers each timer by that count, not below zero."
abbrev pub lowered : List ℕ → ℕ → List ℕ
lowered timers quanta = eight (λ n. slice_index timers n - quanta)

-- the head after a count of quanta
abbrev pub after_quanta : Head → ℕ → Head
after_quanta head quanta = record { enabled = head.enabled; timers = lowered head.timers quanta; indications = head.indications }

-- "Priority n is paused exactly while its timer is above zero."
abbrev pub is_paused : Head → ℕ → Bool
is_paused head n = nat_lt 0 (timer head n)
