-- Document 01, "Numbers on each side of a limit": the cases marked P that the head's definitions decide, a test a row.
use Rattle.std.specs.Prelude.{ℕ, Bool, not, List, [], ◌∷◌, ◌==◌}
use Rattle.ground.specs.Eight.{eight}
use Rattle.head.specs.declared.Head.{Head}
use Rattle.head.specs.Timers.{after_quanta, after_request, is_paused, timer}

-- a head whose eight timers stand at one value, PFC enabled for all
abbrev pub head_at : ℕ → Head
head_at value = record { enabled = 255; timers = eight (λ n. value); indications = 0 }

-- a request with all eight times alike, enable vector 08: it names priority 3 alone
abbrev pub asking : Head → ℕ → Head
asking head time = after_request head 8 (eight (λ n. time))

abbrev pub head_cases : List Bool
head_cases =
    -- P "timer 700, then time 3: 3; then time 0: 0"
    (timer (asking (head_at 700) 3) 3 == 3)
    ∷ (timer (asking (asking (head_at 700) 3) 0) 3 == 0)
    -- P "timer 5: after 4 quanta 1 and paused; after 5 or 9, 0 and free"
    ∷ (timer (after_quanta (head_at 5) 4) 3 == 1)
    ∷ is_paused (after_quanta (head_at 5) 4) 3
    ∷ (timer (after_quanta (head_at 5) 5) 3 == 0)
    ∷ not (is_paused (after_quanta (head_at 5) 5) 3)
    ∷ (timer (after_quanta (head_at 5) 9) 3 == 0)
    ∷ not (is_paused (after_quanta (head_at 5) 9) 3)
    ∷ []
