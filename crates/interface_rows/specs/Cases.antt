-- The case of document 01 that is marked P and belongs to the rows, as a test to be computed; a table above collects it.
use Rattle.std.specs.Prelude.{ℕ, Bool, false, List, [], ◌∷◌, eqb, Result, Ok, Err}
use Rattle.ground.specs.Pick.{pick}
use Rattle.interface_rows.specs.Stack.{stack_answer}
use Rattle.interface_rows.specs.declared.Delays.{Delays}
use Rattle.interface_rows.specs.declared.StackError.{StackError}

-- a stack has these two delays
abbrev pub has_delays : ℕ → ℕ → Result Delays StackError → Bool
has_delays transmit receive (Ok delays) = pick (eqb delays.transmit.0 transmit) (eqb delays.receive.0 receive) false
has_delays transmit receive (Err error) = false

unfoldable pub row_cases : List Bool
row_cases =
    -- "P (004) 10GBASE-T with MAC/RS and two XAUI: each direction 18,944"
    has_delays 18944 18944 (stack_answer (7 ∷ 0 ∷ 1 ∷ 1 ∷ [])) ∷ []
