-- The delays of a stack of Table N-1's rows.
use Rattle.std.specs.Prelude.{ℕ, ◌+◌, ◌-◌, ◌*◌, Bool, true, false, List, [], ◌∷◌, ltb, length, get_or, Result, Ok, Err}
use Rattle.ground.specs.Pick.{pick}
use Rattle.ground.specs.First.{Condition, ◌gives◌}
use Rattle.refusals.specs.Refusals.{number}
use Rattle.refusals.specs.declared.Refusal.TheVariants.{Delay}
use Rattle.units.specs.Counts.{bits}
use Rattle.limits.specs.Limits.{largest_delay, delay_over}
use Rattle.interface_rows.specs.TableN1.{row, table_n1, is_row, transmit_half, receive_half}
use Rattle.interface_rows.specs.declared.Delays.{Delays}
use Rattle.interface_rows.specs.declared.StackError.{StackError}
use Rattle.interface_rows.specs.declared.StackError.TheVariants.{Refused, Unknown}

-- an octet names the row at its distance from `first`; one below `first` names none
unfoldable pub index_from : ℕ → ℕ → ℕ
index_from first octet = pick (ltb octet first) (length table_n1) (octet - first)

-- the bits of the row at an index; 0 where there is none
abbrev pub bits_at : ℕ → ℕ
bits_at index = (get_or table_n1 index (row 0 0)).0.0

-- every index of the stack is a row's
unfoldable pub all_known : List ℕ → Bool
all_known [] = true
all_known (index ∷ rest) = pick (is_row index) (all_known rest) false

-- the bits of a stack of rows, both directions together
unfoldable pub stack_bits : List ℕ → ℕ
stack_bits [] = 0
stack_bits (index ∷ rest) = bits_at index + stack_bits rest

-- the two delays of a stack's bits, or 14 where the larger of them is above what a station delay may be
unfoldable pub delays_of : ℕ → Result Delays StackError
delays_of whole =
    pick (delay_over (receive_half whole)) (Err (Refused Delay))
    (Ok (record { transmit = bits (transmit_half whole); receive = bits (receive_half whole) }))

-- from so many bits on it is 14
abbrev pub enough : ℕ
enough = 2 * largest_delay + 1

-- a stack with an unknown row has no delay; any other has the halves of its rows' bits (each row is even, so that these are
-- also the sums of the rows' halves)
unfoldable pub stack_answer : List ℕ → Result Delays StackError
stack_answer rows = pick (all_known rows) (delays_of (stack_bits rows)) (Err Unknown)

-- 14 of a stack whose rows are all known: the larger of its delays is above what a station delay may be; its one refusal
abbrev pub stack_over : List ℕ → Bool
stack_over rows = pick (all_known rows) (delay_over (receive_half (stack_bits rows))) false

abbrev pub stack_order : List ℕ → List Condition
stack_order rows = stack_over rows gives 14 ∷ []

-- document 01's number of an answer: the refusal's; two delays are none, and for a row that the table lacks document 01 has no number
unfoldable pub stack_number_of : Result Delays StackError → ℕ
stack_number_of (Ok delays) = 0
stack_number_of (Err (Refused refusal)) = number refusal
stack_number_of (Err Unknown) = 0
