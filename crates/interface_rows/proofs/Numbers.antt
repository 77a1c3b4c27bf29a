-- Document 01's numbers of the answers: of `row_at` none, of `stack_delays` 14, given exactly when its condition holds. Assumes nothing.
use Prim.Native.Nat.{ℕ}
use mathlib.Core.Path.{◌≡◌, refl, ap, ◌∙◌}
use mathlib.Core.Bool.{Bool, true, false}
use mathlib.Core.List.{List}
use Rattle.std.specs.Prelude.{Option, None, Some, Result, Ok, Err}
use Rattle.ground.specs.Pick.{pick}
use Rattle.ground.specs.First.{first_of, GivenExactly, is_among, are_apart}
use Rattle.ground.proofs.First.{given_exactly}
use Rattle.refusals.specs.declared.Refusal.TheVariants.{Delay}
use Rattle.units.specs.Counts.{bits}
use Rattle.limits.specs.Limits.{delay_over}
use Rattle.interface_rows.specs.TableN1.{row_number_of, transmit_half, receive_half}
use Rattle.interface_rows.specs.Stack.{all_known, stack_bits, delays_of, stack_answer, stack_order, stack_number_of}
use Rattle.interface_rows.specs.declared.Delays.{Delays}
use Rattle.interface_rows.specs.declared.Row.{Row}
use Rattle.interface_rows.specs.declared.StackError.{StackError}
use Rattle.interface_rows.specs.declared.StackError.TheVariants.{Refused, Unknown}

pub no_number : (answer : Option Row) → row_number_of answer ≡ 0
unfolding row_number_of
no_number (Some row) = refl
no_number None = refl

module _ (rows : List ℕ) where
  pub stack_number : stack_number_of (stack_answer rows) ≡ first_of (stack_order rows)
  unfolding stack_answer stack_number_of delays_of first_of pick
  stack_number = go (all_known rows) (delay_over (receive_half (stack_bits rows)))
    where
      delays : Delays
      delays = record { transmit = bits (transmit_half (stack_bits rows)); receive = bits (receive_half (stack_bits rows)) }

      go : (known over : Bool) →
          stack_number_of (pick known (pick over (Err (Refused Delay)) (Ok delays)) (Err Unknown)) ≡ pick (pick known over false) 14 0
      go true true = refl
      go true false = refl
      go false over = refl

  pub stack_given : GivenExactly (stack_order rows) (stack_number_of (stack_answer rows))
  unfolding are_apart is_among pick
  stack_given = given_exactly (stack_order rows) refl stack_number

  -- the definition's answer has the order's number: what `stack_delays` promises
  pub promised : {answer : Result Delays StackError} → answer ≡ stack_answer rows →
      (stack_number_of answer ≡ first_of (stack_order rows)) × (answer ≡ stack_answer rows)
  promised is = (ap stack_number_of is ∙ stack_number, is)
