-- Document 01: "Each is given exactly when its condition holds and none earlier in the order does." For the headroom sum and the halt
-- limit, over every input. Assumes nothing.
use Prim.Native.Nat.{ℕ}
use mathlib.Core.Path.{◌≡◌, refl, sym, ap, ◌∙◌}
use Rattle.std.specs.Prelude.{Result}
use Rattle.ground.specs.Pick.{pick}
use Rattle.ground.specs.First.{first_of, GivenExactly, is_among, are_apart}
use Rattle.ground.proofs.First.{given_exactly}
use Rattle.refusals.specs.Refusals.{refused_or, number_of}
use Rattle.refusals.specs.declared.Refusal.{Refusal}
use Rattle.refusals.proofs.Refused.{order_number}
use Rattle.headroom_sum.specs.Rates.{limit_order, limit_answer}
use Rattle.headroom_sum.specs.Sum.{sum_order, sum_refusal, summed, items}
use Rattle.headroom_sum.specs.declared.Inputs.{Inputs}
use Rattle.headroom_sum.specs.declared.Items.{Items}

module _ (i : Inputs) where
  pub sum_number : number_of (summed i) ≡ sum_refusal i
  unfolding summed
  sum_number = order_number (sum_order i) (items i) _ refl refl

  pub sum_given : GivenExactly (sum_order i) (number_of (summed i))
  unfolding are_apart is_among pick
  sum_given = given_exactly (sum_order i) refl sum_number

  -- an answer that is the definition's has the order's number: for `sum`
  pub told : (answer : Result Items Refusal) → answer ≡ summed i → number_of answer ≡ first_of (sum_order i)
  told answer is = ap number_of is ∙ sum_number

  -- the answer at the order's number
  pub answered_by : {number : ℕ} → sum_refusal i ≡ number → refused_or number (items i) ≡ summed i
  unfolding summed
  answered_by is = ap (λ (n : ℕ). refused_or n (items i)) (sym is)

-- and the halt limit's
module _ (rate : ℕ) where
  pub limit_number : number_of (limit_answer rate) ≡ first_of (limit_order rate)
  unfolding limit_answer
  limit_number = order_number (limit_order rate) _ _ refl refl

  pub limit_given : GivenExactly (limit_order rate) (number_of (limit_answer rate))
  unfolding are_apart is_among pick
  limit_given = given_exactly (limit_order rate) refl limit_number
