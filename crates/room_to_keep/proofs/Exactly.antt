-- Document 01: "Each is given exactly when its condition holds and none earlier in the order does." For `keep`, over every input.
-- Assumes nothing.
use Prim.Native.Nat.{ℕ}
use mathlib.Core.Path.{◌≡◌, refl, ap, ◌∙◌}
use mathlib.Core.Bool.{Bool}
use mathlib.Core.List.{[], ◌∷◌}
use Rattle.std.specs.Prelude.{Result}
use Rattle.ground.specs.Pick.{pick}
use Rattle.ground.specs.First.{◌gives◌, first_of, GivenExactly, is_among, are_apart}
use Rattle.ground.proofs.First.{given_exactly}
use Rattle.refusals.specs.Refusals.{number_of}
use Rattle.refusals.proofs.Refused.{order_number}
use Rattle.refusals.specs.declared.Refusal.{Refusal}
use Rattle.limits.specs.Limits.{refused13}
use Rattle.room_to_keep.specs.declared.Kept.{Kept}
use Rattle.room_to_keep.specs.Keep.{refused14, keep_order, keep_refusal, keeping, kept}

module _ (largest generation request «data» : ℕ) where
  pub keep_number : number_of (keeping largest generation request «data») ≡ keep_refusal largest generation request «data»
  unfolding keeping
  keep_number = order_number (keep_order largest generation request «data») (kept largest generation request «data») _ refl refl

  pub keep_given : GivenExactly (keep_order largest generation request «data») (number_of (keeping largest generation request «data»))
  unfolding are_apart is_among pick
  keep_given = given_exactly (keep_order largest generation request «data») refl keep_number

  -- an answer that is the definition's has the order's number
  pub told : (answer : Result Kept Refusal) → answer ≡ keeping largest generation request «data» →
      number_of answer ≡ first_of (keep_order largest generation request «data»)
  told answer is = ap number_of is ∙ keep_number

  -- the two tests in the order are the definition's number
  pub in_order : {outside over : Bool} {number : ℕ} → outside ≡ refused13 largest → over ≡ refused14 generation request «data» →
      number ≡ first_of (outside gives 13 ∷ over gives 14 ∷ []) → number ≡ keep_refusal largest generation request «data»
  in_order is_outside is_over is = is ∙ rw (is_outside, is_over)
