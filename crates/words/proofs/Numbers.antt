-- Document 01's numbers of the answers: of `number_of` none, of `delays_of_rows` 14, given exactly when its condition holds. Assumes
-- nothing.
use Prim.Native.Nat.{ℕ}
use mathlib.Core.Path.{◌≡◌, refl, ap, ◌∙◌}
use mathlib.Core.Bool.{Bool, true, false}
use mathlib.Core.List.{List, map, [], ◌∷◌}
use lib.Dec.{ltb}
use lib.ListN.{length, drop}
use Rattle.std.specs.Prelude.{Result, Ok, Err}
use Rattle.ground.specs.Pick.{pick}
use Rattle.ground.specs.First.{◌gives◌, first_of, GivenExactly, is_among, are_apart}
use Rattle.ground.proofs.First.{given_exactly}
use Rattle.interface_rows.specs.Stack.{index_from, stack_over, stack_answer, stack_number_of}
use Rattle.interface_rows.specs.declared.Delays.{Delays}
use Rattle.interface_rows.specs.declared.StackError.{StackError}
use Rattle.interface_rows.specs.declared.StackError.TheVariants.{Unknown}
use Rattle.interface_rows.proofs.Numbers.{stack_number}
use Rattle.words.specs.Words.{one', prefix, rows_order, rows_answer, word_number_of}
use Rattle.words.specs.declared.WordError.{WordError}

pub no_number : (answer : Result ℕ WordError) → word_number_of answer ≡ 0
unfolding word_number_of
no_number (Ok number) = refl
no_number (Err error) = refl

module _ (word : List ℕ) where
  pub rows_number : stack_number_of (rows_answer word) ≡ first_of (rows_order word)
  unfolding rows_answer stack_number_of first_of pick
  rows_number = go (ltb (length word) prefix)
    where
      rows : List ℕ
      rows = map (index_from one') (drop prefix word)

      go : (b : Bool) → stack_number_of (pick b (Err Unknown) (stack_answer rows)) ≡ first_of (pick b false (stack_over rows) gives 14 ∷ [])
      go true = refl
      go false = stack_number rows

  pub rows_given : GivenExactly (rows_order word) (stack_number_of (rows_answer word))
  unfolding are_apart is_among pick
  rows_given = given_exactly (rows_order word) refl rows_number

  -- the definition's answer has the order's number, and the word is as it was: what `delays_of_rows` promises
  pub promised : {answer : Result Delays StackError} {left : List ℕ} → answer ≡ rows_answer word → left ≡ word →
      (stack_number_of answer ≡ first_of (rows_order word)) × (answer ≡ rows_answer word) × (left ≡ word)
  promised is left_is = (ap stack_number_of is ∙ rows_number, is, left_is)
