-- The answers that a number makes: what an answer says of its number, and that an answer bears the number that it was made by. Assumes nothing.
use Prim.Native.Nat.{ℕ}
use mathlib.Core.Path.{◌≡◌, refl, sym, ap, ◌∙◌}
use mathlib.Core.Bool.{Bool, true, false, false≢true, ◌&&◌, ◌||◌}
use mathlib.Core.List.{List, [], ◌∷◌}
use lib.Dec.{eqb}
use borrow.Author.Tests.{eqb-true, eqb-false, eq-eqb, ne_eqb}
use Rattle.std.specs.Prelude.{⊤, Some, Result, Ok, Err, IsErrAnd}
use Rattle.ground.specs.Pick.{pick}
use Rattle.ground.specs.First.{Condition, ◌gives◌, first_of}
use Rattle.ground.proofs.Pick.{pick_yes, pick_no}
use Rattle.refusals.specs.declared.Refusal.{Refusal}
use Rattle.refusals.specs.Refusals.{number, refusals, is_listed, numbered_in, numbered, refused_or, refusal_if, number_of, is_number, are_numbers}

-- the refusal with a listed number has it
numbered_has : (given : ℕ) (list : List Refusal) → is_listed given list ≡ true → number (numbered_in given list) ≡ given
unfolding numbered_in pick
numbered_has given [] listed = absurd (false≢true listed)
numbered_has given (refusal ∷ rest) listed = go (eqb given (number refusal)) refl (numbered_has given rest) listed
  where
    go : (same : Bool) → eqb given (number refusal) ≡ same → (is_listed given rest ≡ true → number (numbered_in given rest) ≡ given) →
        (same || is_listed given rest) ≡ true → number (pick same refusal (numbered_in given rest)) ≡ given
    go true is later listed = sym (eqb-true given (number refusal) is)
    go false is later listed = later listed

module _ {A : Type 0} (given : ℕ) (value : A) where
  -- not refused by 0, refused by any other
  pub not_refused : given ≡ 0 → refused_or given value ≡ Ok value
  unfolding refused_or
  not_refused zero = pick_yes _ _ (eq-eqb given 0 zero)

  pub refused : (given ≡ 0 → ⊥) → refused_or given value ≡ Err (numbered given)
  unfolding refused_or
  refused some = pick_no _ _ (ne_eqb given 0 some)

  -- the number of an answer is the one that it was made by
  pub number_kept : is_number given ≡ true → number_of (refused_or given value) ≡ given
  unfolding refused_or pick
  number_kept = go (eqb given 0) refl
    where
      go : (none : Bool) → eqb given 0 ≡ none → (none || is_listed given refusals) ≡ true →
          number_of (pick none (Ok value) (Err (numbered given))) ≡ given
      go true is known = sym (eqb-true given 0 is)
      go false is known = numbered_has given refusals known

  -- an answer that is not refused: its number is 0, and it is the value
  pub ok_is : {answer : A} → Ok answer ≡ refused_or given value → (given ≡ 0) × (answer ≡ value)
  unfolding refused_or pick
  ok_is {answer} = go (eqb given 0) refl
    where
      go : (none : Bool) → eqb given 0 ≡ none → Ok answer ≡ pick none (Ok value) (Err (numbered given)) → (given ≡ 0) × (answer ≡ value)
      go true is e = (eqb-true given 0 is, cc)
      go false is e = absurd cc

  -- a refusal: its number is not 0, and it is the one with that number
  pub err_is : {refusal : Refusal} → Err refusal ≡ refused_or given value → (given ≡ 0 → ⊥) × (refusal ≡ numbered given)
  unfolding refused_or pick
  err_is {refusal} = go (eqb given 0) refl
    where
      go : (none : Bool) → eqb given 0 ≡ none → Err refusal ≡ pick none (Ok value) (Err (numbered given)) → (given ≡ 0 → ⊥) × (refusal ≡ numbered given)
      go true is e = absurd cc
      go false is e = (eqb-false given 0 is, cc)

module _ {A B : Type 0} (given : ℕ) (value : A) (other : B) where
  -- what `?` hands on: a refusal by a number is that of every answer with this number
  pub handed_on : (refusal : Refusal) (answer : Result B Refusal) → IsErrAnd answer (λ e. e ≡ refusal) → Err refusal ≡ refused_or given value →
      answer ≡ refused_or given other
  handed_on refusal (Ok passed) is_err refused_by = absurd is_err
  handed_on refusal (Err same) is_err refused_by =
      ap Err (is_err ∙ (err_is given value refused_by).1) ∙ sym (refused given other (err_is given value refused_by).0)

  -- and what it lets pass: an answer with a number that refused nothing is its value
  pub let_pass : (passed : A) → Ok passed ≡ refused_or given value → Ok other ≡ refused_or given other
  let_pass passed is = sym (not_refused given other (ok_is given value is).0)

-- the number that an order gives is 0 or one of its own
given_number : (order : List Condition) → are_numbers order ≡ true → is_number (first_of order) ≡ true
unfolding first_of pick
given_number [] known = refl
given_number (condition ∷ rest) known = go condition.test (is_number condition.number) refl (given_number rest) known
  where
    go : (test known : Bool) → is_number condition.number ≡ known → (are_numbers rest ≡ true → is_number (first_of rest) ≡ true) →
        (known && are_numbers rest) ≡ true → is_number (pick test condition.number (first_of rest)) ≡ true
    go true true is later rest_known = is
    go false true is later rest_known = later rest_known
    go test false is later rest_known = absurd (false≢true rest_known)

-- the answer that an order makes bears the order's number
pub order_number : {A : Type 0} (order : List Condition) (value : A) (answer : Result A Refusal) → answer ≡ refused_or (first_of order) value →
    are_numbers order ≡ true → number_of answer ≡ first_of order
order_number order value answer is known = ap number_of is ∙ number_kept (first_of order) value (given_number order known)

-- by a test that answers no value, and whose number equals another one: an answer by that other number
module _ {given other : ℕ} (is : given ≡ other) where
  -- where the test refuses, what `?` hands on is every answer by the other number
  pub refused_on : {A : Type 0} (value : A) {refusal : Refusal} {answer : Result A Refusal} → IsErrAnd answer (λ e. e ≡ refusal) →
      Err refusal ≡ refused_or {A = ⊤} given tt → answer ≡ refused_or other value
  refused_on value is_err refused_by = handed_on given tt value _ _ is_err refused_by ∙ ap (λ (n : ℕ). refused_or n value) is

  -- where it refuses nothing, the other number is 0, and the answer is the value
  pub none_by : {passed : ⊤} → Ok passed ≡ refused_or {A = ⊤} given tt → other ≡ 0
  none_by passes = sym is ∙ (ok_is given tt passes).0

  pub passed_on : {A : Type 0} {value next : A} {passed : ⊤} → Ok passed ≡ refused_or {A = ⊤} given tt → next ≡ value → Ok next ≡ refused_or other value
  passed_on {value = value} passes same = ap Ok same ∙ sym (not_refused other value (none_by passes))

-- a refusal by a number is the one that this number stands for
pub refusal_by : {A : Type 0} (given : ℕ) (value : A) {refusal : Refusal} → Err refusal ≡ refused_or given value → Some refusal ≡ refusal_if given
unfolding refusal_if
refusal_by given value is = let by = err_is given value is in ap Some by.1 ∙ sym (pick_no _ _ (ne_eqb given 0 by.0))

-- an answer by an order, test by test: one that holds refuses by its number, one that does not leaves the rest, and none left refuses nothing
module _ {A : Type 0} (value : A) (test : Bool) (given : ℕ) (rest : List Condition) where
  pub tried_refused : test ≡ true → eqb given 0 ≡ false → refused_or (first_of (test gives given ∷ rest)) value ≡ Err (numbered given)
  unfolding refused_or first_of pick
  tried_refused holds some = rw (holds, some) refl

  pub tried_left : test ≡ false → refused_or (first_of (test gives given ∷ rest)) value ≡ refused_or (first_of rest) value
  unfolding first_of pick
  tried_left fails = rw fails refl

pub tried_none : {A : Type 0} (value : A) → refused_or (first_of []) value ≡ Ok value
unfolding refused_or first_of pick
tried_none value = refl

pub ruleset tried = (tried_refused, tried_left, tried_none)
