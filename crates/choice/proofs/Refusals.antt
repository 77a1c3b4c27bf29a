-- Choice's refusals: their tests in words, and that each is given exactly when its test holds and none earlier does. Assumes nothing.
use mathlib.Core.Path.{◌≡◌, refl, ap, ◌∙◌}
use mathlib.Core.Bool.{Bool, true, false, false≢true, not, ◌&&◌}
use mathlib.Core.List.{List}
use mathlib.Core.Logic.{◌↔◌}
use Prim.Native.Nat.{ℕ, ◌<◌}
use borrow.Author.Tests.{ltb-true, lt-ltb, eqb-false, ne_eqb}
use lib.Dec.{eqb, ltb}
use lib.ListN.{get_or}
use Rattle.ground.specs.Pick.{pick}
use Rattle.std.specs.Prelude.{Option, Result}
use Rattle.refusals.specs.declared.Refusal.{Refusal}
use Rattle.refusals.specs.Refusals.{number_of}
pub use Rattle.refusals.specs.Refusals.{refused_or, numbered_in}
use Rattle.refusals.proofs.Refused.{order_number}
use Rattle.choice.specs.Choice.{choice, choosing_order, highest, is_misplaced, may_go, order_by, some_above}
use Rattle.choice.specs.Answers.{EntryAbove, FrontMisplaced}
use Rattle.ground.specs.Eight.{eight, some}
use Rattle.ground.specs.First.{GivenExactly, are_apart, first_of, is_among}
use Rattle.ground.proofs.First.{given_exactly}
use Rattle.ground.proofs.Eight.{some_found, some_here}

above_found : (limit : ℕ) (entries : List ℕ) → some_above limit entries ≡ true → EntryAbove limit entries
above_found limit entries e =
    let found = some_found (λ n. ltb limit (get_or entries n 0)) e in
    (found.0, found.1, ltb-true limit (get_or entries found.0 0) found.2)

above_here : (limit : ℕ) (entries : List ℕ) → EntryAbove limit entries → some_above limit entries ≡ true
above_here limit entries h = some_here (λ n. ltb limit (get_or entries n 0)) h.0 h.1 (lt-ltb limit (get_or entries h.0 0) h.2)

-- a misplaced mark, taken apart and made
mark_misplaced : (front given c : ℕ) (present same : Bool) → ltb front 8 ≡ present → eqb given c ≡ same → (present && not same) ≡ true →
    (front < 8) × (given ≡ c → ⊥)
mark_misplaced front given c true false p q e = (ltb-true front 8 p, eqb-false given c q)
mark_misplaced front given c true true p q e = absurd (false≢true e)
mark_misplaced front given c false same p q e = absurd (false≢true e)

misplaced_found : (fronts map : List ℕ) → some (eight (is_misplaced fronts map)) ≡ true → FrontMisplaced fronts map
misplaced_found fronts map e =
    let found = some_found (is_misplaced fronts map) e in
    let told = mark_misplaced (get_or fronts found.0 0) (get_or map (get_or fronts found.0 0) 0) found.0 _ _ refl refl found.2 in
    (found.0, found.1, told.0, told.1)

misplaced_here : (fronts map : List ℕ) → FrontMisplaced fronts map → some (eight (is_misplaced fronts map)) ≡ true
misplaced_here fronts map h =
    some_here (is_misplaced fronts map) h.0 h.1 (simp (lt-ltb (get_or fronts h.0 0) 8 h.2, ne_eqb (get_or map (get_or fronts h.0 0) 0) h.0 h.3))

-- the tests in words
pub above_tells : (limit : ℕ) (entries : List ℕ) → (some_above limit entries ≡ true) ↔ EntryAbove limit entries
above_tells limit entries = (above_found limit entries, above_here limit entries)

pub misplaced_tells : (fronts map : List ℕ) → (some (eight (is_misplaced fronts map)) ≡ true) ↔ FrontMisplaced fronts map
misplaced_tells fronts map = (misplaced_found fronts map, misplaced_here fronts map)

-- the order's number, by the values of its tests
pub number_by : (fronts map : List ℕ) {wild high misplaced : Bool} → wild ≡ some_above 7 map → high ≡ some_above 8 fronts →
    misplaced ≡ some (eight (is_misplaced fronts map)) → first_of (order_by wild high misplaced) ≡ first_of (choosing_order fronts map)
number_by fronts map w h m = λ i. first_of (order_by (w i) (h i) (m i))

module _ (fronts map : List ℕ) (paused : List Bool) where
  pub choice_number : number_of (choice fronts map paused) ≡ first_of (choosing_order fronts map)
  unfolding choice
  choice_number = order_number (choosing_order fronts map) (highest (may_go fronts paused) 8) (choice fronts map paused) refl refl

  -- an answer that is the choice bears the order's number
  pub bears : {answer : Result (Option ℕ) Refusal} → answer ≡ choice fronts map paused → number_of answer ≡ first_of (choosing_order fronts map)
  bears is = ap number_of is ∙ choice_number

  -- "Each is given exactly when its condition holds and none earlier in the order does": 22, 20, 21
  pub choosing_given : GivenExactly (choosing_order fronts map) (number_of (choice fronts map paused))
  unfolding are_apart is_among pick
  choosing_given = given_exactly (choosing_order fronts map) refl choice_number
