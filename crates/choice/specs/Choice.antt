-- Document 01, "Timers and choice at A": the choice of the class to send from next. What it calls the
-- head of a queue is its front here; the head is the station.
use Rattle.std.specs.Prelude.{ℕ, zero, suc, Bool, false, not, ◌&&◌, List, [], ◌∷◌, get_or, eqb, ltb, Option, Some, None, Result}
use Rattle.ground.specs.Pick.{pick}
use Rattle.ground.specs.Eight.{eight, some}
use Rattle.ground.specs.First.{Condition, ◌gives◌, first_of}
use Rattle.head.specs.declared.Head.{Head}
use Rattle.head.specs.Timers.{is_paused}
use Rattle.refusals.specs.declared.Refusal.{Refusal}
use Rattle.refusals.specs.Refusals.{refused_or}

-- "a priority 0 to 7, or 8 for an empty queue": the front of class c is present
abbrev pub is_present : List ℕ → ℕ → Bool
is_present fronts c = ltb (get_or fronts c 0) 8

-- one of eight entries is above a limit
abbrev pub some_above : ℕ → List ℕ → Bool
some_above limit entries = some (eight (λ n. ltb limit (get_or entries n 0)))

-- "present head in a class its map doesn't give"
abbrev pub is_misplaced : List ℕ → List ℕ → ℕ → Bool
is_misplaced fronts map c = is_present fronts c && not (eqb (get_or map (get_or fronts c 0) 0) c)

-- "Order: .. Choice 22, 20, 21": "map entry above 7", "head above 8", "present head in a class its map doesn't give", by their tests
abbrev pub order_by : Bool → Bool → Bool → List Condition
order_by wild high misplaced = wild gives 22 ∷ high gives 20 ∷ misplaced gives 21 ∷ []

abbrev pub choosing_order : List ℕ → List ℕ → List Condition
choosing_order fronts map = order_by (some_above 7 map) (some_above 8 fronts) (some (eight (is_misplaced fronts map)))

-- "present and not paused", by the paused marks of the priorities
abbrev pub may_go : List ℕ → List Bool → ℕ → Bool
may_go fronts paused c = is_present fronts c && not (get_or paused (get_or fronts c 0) false)

-- the highest class below a bound of which a test holds, "or none"
unfoldable pub highest : (ℕ → Bool) → ℕ → Option ℕ
highest test zero = None
highest test (suc c) = pick (test c) (Some c) (highest test c)

-- "The answer is the highest class whose head is present and not paused, or none."
unfoldable pub choice : List ℕ → List ℕ → List Bool → Result (Option ℕ) Refusal
choice fronts map paused = refused_or (first_of (choosing_order fronts map)) (highest (may_go fronts paused) 8)

-- the choice of a head by its own timers: "Priority n is paused exactly while its timer is above zero."
abbrev pub choice_at : Head → List ℕ → List ℕ → Result (Option ℕ) Refusal
choice_at head fronts map = choice fronts map (eight (is_paused head))
