-- Document 01, "Order": the refusals of each kind of record, in its order; 0: none of them. What each test means stands where it is
-- asked (`bench_meaning/specs/Step.antt`).
use Rattle.std.specs.Prelude.{ℕ, ◌^◌, Bool, true, List, [], ◌∷◌, ltb, leb}
use Rattle.ground.specs.Pick.{pick}
use Rattle.ground.specs.First.{Condition, ◌gives◌, first_of}

-- "Each direction holds at most 128 frames under way"
abbrev pub most_under_way : ℕ
most_under_way = 128

-- "time above 2^40" is refused
abbrev pub last_moment : ℕ
last_moment = 2 ^ 40

-- 33 "length outside 64-M"
unfoldable pub length_outside : ℕ → ℕ → Bool
length_outside largest length = pick (ltb length 64) true (ltb largest length)

-- kind 01: 41 "time above 2^40", 40 "a bound would be overrun"
abbrev pub wait_order : ℕ → Bool → List Condition
wait_order reached overrun = ltb last_moment reached gives 41 ∷ overrun gives 40 ∷ []

unfoldable pub wait_number : ℕ → Bool → ℕ
wait_number reached overrun = first_of (wait_order reached overrun)

-- kind 02: 32 "priority above 7", 33 "length outside 64-M", 34 "wire busy", 35 "priority paused at A", 36 "128 under way"
abbrev pub start_data_order : ℕ → Bool → Bool → Bool → ℕ → List Condition
start_data_order priority outside busy paused count =
    ltb 7 priority gives 32 ∷ outside gives 33 ∷ busy gives 34 ∷ paused gives 35 ∷ leb most_under_way count gives 36 ∷ []

unfoldable pub start_data_number : ℕ → Bool → Bool → Bool → ℕ → ℕ
start_data_number priority outside busy paused count = first_of (start_data_order priority outside busy paused count)

-- kinds 03 and 06: 37 "none whose wire time has ended"
abbrev pub arrive_order : Bool → List Condition
arrive_order none_ended = none_ended gives 37 ∷ []

unfoldable pub arrive_number : Bool → ℕ
arrive_number none_ended = first_of (arrive_order none_ended)

-- kind 04: 33, 34, 38 "other frame later than G after PFC became due"
abbrev pub start_other_order : Bool → Bool → Bool → List Condition
start_other_order outside busy late = outside gives 33 ∷ busy gives 34 ∷ late gives 38 ∷ []

unfoldable pub start_other_number : Bool → Bool → Bool → ℕ
start_other_number outside busy late = first_of (start_other_order outside busy late)

-- kind 05: 39 "PFC not due", 34, 36
abbrev pub start_pfc_order : Bool → Bool → ℕ → List Condition
start_pfc_order undue busy count = undue gives 39 ∷ busy gives 34 ∷ leb most_under_way count gives 36 ∷ []

unfoldable pub start_pfc_number : Bool → Bool → ℕ → ℕ
start_pfc_number undue busy count = first_of (start_pfc_order undue busy count)
