-- Document 01's three rates, and what `halt_limit` answers for every number.
use Rattle.std.specs.Prelude.{ℕ, Bool, List, [], ◌∷◌, eqb, Result}
use Rattle.ground.specs.Pick.{pick}
use Rattle.ground.specs.First.{Condition, ◌gives◌, first_of}
use Rattle.refusals.specs.Refusals.{refused_or}
use Rattle.refusals.specs.declared.Refusal.{Refusal}
use Rattle.units.specs.Counts.{quanta}
use Rattle.units.specs.declared.Quanta.{Quanta}

-- "Halt delay limit, 614.4 ns: 12, 48, 120 quanta at the three rates": each rate in Mb/s with its quanta
abbrev pub halt_limits : List (ℕ × ℕ)
halt_limits = (10000, 12) ∷ (40000, 48) ∷ (100000, 120) ∷ []

abbrev pub largest_rate : ℕ
largest_rate = 100000

-- the quanta that stand beside a rate; 0 at any other number, which is no rate
abbrev pub limit_in : List (ℕ × ℕ) → ℕ → ℕ
limit_in [] rate = 0
limit_in (known ∷ rest) rate = pick (eqb rate known.0) known.1 (limit_in rest rate)

unfoldable pub halt_limit : ℕ → ℕ
halt_limit rate = limit_in halt_limits rate

-- 10 "rate": a number without a halt limit is no rate
abbrev pub refused10 : ℕ → Bool
refused10 rate = eqb (halt_limit rate) 0

-- the one refusal of `halt_limit`
abbrev pub limit_order : ℕ → List Condition
limit_order rate = refused10 rate gives 10 ∷ []

-- the rate's limit, or 10 where it is no rate
unfoldable pub limit_answer : ℕ → Result Quanta Refusal
limit_answer rate = refused_or (first_of (limit_order rate)) (quanta (halt_limit rate))
