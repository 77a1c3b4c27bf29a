-- Where the sum stands between its functions: what each may take for granted. Nothing here needs to be believed.
use Rattle.std.specs.Prelude.{ℕ, ◌≤◌, ◌≡◌, false, List, [], ◌∷◌}
use Rattle.ground.specs.First.{Condition, ◌gives◌, first_of}
use Rattle.units.specs.Units.{bits_of_quanta}
use Rattle.limits.specs.Limits.{largest_path, refused13}
use Rattle.headroom_sum.specs.Rates.{halt_limit}
use Rattle.headroom_sum.specs.Sum.{link_of, request_of, data_of, stations_over, over14, over19, sum_refusal}
use Rattle.headroom_sum.specs.declared.Inputs.{Inputs}

-- the halt delay's limit at the inputs' rate, in bits
abbrev pub halt_bits : Inputs → ℕ
halt_bits i = bits_of_quanta (halt_limit i.rate)

-- what is left of the order once the cable passed, and once M and the station delays did
abbrev pub from_m : Inputs → List Condition
from_m i = refused13 i.largest gives 13 ∷ over14 i gives 14 ∷ over19 i gives 19 ∷ []

abbrev pub from_paths : Inputs → List Condition
from_paths i = over14 i gives 14 ∷ over19 i gives 19 ∷ []

-- what comes before 13 was tried; the link's bits and the halt limit's are known
pub record Linked (i : Inputs) (link halting : ℕ) : Type 0 where
  pub left : sum_refusal i ≡ first_of (from_m i)
  pub link_is : link ≡ link_of i
  pub link_most : link ≤ largest_path
  pub halting_is : halting ≡ halt_bits i

-- 13 and the station delays were tried too
pub record BeforePaths (i : Inputs) : Type 0 where
  pub left : sum_refusal i ≡ first_of (from_paths i)
  pub largest : refused13 i.largest ≡ false
  pub stations : stations_over i ≡ false

-- and the paths' bits are known
pub record Pathed (i : Inputs) (link request «data» halting : ℕ) : Type 0 where
  pub before : BeforePaths i
  pub link_is : link ≡ link_of i
  pub request_is : request ≡ request_of i
  pub data_is : «data» ≡ data_of i
  pub halting_is : halting ≡ halt_bits i
