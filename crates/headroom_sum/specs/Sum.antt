-- What `sum` answers for every input, refused ones too, and document 01's number for each case.
use Rattle.std.specs.Prelude.{ℕ, Bool, true, List, [], ◌∷◌, Result}
use Rattle.ground.specs.Pick.{pick}
use Rattle.ground.specs.First.{Condition, ◌gives◌, first_of}
use Rattle.refusals.specs.Refusals.{refused_or}
use Rattle.refusals.specs.declared.Refusal.{Refusal}
use Rattle.units.specs.Counts.{bits}
use Rattle.limits.specs.Limits.{refused13}
use Rattle.room_to_keep.specs.Keep.{kept, refused14}
use Rattle.headroom_sum.specs.Link.{link_bits}
use Rattle.headroom_sum.specs.Rates.{refused10}
use Rattle.headroom_sum.specs.Headroom.{request_path, data_path, total_bits, refused11, refused12, station_over, refused19}
use Rattle.headroom_sum.specs.declared.Inputs.{Inputs}
use Rattle.headroom_sum.specs.declared.Items.{Items}

-- the link's bits, and the two paths, of the inputs
abbrev pub link_of : Inputs → ℕ
link_of i = link_bits i.metres i.rate i.percentage

abbrev pub request_of : Inputs → ℕ
request_of i = request_path i.b_transmit.0 (link_of i) i.a_receive.0 i.halt.0

abbrev pub data_of : Inputs → ℕ
data_of i = data_path i.a_transmit.0 (link_of i) i.b_receive.0

-- 14: by a station delay, or by the generation or a path
abbrev pub stations_over : Inputs → Bool
stations_over i = station_over i.b_transmit.0 i.b_receive.0 i.a_transmit.0 i.a_receive.0

abbrev pub paths_over : Inputs → Bool
paths_over i = refused14 i.generation.0 (request_of i) (data_of i)

abbrev pub over14 : Inputs → Bool
over14 i = pick (stations_over i) true (paths_over i)

-- 19 of the inputs
abbrev pub over19 : Inputs → Bool
over19 i = refused19 i.rate i.halt.0

-- "Headroom 10, 11, 12, 13, 14, 19"
abbrev pub sum_order : Inputs → List Condition
sum_order i =
    refused10 i.rate gives 10
    ∷ refused11 i.metres gives 11
    ∷ refused12 i.percentage gives 12
    ∷ refused13 i.largest gives 13
    ∷ over14 i gives 14
    ∷ over19 i gives 19
    ∷ []

-- the first of them whose condition holds; 0: none of them
abbrev pub sum_refusal : Inputs → ℕ
sum_refusal i = first_of (sum_order i)

-- the sum, item by item
abbrev pub items : Inputs → Items
items i =
    record {
      link = bits (link_of i);
      request_path = bits (request_of i);
      data_path = bits (data_of i);
      total = bits (total_bits i.largest i.generation.0 (request_of i) (data_of i));
      room = kept i.largest i.generation.0 (request_of i) (data_of i);
    }

-- the sum, or the first refusal that holds
unfoldable pub summed : Inputs → Result Items Refusal
summed i = refused_or (sum_refusal i) (items i)
