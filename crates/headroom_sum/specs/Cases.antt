-- The cases of document 01 that are marked P and belong to the headroom, as L1 of document 02 reads them, as rows of tests to be computed;
-- a table above collects them.
use Rattle.std.specs.Prelude.{ℕ, Bool, List, [], ◌∷◌, eqb, Result, Ok, Err}
use Rattle.refusals.specs.declared.Refusal.{Refusal}
use Rattle.units.specs.Counts.{bits}
use Rattle.headroom_sum.specs.Link.{link_bits, link_bits_before}
use Rattle.headroom_sum.specs.Sum.{summed}
use Rattle.headroom_sum.specs.declared.Inputs.{Inputs}
use Rattle.headroom_sum.specs.declared.Items.{Items}

-- "(004) 10GBASE-T with MAC/RS and two XAUI: each direction 18,944; generation 200, M 2000, halt 6,144", over 100 m at 60 %
abbrev pub example004 : Inputs
example004 =
    record {
      rate = 10000;
      metres = 100;
      percentage = 60;
      largest = 2000;
      generation = bits 200;
      b_transmit = bits 18944;
      b_receive = bits 18944;
      a_transmit = bits 18944;
      a_receive = bits 18944;
      halt = bits 6144;
    }

-- an item of a whole sum; 0 of a refusal
abbrev pub item_of : (Items → ℕ) → Result Items Refusal → ℕ
item_of item (Ok whole) = item whole
item_of item (Err refusal) = 0

unfoldable pub headroom_cases : List Bool
headroom_cases =
    -- L1: "The 100 m case reads 5,560 instead of 5,556"
    eqb (link_bits 100 10000 60) 5560
    ∷ eqb (link_bits_before 100 10000 60) 5556
    -- "P 1 m: 56."
    ∷ eqb (link_bits 1 10000 60) 56
    -- "P 0 m: 0."
    ∷ eqb (link_bits 0 10000 60) 0
    -- "generation 200, M 2000, halt 6,144", L1: "the total 126,232 bits"
    ∷ eqb (item_of (λ (s : Items). s.total.0) (summed example004)) 126232
    -- "one-way time 8,328"
    ∷ eqb (item_of (λ (s : Items). s.room.one_way.0) (summed example004)) 8328
    -- L1: "headroom in octets stays 15,779"
    ∷ eqb (item_of (λ (s : Items). s.room.headroom.0) (summed example004)) 15779
    ∷ []
