-- Document 01, "Headroom": what is kept in octet times, and what `keep` answers for every input, refused ones too.
use Rattle.std.specs.Prelude.{ℕ, ◌+◌, Bool, true, List, [], ◌∷◌, Result}
use Rattle.ground.specs.Pick.{pick}
use Rattle.ground.specs.First.{Condition, ◌gives◌, first_of}
use Rattle.refusals.specs.Refusals.{refused_or}
use Rattle.refusals.specs.declared.Refusal.{Refusal}
use Rattle.units.specs.Counts.{octets}
use Rattle.units.specs.Units.{octets_of_bits, wire_time, pfc_time}
use Rattle.limits.specs.Limits.{largest_m, largest_delay, largest_path, refused13, delay_over, path_over}
use Rattle.room_to_keep.specs.declared.Kept.{Kept}

-- "In octet times, generation G, request path P and data path D are each rounded up. One-way time: G + W + 84 + P."
abbrev pub one_way : ℕ → ℕ → ℕ → ℕ
one_way largest generation request = octets_of_bits generation + wire_time largest + pfc_time + octets_of_bits request

-- "Headroom: one-way time + W + D."
abbrev pub headroom : ℕ → ℕ → ℕ → ℕ → ℕ
headroom largest generation request «data» = one_way largest generation request + wire_time largest + octets_of_bits «data»

-- the one-way time at the limits: no accepted one is longer
abbrev pub most_one_way : ℕ
most_one_way = one_way largest_m largest_delay largest_path

-- 14 by the generation and the paths alone, where no station delay is known
abbrev pub refused14 : ℕ → ℕ → ℕ → Bool
refused14 generation request «data» = pick (delay_over generation) true (pick (path_over request) true (path_over «data»))

-- 13 and 14, in this order
abbrev pub keep_order : ℕ → ℕ → ℕ → ℕ → List Condition
keep_order largest generation request «data» =
    refused13 largest gives 13
    ∷ refused14 generation request «data» gives 14
    ∷ []

-- the first of them whose condition holds; 0: none of them
abbrev pub keep_refusal : ℕ → ℕ → ℕ → ℕ → ℕ
keep_refusal largest generation request «data» = first_of (keep_order largest generation request «data»)

-- G, W, P, D, the one-way time and the headroom
abbrev pub kept : ℕ → ℕ → ℕ → ℕ → Kept
kept largest generation request «data» =
    record {
      generation = octets (octets_of_bits generation);
      wire = octets (wire_time largest);
      request = octets (octets_of_bits request);
      «data» = octets (octets_of_bits «data»);
      one_way = octets (one_way largest generation request);
      headroom = octets (headroom largest generation request «data»);
    }

-- what is to be kept, or the first refusal that holds
unfoldable pub keeping : ℕ → ℕ → ℕ → ℕ → Result Kept Refusal
keeping largest generation request «data» =
    refused_or (keep_refusal largest generation request «data») (kept largest generation request «data»)
