-- Document 01, "Headroom", over plain numbers: the paths, the total, and what is refused of the inputs.
use Rattle.std.specs.Prelude.{ℕ, ◌+◌, Bool, true, ltb}
use Rattle.ground.specs.Pick.{pick}
use Rattle.units.specs.Units.{bits_of_octets, bits_of_quanta, wire_time, pfc_time}
use Rattle.limits.specs.Limits.{delay_over}
use Rattle.headroom_sum.specs.Rates.{halt_limit}

-- "Request path: B transmit + link + A receive + halt."
abbrev pub request_path : ℕ → ℕ → ℕ → ℕ → ℕ
request_path b_transmit link a_receive halt = b_transmit + link + a_receive + halt

-- "Data path: A transmit + link + B receive."
abbrev pub data_path : ℕ → ℕ → ℕ → ℕ
data_path a_transmit link b_receive = a_transmit + link + b_receive

-- "Total bits: generation + 8W + 672 + request path + 8W + data path."
abbrev pub total_bits : ℕ → ℕ → ℕ → ℕ → ℕ
total_bits largest generation request «data» =
    generation + bits_of_octets (wire_time largest) + bits_of_octets pfc_time + request + bits_of_octets (wire_time largest) + «data»

-- 11 "metres above 100,000"
abbrev pub largest_metres : ℕ
largest_metres = 100000

abbrev pub refused11 : ℕ → Bool
refused11 metres = ltb largest_metres metres

-- 12 "percentage outside 40-100"
abbrev pub least_percentage : ℕ
least_percentage = 40

abbrev pub largest_percentage : ℕ
largest_percentage = 100

abbrev pub refused12 : ℕ → Bool
refused12 percentage = pick (ltb percentage least_percentage) true (ltb largest_percentage percentage)

-- 14 by a station delay: B's and A's, transmit and receive
abbrev pub station_over : ℕ → ℕ → ℕ → ℕ → Bool
station_over b_transmit b_receive a_transmit a_receive =
    pick (delay_over b_transmit) true (pick (delay_over b_receive) true (pick (delay_over a_transmit) true (delay_over a_receive)))

-- 19 "halt delay above its rate's limit"
abbrev pub refused19 : ℕ → ℕ → Bool
refused19 rate halt = ltb (bits_of_quanta (halt_limit rate)) halt
