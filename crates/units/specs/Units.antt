-- Document 01: "Three counts appear, bit times, octet times (8 bit times) and pause quanta (512 bit times)." Over plain numbers.
use Rattle.std.specs.Prelude.{ℕ, ◌+◌, ◌-◌, ◌*◌, ◌/◌, ◌^◌, min}

-- an octet time is 8 bit times
abbrev pub bits_of_octets : ℕ → ℕ
bits_of_octets octets = 8 * octets

-- a pause quantum is 512 bit times
abbrev pub bits_of_quanta : ℕ → ℕ
bits_of_quanta quanta = 512 * quanta

-- and so 64 octet times
abbrev pub quantum : ℕ
quantum = 64

abbrev pub octets_of_quanta : ℕ → ℕ
octets_of_quanta quanta = quantum * quanta

-- "rounded up" to octet times
abbrev pub octets_of_bits : ℕ → ℕ
octets_of_bits bits = (bits + 7) / 8

-- rounded up to pause quanta
abbrev pub quanta_of_bits : ℕ → ℕ
quanta_of_bits bits = (bits + 511) / 512

-- what a wire holds beside a frame's own octets: preamble 8, gap 12
abbrev pub beside_frame : ℕ
beside_frame = 20

-- "A frame of length L holds its wire L + 20 octet times"
abbrev pub wire_time : ℕ → ℕ
wire_time length = length + beside_frame

-- "a PFC frame 84"
abbrev pub pfc_time : ℕ
pfc_time = 84

-- a count as a 64-bit number holds it: past the largest, the largest (with accepted settings and time up to 2^40 nothing reaches it)
abbrev pub within64 : ℕ → ℕ
within64 count = min count (2 ^ 64 - 1)
