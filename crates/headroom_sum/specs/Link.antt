-- The bits that the link holds, over plain numbers. No other definition knows how fast light is.
use Rattle.std.specs.Prelude.{ℕ, ◌+◌, ◌-◌, ◌*◌, ◌/◌}

-- a quotient "rounded up"
abbrev pub rounded_up : ℕ → ℕ → ℕ
rounded_up count parts = (count + (parts - 1)) / parts

-- L1: "it is 299.792458" metres per microsecond: here in metres per second
abbrev pub light_speed : ℕ
light_speed = 299792458

-- L1: "Link bits become metres × rate × 100,000,000 / (percentage × 299,792,458), rounded up."
unfoldable pub link_bits : ℕ → ℕ → ℕ → ℕ
link_bits metres rate percentage = rounded_up (metres * rate * 100000000) (percentage * light_speed)

-- Document 01, before L1: "metres × rate × 100 / (percentage × 300), rounded up". No promise cites it: it is here for the law that says
-- how far a figure that was worked out by it is off.
unfoldable pub link_bits_before : ℕ → ℕ → ℕ → ℕ
link_bits_before metres rate percentage = rounded_up (metres * rate * 100) (percentage * 300)
