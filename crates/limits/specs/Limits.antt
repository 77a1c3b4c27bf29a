-- Document 01, "Refusal numbers": what 13 and 14 allow, each number by name, once.
use Rattle.std.specs.Prelude.{ℕ, Bool, true, ltb}
use Rattle.ground.specs.Pick.{pick}

-- 13 "M outside 64-9,216"
abbrev pub least_m : ℕ
least_m = 64

abbrev pub largest_m : ℕ
largest_m = 9216

abbrev pub refused13 : ℕ → Bool
refused13 largest = pick (ltb largest least_m) true (ltb largest_m largest)

-- 14 "a generation or station delay above 1,048,576 bits"
abbrev pub largest_delay : ℕ
largest_delay = 1048576

abbrev pub delay_over : ℕ → Bool
delay_over bits = ltb largest_delay bits

-- 14 "a path above 134,217,728"
abbrev pub largest_path : ℕ
largest_path = 134217728

abbrev pub path_over : ℕ → Bool
path_over bits = ltb largest_path bits
