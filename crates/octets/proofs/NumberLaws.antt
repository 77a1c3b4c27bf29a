-- Laws of the numbers in octets: past the end they are 0, and two octets are told apart again. Each assumes what it states.
use Prim.Native.Nat.{ℕ, ◌+◌, ◌*◌, ◌/◌, ◌%◌, ◌<◌, ◌≤◌}
use mathlib.Core.Path.{◌≡◌}
use mathlib.Core.List.{List, [], ◌∷◌}
use native.Mathlib.Omega.{arith}
use lib.ListN.{length, get_or-eq_default}
use Rattle.octets.specs.Numbers.{octet_at, word_at, long_at, address_at, wide_at, word_octets}

-- from the end on there is nothing but zeroes
module _ (octets : List ℕ) (place : ℕ) (past : length octets ≤ place) where
  pub no_octet : octet_at octets place ≡ 0
  no_octet = get_or-eq_default octets 0 past

  pub no_word : word_at octets place ≡ 0
  no_word = omega (arith, no_octet, get_or-eq_default octets 0 {n = place + 1} (omega arith))

pub no_long : (octets : List ℕ) (place : ℕ) → length octets ≤ place → long_at octets place ≡ 0
no_long octets place past = omega (arith, no_word octets place past, no_word octets (place + 2) (omega arith))

pub no_address : (octets : List ℕ) (place : ℕ) → length octets ≤ place → address_at octets place ≡ 0
no_address octets place past = omega (arith, no_word octets place past, no_long octets (place + 2) (omega arith))

pub no_wide : (octets : List ℕ) (place : ℕ) → length octets ≤ place → wide_at octets place ≡ 0
no_wide octets place past = omega (arith, no_long octets place past, no_long octets (place + 4) (omega arith))

-- the octets of a number are those of the number turned round, the other way round
pub turned_round : (number turned : ℕ) → number < 65536 → turned ≡ 256 * (number % 256) + number / 256 → (turned % 256 ∷ turned / 256 ∷ []) ≡ word_octets number
turned_round number turned small is =
    let first : turned % 256 ≡ number / 256 % 256 = omega arith in
    let second : turned / 256 ≡ number % 256 = omega arith in
    cc
