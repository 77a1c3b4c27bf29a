-- Document 01: numbers in octets stand "most significant octet first".
use Rattle.std.specs.Prelude.{ℕ, ◌+◌, ◌*◌, ◌/◌, ◌%◌, List, [], ◌∷◌, get_or}

-- the octet at a place; past the end 0
abbrev pub octet_at : List ℕ → ℕ → ℕ
octet_at octets place = get_or octets place 0

-- the number of two octets from a place on: "two octets each, most significant first"
abbrev pub word_at : List ℕ → ℕ → ℕ
word_at octets place = 256 * octet_at octets place + octet_at octets (place + 1)

-- the number of four octets from a place on
abbrev pub long_at : List ℕ → ℕ → ℕ
long_at octets place = 65536 * word_at octets place + word_at octets (place + 2)

-- the number of six octets from a place on: an address, its first octet most significant
abbrev pub address_at : List ℕ → ℕ → ℕ
address_at octets place = 4294967296 * word_at octets place + long_at octets (place + 2)

-- the number of eight octets from a place on
abbrev pub wide_at : List ℕ → ℕ → ℕ
wide_at octets place = 4294967296 * long_at octets place + long_at octets (place + 4)

-- the two octets of a number, most significant first
abbrev pub word_octets : ℕ → List ℕ
word_octets number = number / 256 % 256 ∷ number % 256 ∷ []
