-- The eight priorities: a list with an entry for each, and the bit of an octet that belongs to each.
use Rattle.std.specs.Prelude.{ℕ, ◌/◌, ◌%◌, ◌^◌, Bool, true, false, List, [], ◌∷◌, eqb}
use Rattle.ground.specs.Pick.{pick}

-- one entry for each priority, 0 to 7
abbrev pub eight {ℓ} : {A : Type ℓ} → (ℕ → A) → List A
eight entry = entry 0 ∷ entry 1 ∷ entry 2 ∷ entry 3 ∷ entry 4 ∷ entry 5 ∷ entry 6 ∷ entry 7 ∷ []

-- "bit n" of an octet, as a number 0 or 1
abbrev pub bit_of : ℕ → ℕ → ℕ
bit_of octet n = octet / 2 ^ n % 2

-- bit n of an octet is set
abbrev pub is_set : ℕ → ℕ → Bool
is_set octet n = eqb (bit_of octet n) 1

-- some test of a list holds
unfoldable pub some : List Bool → Bool
unfolding pick
some [] = false
some (test ∷ tests) = pick test true (some tests)
