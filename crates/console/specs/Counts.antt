-- What reading gave: a count of octets at the start of a buffer.
use Rattle.std.specs.Prelude.{◌≡◌, ℕ, ◌≤◌, List, length, take, Result, Ok, Err}
use Rattle.console.specs.declared.input.Cut.{Cut}

-- how many octets came: all that there were, or those before a read that failed
abbrev pub octets_read : Result ℕ Cut → ℕ
octets_read (Ok count) = count
octets_read (Err cut) = cut.count

-- so many octets are within these, and so many are what is taken of them
abbrev pub IsPrefixLen : ℕ → List ℕ → Type 0
IsPrefixLen n xs = (n ≤ length xs) × (n ≡ length (take n xs))
