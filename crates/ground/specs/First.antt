-- Document 01: "Each is given exactly when its condition holds and none earlier in the order does." An order of refusals is a list of
-- tests, each with its number.
use Rattle.std.specs.Prelude.{ℕ, zero, suc, ◌<◌, ◌≡◌, Bool, true, false, List, [], ◌∷◌, eqb, length}
use Rattle.ground.specs.Pick.{pick}

-- a condition of the inputs as a test, and the number that is given for it
pub record Condition : Type 0 where
  pub test : Bool
  pub number : ℕ

infix 70 ◌gives◌
abbrev pub ◌gives◌ : Bool → ℕ → Condition
test gives number = record { test = test; number = number }

-- the number of the first whose test holds; 0: none does
unfoldable pub first_of : List Condition → ℕ
first_of [] = 0
first_of (refusal ∷ rest) = pick refusal.test refusal.number (first_of rest)

-- the test and the number at a place of the order
unfoldable pub test_at : List Condition → ℕ → Bool
test_at [] n = false
test_at (refusal ∷ rest) zero = refusal.test
test_at (refusal ∷ rest) (suc n) = test_at rest n

unfoldable pub number_at : List Condition → ℕ → ℕ
number_at [] n = 0
number_at (refusal ∷ rest) zero = refusal.number
number_at (refusal ∷ rest) (suc n) = number_at rest n

-- "its condition holds and none earlier in the order does"
pub record Due (order : List Condition) (n : ℕ) : Type 0 where
  pub holds : test_at order n ≡ true
  pub none_earlier : (k : ℕ) → k < n → test_at order k ≡ false

-- a number is given exactly by an order: each entry's number exactly when the entry is due, and 0 exactly when no test holds
pub record GivenExactly (order : List Condition) (number : ℕ) : Type 0 where
  pub given : (n : ℕ) → n < length order → Due order n → number ≡ number_at order n
  pub only : (n : ℕ) → n < length order → number ≡ number_at order n → Due order n
  pub nothing : ((k : ℕ) → k < length order → test_at order k ≡ false) → number ≡ 0
  pub none_only : number ≡ 0 → (k : ℕ) → k < length order → test_at order k ≡ false

-- the numbers of an order are no two the same, and none is 0: a test that is computed
unfoldable pub is_among : ℕ → List Condition → Bool
is_among number [] = false
is_among number (refusal ∷ rest) = pick (eqb number refusal.number) true (is_among number rest)

unfoldable pub are_apart : List Condition → Bool
are_apart [] = true
are_apart (refusal ∷ rest) = pick (eqb refusal.number 0) false (pick (is_among refusal.number rest) false (are_apart rest))
