-- The rows of a table of cases: each a test that computes to true where the definitions give what the document says.
use Rattle.std.specs.Prelude.{ℕ, Bool, true, false, List, [], ◌∷◌, eqb}
use Rattle.ground.specs.Pick.{pick}

-- two rows of numbers are the same
unfoldable pub same : List ℕ → List ℕ → Bool
unfolding pick
same [] [] = true
same [] (y ∷ ys) = false
same (x ∷ xs) [] = false
same (x ∷ xs) (y ∷ ys) = pick (eqb x y) (same xs ys) false

-- every row holds
unfoldable pub all : List Bool → Bool
unfolding pick
all [] = true
all (row ∷ rows) = pick row (all rows) false
