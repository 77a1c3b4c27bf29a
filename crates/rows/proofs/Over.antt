-- Writing over the first places of a list, by `over`. Assumes nothing.
use Prim.Native.Nat.{ℕ, zero, suc, ◌+◌, ◌<◌, ◌≤◌}
use mathlib.Core.Path.{◌≡◌, refl, ap}
use mathlib.Core.List.{List, [], ◌∷◌, ◌++◌}
use native.Mathlib.Omega.{arith}
use native.Mathlib.Nat.{le_of_suc-le-suc, not-suc-le-zero}
use lib.ListN.{length, take, drop, set, length-append, length-drop}
use lib.Seq.{length-take-le}
use Rattle.rows.specs.Rows.{over, moved_up}

-- a list's own first places
pub over_same : (n : ℕ) (l : List ℕ) → over (take n l) l ≡ l
over_same zero l = refl
over_same (suc n) [] = refl
over_same (suc n) (x ∷ xs) = ap (λ (r : List ℕ). x ∷ r) (over_same n xs)

-- one place more
pub over_pushed : (n : ℕ) (l : List ℕ) (x : ℕ) → n < length l → over (take n l ++ (x ∷ [])) l ≡ set l n x
over_pushed n [] x room = absurd (not-suc-le-zero room)
over_pushed zero (y ∷ ys) x room = refl
over_pushed (suc n) (y ∷ ys) x room = ap (λ (r : List ℕ). y ∷ r) (over_pushed n ys x (le_of_suc-le-suc room))

-- as many places as are written
pub over_many : (n : ℕ) (front old : List ℕ) → length front ≡ n → over front old ≡ front ++ drop n old
over_many n front old long = ap (λ (k : ℕ). front ++ drop k old) long

-- the places that were moved up
pub over_left : (k n : ℕ) (l : List ℕ) → n + k ≤ length l → over (take n (drop k l)) l ≡ moved_up k n l
over_left k n l room = over_many n (take n (drop k l)) l (length-take-le n (drop k l) (omega (arith, length-drop k l)))

-- the length stays
pub over_length : (front old : List ℕ) → length front ≤ length old → length (over front old) ≡ length old
over_length front old fits = omega (arith, length-append front (drop (length front) old), length-drop (length front) old)
