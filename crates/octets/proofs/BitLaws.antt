-- Laws of an octet's bits and of eight marks. Each assumes what it states.
use Prim.Native.Nat.{ℕ, ◌<◌, ◌≤◌, ◌^◌, ◌%◌}
use mathlib.Core.Path.{◌≡◌, refl, ap}
use mathlib.Core.Bool.{Bool, true, false}
use mathlib.Core.List.{List, [], ◌∷◌}
use native.Mathlib.Nat.{div-eq_of_lt}
use native.Mathlib.Omega.{arith}
use lib.Dec.{eqb}
use lib.Pow.{pow_mono}
use Rattle.std.specs.List.{list_any}
use Rattle.ground.specs.Eight.{is_set, some}
use Rattle.ground.specs.Pick.{pick}

-- an octet has no bit above 7
pub no_bit_past : (octet n : ℕ) → octet < 256 → 8 ≤ n → is_set octet n ≡ false
no_bit_past octet n small past =
    let wide : 256 ≤ 2 ^ n = pow_mono past in
    ap (λ (k : ℕ). eqb (k % 2) 1) (div-eq_of_lt {n = octet} {m = 2 ^ n} (omega arith))

-- some mark of a list is set where any passes the test that it is
pub some_is_any : (marks : List Bool) → list_any (λ mark. mark) marks ≡ some marks
unfolding some pick
some_is_any [] = refl
some_is_any (true ∷ marks) = refl
some_is_any (false ∷ marks) = some_is_any marks
