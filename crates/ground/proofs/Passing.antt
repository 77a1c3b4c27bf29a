-- What a chain of tests says once its answer is known. Assumes nothing.
use Prim.Native.Nat.{ℕ, ◌<◌}
use mathlib.Core.Bool.{Bool, true, false, false≢true}
use mathlib.Core.Path.{◌≡◌, refl, sym}
use native.Mathlib.Omega.{arith}
use Rattle.ground.specs.Pick.{pick}

-- not refused by a test: the test fails, and nothing after it refuses
pub passed : (test : Bool) (number rest : ℕ) → 0 < number → pick test number rest ≡ 0 → (test ≡ false) × (rest ≡ 0)
unfolding pick
passed true number rest h e = absurd (omega arith)
passed false number rest h e = (refl, e)

-- neither of two tests holds
pub neither : (first second : Bool) → pick first true second ≡ false → (first ≡ false) × (second ≡ false)
unfolding pick
neither true second e = absurd (false≢true (sym e))
neither false second e = (refl, e)
