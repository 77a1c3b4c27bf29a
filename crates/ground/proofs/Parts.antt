-- Laws of parts of a list.
use Prim.Native.Nat.{ℕ, ◌-◌}
use mathlib.Core.Path.{◌≡◌}
use mathlib.Core.List.{List}
use native.Mathlib.Omega.{arith}
use lib.ListN.{length, take, drop, length-drop}
use lib.Seq.{take_all}

-- a part from n to the end is what is left after n
pub take_rest : (n : ℕ) (s : List ℕ) → take (length s - n) (drop n s) ≡ drop n s
take_rest n s = take_all (length s - n) (drop n s) (omega (arith, length-drop n s))
