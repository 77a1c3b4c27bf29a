-- How many places so many slots of a width take, without their product. Assumes nothing.
use Prim.Native.Nat.{ℕ, ◌*◌, ◌/◌, ◌<◌, ◌≤◌, min}
use mathlib.Core.Path.{◌≡◌, sym}
use native.Mathlib.Omega.{arith}
use native.Mathlib.Nat.{mul_comm, min-eq_left, min-eq_right, le-div_iff_mul-le, div-lt_iff_lt-mul}

module _ (width count most : ℕ) (wide : 0 < width) where
  -- the product is more than there is
  pub all_places : most / width < count → most ≡ min (width * count) most
  all_places over =
      let more : most < count * width = (div-lt_iff_lt-mul wide).0 over in
      sym (min-eq_right (omega (arith, mul_comm width count)))

  -- the product is no more than there is
  pub fit : count ≤ most / width → width * count ≤ most
  fit under =
      let less : count * width ≤ most = (le-div_iff_mul-le wide).0 under in
      omega (arith, mul_comm width count)

  pub some_places : count ≤ most / width → width * count ≡ min (width * count) most
  some_places under = sym (min-eq_left (fit under))
