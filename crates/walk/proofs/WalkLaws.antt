-- A walk as callers use it: near, it is all of it at once; too far, it stays. Assumes what each law says.
use Prim.Native.Nat.{ℕ, ◌+◌, ◌-◌, ◌≤◌, ◌<◌}
use mathlib.Core.Path.{◌≡◌, sym}
use mathlib.Core.Bool.{false}
use native.Mathlib.Omega.{arith}
use lib.Dec.{ltb}
use borrow.Author.Tests.{lt-ltb, le-ltb}
use Rattle.ground.proofs.Pick.{pick_yes, pick_no}
use Rattle.moments.proofs.Bounds.{ltb_same}
use Rattle.moments.specs.Moments.{Moment}
use Rattle.walk.specs.Walk.{farthest, is_near, walked_on, walked_by}
use Rattle.walk.specs.declared.Walk.{Walk}

module _ (walk : Walk) (refresh : Moment) (n : ℕ) where
  pub walked_near : walk.clock.0 + n < farthest → walked_by walk refresh n ≡ walked_on walk refresh n
  unfolding walked_by
  walked_near near = pick_yes _ _ (lt-ltb _ _ near)

  pub walked_far : farthest ≤ walk.clock.0 + n → walked_by walk refresh n ≡ walk
  unfolding walked_by
  walked_far far = pick_no _ _ (le-ltb _ _ far)

-- near, by what is left to the farthest moment
module _ (clock n : ℕ) where
  pub near_left : clock ≤ farthest → ltb n (farthest - clock) ≡ is_near clock n
  near_left below = ltb_same n (farthest - clock) (clock + n) farthest (λ h. omega arith) (λ h. omega arith)

  pub none_near : farthest < clock → false ≡ is_near clock n
  none_near above = sym (le-ltb (clock + n) farthest (omega arith))
