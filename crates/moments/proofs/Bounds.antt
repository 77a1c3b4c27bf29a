-- Moments against bounds, as the code tests them. Assumes nothing.
use Prim.Native.Nat.{ℕ, ◌+◌, ◌-◌, ◌<◌, ◌≤◌, ◌^◌}
use mathlib.Core.Path.{◌≡◌, refl, sym}
use mathlib.Core.Bool.{Bool, true, false}
use native.Mathlib.Omega.{arith}
use lib.Dec.{ltb}
use borrow.Author.Tests.{lt-ltb, le-ltb, ltb-true, ltb-false}
use Rattle.units.specs.Units.{within64}
use Rattle.std.specs.Prelude.{None, Some}
use Rattle.moments.specs.Moments.{Moment, at, past_due}

-- two tests that hold of the same numbers are equal
pub ltb_same : (a b c d : ℕ) → (a < b → c < d) → (b ≤ a → d ≤ c) → ltb a b ≡ ltb c d
ltb_same a b c d yes_so no_so = go (ltb a b) refl
  where
    go : (t : Bool) → ltb a b ≡ t → t ≡ ltb c d
    go true holds = sym (lt-ltb c d (yes_so (ltb-true a b holds)))
    go false fails = sym (le-ltb c d (no_so (ltb-false a b fails)))

-- a difference against a bound is a sum against the moment
pub past_since : (first bound clock : ℕ) → first ≤ clock → ltb bound (clock - first) ≡ past_due (at first) bound clock
unfolding past_due
past_since first bound clock before =
    ltb_same bound (clock - first) (first + bound) clock (λ h. omega arith) (λ h. omega arith)

-- before the moment no bound is passed
pub past_not_yet : (first bound clock : ℕ) → clock < first → false ≡ past_due (at first) bound clock
unfolding past_due
past_not_yet first bound clock ahead = sym (le-ltb (first + bound) clock (omega arith))

-- a bound past what 64 bits hold is never passed
pub past_cut : (moment : Moment) (bound clock : ℕ) → clock < 2 ^ 64 → past_due moment (within64 bound) clock ≡ past_due moment bound clock
unfolding past_due
past_cut None bound clock small = refl
past_cut (Some first) bound clock small =
    ltb_same (first.0 + within64 bound) clock (first.0 + bound) clock (λ h. omega arith) (λ h. omega arith)
