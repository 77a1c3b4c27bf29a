-- What the tests of a moment say: whether it has been reached, is past by more than a bound, or is there at all. Assumes nothing.
use Prim.Native.Nat.{ℕ, ◌+◌, ◌≤◌}
use mathlib.Core.Bool.{false, false≢true}
use mathlib.Core.Path.{◌≡◌, refl, sym, ap}
use borrow.Author.Tests.{ltb-false, le-ltb}
use Rattle.std.specs.Prelude.{None, Some}
use Rattle.moments.specs.Moments.{Moment, at, is_never, is_ahead, past_due}

-- time has reached a moment
abbrev pub Reached : Moment → ℕ → Type 0
Reached None t = ⊥
Reached (Some m) t = m.0 ≤ t

-- time is at most a bound past a moment, where there is one
abbrev pub NotPast : Moment → ℕ → ℕ → Type 0
NotPast None bound t = Unit {0}
NotPast (Some m) bound t = t ≤ m.0 + bound

-- a moment that is not ahead has been reached, and one that has been reached is not ahead
pub reached : (m : Moment) (t : ℕ) → is_ahead m t ≡ false → Reached m t
unfolding is_ahead
reached None t e = absurd (false≢true (sym e))
reached (Some m) t e = ltb-false _ _ e

pub not_ahead : (m : Moment) (t : ℕ) → Reached m t → is_ahead m t ≡ false
unfolding is_ahead
not_ahead None t h = absurd h
not_ahead (Some m) t h = le-ltb _ _ h

-- the same of a bound after it
pub not_past : (m : Moment) (bound t : ℕ) → past_due m bound t ≡ false → NotPast m bound t
unfolding past_due
not_past None bound t e = tt
not_past (Some m) bound t e = ltb-false _ _ e

pub not_past_due : (m : Moment) (bound t : ℕ) → NotPast m bound t → past_due m bound t ≡ false
unfolding past_due
not_past_due None bound t h = refl
not_past_due (Some m) bound t h = le-ltb _ _ h

-- there is a moment exactly where it can be given
pub is_at : (m : Moment) → is_never m ≡ false → (since : ℕ) × (m ≡ at since)
unfolding is_never
is_at None e = absurd (false≢true (sym e))
is_at (Some since) e = (since.0, refl)

pub not_never : (m : Moment) (since : ℕ) → m ≡ at since → is_never m ≡ false
unfolding is_never
not_never m since e = ap is_never e
