-- When a PFC frame is due: a mark that changes makes one due at the clock unless one is due, whose first moment stands; the refresh is
-- dated last start + I. Assumes nothing but what each law says.
use Prim.Native.Nat.{ℕ, ◌+◌, ◌^◌, ◌<◌, ◌≤◌}
use mathlib.Core.Path.{◌≡◌, refl, ap}
use mathlib.Core.Bool.{Bool, true, false}
use native.Mathlib.Omega.{arith}
use borrow.Author.Tests.{le-leb, lt-leb}
use Rattle.ground.proofs.Pick.{pick_yes, pick_no}
use Rattle.units.specs.declared.OctetTimes.{OctetTimes}
use Rattle.std.specs.Prelude.{None, Some}
use Rattle.moments.specs.Moments.{Moment, at, due_on, refresh_from, due_by}

-- "until then its first moment stands"
pub due_stands : (changed : Bool) (clock : ℕ) (first : OctetTimes) → due_on changed clock (Some first) ≡ Some first
unfolding due_on
due_stands true clock first = refl
due_stands false clock first = refl

-- "PFC becomes due when any wanted mark changes"
pub due_on_change : (clock : ℕ) → due_on true clock None ≡ at clock
unfolding due_on
due_on_change clock = refl

-- and by no mark that stays
pub due_on_none : (clock : ℕ) (due : Moment) → due_on false clock due ≡ due
unfolding due_on
due_on_none clock None = refl
due_on_none clock (Some first) = refl

-- no PFC frame has started: no refresh
pub no_refresh_unstarted : (refresh : ℕ) → refresh_from None refresh ≡ None
unfolding refresh_from
no_refresh_unstarted refresh = refl

-- the refresh is dated last start + I, where 64 bits hold it
pub refresh_after_start : (started refresh : ℕ) → started + refresh < 2 ^ 64 → refresh_from (at started) refresh ≡ at (started + refresh)
unfolding refresh_from
refresh_after_start started refresh small = ap (λ (k : ℕ). at k) (omega arith)

module _ (clock : ℕ) where
  -- a refresh leaves a due moment as it stands
  pub refresh_stands : (refresh : Moment) (first : OctetTimes) → due_by refresh clock (Some first) ≡ Some first
  unfolding due_by
  refresh_stands refresh first = refl

  -- "dated from that moment even inside a step": from the moment on it is due since then, before it is not
  pub due_at_refresh : (moment : ℕ) → moment ≤ clock → due_by (at moment) clock None ≡ at moment
  unfolding due_by
  due_at_refresh moment reached = pick_yes _ _ (le-leb _ _ reached)

  pub not_due_before : (moment : ℕ) → clock < moment → due_by (at moment) clock None ≡ None
  unfolding due_by
  not_due_before moment early = pick_no _ _ (lt-leb _ _ early)

  pub not_due_without : due_by None clock None ≡ None
  unfolding due_by
  not_due_without = refl
