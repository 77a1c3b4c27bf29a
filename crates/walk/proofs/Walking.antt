-- A walk, octet time by octet time, equals all of it at once. Assumes, where it says so, that the head has its eight timers.
use Prim.Native.Nat.{ℕ, ◌+◌, ◌-◌, ◌/◌, ◌%◌, ◌≤◌}
use mathlib.Core.Path.{◌≡◌, refl, sym, ap, ◌∙◌}
use mathlib.Core.Bool.{Bool, true, false}
use native.Mathlib.Omega.{arith}
use lib.Dec.{eqb}
use lib.ListN.{length}
use borrow.Author.Tests.{eqb-true, eqb-false}
use Rattle.ground.specs.Pick.{pick}
use Rattle.head.specs.declared.Head.{Head}
use Rattle.head.specs.Timers.{after_quanta}
use Rattle.head.proofs.Timers.{passed_none, passed_twice}
use Rattle.moments.specs.Moments.{Moment, due_by}
use Rattle.walk.specs.Walk.{walked_on}
use Rattle.walk.specs.Pacing.{head_at, paced_by, ticked}
use Rattle.walk.specs.declared.Pace.{Pace}
use Rattle.walk.specs.declared.Walk.{Walk}

-- a walk, and a pace, are their parts
abbrev pub walk_of : ℕ → Head → Moment → Walk
walk_of clock head due = record { clock = record { 0 = clock }; head = head; due = due }

abbrev pub pace_of : ℕ → Head → Pace
pace_of clock head = record { clock = record { 0 = clock }; head = head }

-- one more octet time: a quantum more exactly at a multiple of 64
module _ (head : Head) (from clock : ℕ) (later : from ≤ clock) where
  abbrev before : Head
  before = after_quanta head (clock / 64 - from / 64)

  quantum_more : head_at before (clock + 1) ≡ after_quanta head ((clock + 1) / 64 - from / 64)
  unfolding head_at pick
  quantum_more = go (eqb ((clock + 1) % 64) 0) refl
    where
      go : (b : Bool) → eqb ((clock + 1) % 64) 0 ≡ b → pick b (after_quanta before 1) before ≡ after_quanta head ((clock + 1) / 64 - from / 64)
      go true whole =
          let here : (clock + 1) % 64 ≡ 0 = eqb-true ((clock + 1) % 64) 0 whole in
          let more : clock / 64 - from / 64 + 1 ≡ (clock + 1) / 64 - from / 64 = omega arith in
          passed_twice head (clock / 64 - from / 64) 1 ∙ ap (after_quanta head) more
      go false part =
          let same : clock / 64 - from / 64 ≡ (clock + 1) / 64 - from / 64 = omega (arith, eqb-false ((clock + 1) % 64) 0 part) in
          ap (after_quanta head) same

module _ (pace : Pace) where
  abbrev clock : ℕ
  clock = pace.clock.0

  -- the pace where the clock has come to a moment
  abbrev at : ℕ → Pace
  at reached = pace_of reached (after_quanta pace.head (reached / 64 - clock / 64))

  pub pace_more : (i : ℕ) → ticked (paced_by pace i) ≡ paced_by pace (i + 1)
  unfolding ticked paced_by
  pace_more i =
      let moment : clock + i + 1 ≡ clock + (i + 1) = omega arith in
      ap (pace_of (clock + i + 1)) (quantum_more pace.head clock (clock + i) (omega arith)) ∙ ap at moment

  pub pace_none : length pace.head.timers ≡ 8 → pace ≡ paced_by pace 0
  unfolding paced_by
  pace_none long =
      let moment : clock ≡ clock + 0 = omega arith in
      let none : 0 ≡ clock / 64 - clock / 64 = omega arith in
      ap (pace_of clock) (sym (passed_none pace.head long) ∙ ap (after_quanta pace.head) none) ∙ ap at moment

-- the parts of a walk, once it was paced, are those of all of it at once
pub walk_paced : (refresh due after : Moment) (clock n : ℕ) (head : Head) (end : Pace) → end ≡ paced_by (pace_of clock head) n →
    after ≡ due_by refresh end.clock.0 due → walk_of end.clock.0 end.head after ≡ walked_on (walk_of clock head due) refresh n
unfolding paced_by
walk_paced refresh due after from n head end paced is_after =
    ap (walk_of end.clock.0 end.head) is_after
    ∙ ap (λ (p : Pace). walk_of p.clock.0 p.head (due_by refresh p.clock.0 due)) paced
