-- The laws of choice, for its callers: what a class and none say of the fronts, the paused marks and, of a head, the timers, in the words
-- of `specs/Answers`. Assumes nothing.
use mathlib.Core.Path.{◌≡◌, refl, sym, subst, ◌∙◌}
use mathlib.Core.Bool.{Bool, true, false, false≢true, not, ◌&&◌}
use mathlib.Core.List.{List}
use Prim.Native.Nat.{ℕ, ◌<◌}
use native.Mathlib.Omega.{arith}
use borrow.Author.Tests.{ltb-true, ltb-false, le-ltb, lt-ltb, not-true}
use lib.Dec.{ltb}
use lib.ListN.{get_or}
use Rattle.std.specs.Prelude.{Option, Some, None, Ok}
use Rattle.refusals.proofs.Refused.{ok_is}
use Rattle.ground.specs.Eight.{eight}
use Rattle.head.specs.declared.Head.{Head}
use Rattle.head.specs.Timers.{is_paused, timer}
use Rattle.head.proofs.Timers.{mark_paused}
use Rattle.choice.specs.Choice.{choice, choice_at, highest, may_go}
use Rattle.choice.specs.Answers.{Free, FreeAt, HighestOf, NoneOf}
use Rattle.choice.proofs.Highest.{Highest, highest_right}
use Rattle.choice.proofs.Highest.Highest.{found, none}

-- the free mark, taken apart and made
mark_free : (front : ℕ) (present paused : Bool) → ltb front 8 ≡ present → (present && not paused) ≡ true → (front < 8) × (paused ≡ false)
mark_free front true paused p e = (ltb-true front 8 p, not-true paused e)
mark_free front false paused p e = absurd (false≢true e)

free_found : (fronts : List ℕ) (paused : List Bool) (c : ℕ) → may_go fronts paused c ≡ true → Free fronts paused c
free_found fronts paused c e = mark_free (get_or fronts c 0) (ltb (get_or fronts c 0) 8) (get_or paused (get_or fronts c 0) false) refl e

not_free : (fronts : List ℕ) (paused : List Bool) (c : ℕ) → may_go fronts paused c ≡ false → Free fronts paused c → ⊥
not_free fronts paused c e h = false≢true (sym e ∙ simp (lt-ltb (get_or fronts c 0) 8 h.0, h.1))

module _ (fronts map : List ℕ) (paused : List Bool) where
  -- an answer that is not refused is the highest that may go
  answered : {answer : Option ℕ} → choice fronts map paused ≡ Ok answer → highest (may_go fronts paused) 8 ≡ answer
  unfolding choice
  answered e = sym (ok_is _ _ (sym e)).1

  -- a class that is answered: its front is present and not paused, and no class above it has such a front
  pub class_answered : (c : ℕ) → choice fronts map paused ≡ Ok (Some c) → HighestOf (Free fronts paused) c
  unfolding choice
  class_answered c e = told (subst (Highest (may_go fronts paused) 8) (answered e) (highest_right (may_go fronts paused) 8))
    where
      told : Highest (may_go fronts paused) 8 (Some c) → HighestOf (Free fronts paused) c
      told (found _ below holds above) = (below, free_found fronts paused c holds, λ d p q. not_free fronts paused d (above d p q))

  -- none: no class has one
  pub nothing_answered : choice fronts map paused ≡ Ok None → NoneOf (Free fronts paused)
  unfolding choice
  nothing_answered e = told (subst (Highest (may_go fronts paused) 8) (answered e) (highest_right (may_go fronts paused) 8))
    where
      told : Highest (may_go fronts paused) 8 None → NoneOf (Free fronts paused)
      told (none fails) = λ d q. not_free fronts paused d (fails d q)

module _ (head : Head) (fronts map : List ℕ) where
  -- not paused by a head's marks is a timer of 0
  free_at : (c : ℕ) → Free fronts (eight (is_paused head)) c → FreeAt head fronts c
  free_at c free =
      let unpaused = sym (mark_paused head (get_or fronts c 0) free.0) ∙ free.1 in
      (free.0, omega (arith, ltb-false 0 (timer head (get_or fronts c 0)) unpaused))

  free_of : (c : ℕ) → FreeAt head fronts c → Free fronts (eight (is_paused head)) c
  free_of c free = (free.0, mark_paused head (get_or fronts c 0) free.0 ∙ le-ltb 0 (timer head (get_or fronts c 0)) (omega (arith, free.1)))

  -- a head answers a class only where the timer of its front is 0, and no class above it has a front whose timer is 0
  pub class_at : (c : ℕ) → choice_at head fronts map ≡ Ok (Some c) → HighestOf (FreeAt head fronts) c
  class_at c e =
      let told = class_answered fronts map (eight (is_paused head)) c e in
      (told.0, free_at c told.1, λ d p q free. told.2 d p q (free_of d free))

  -- and none only where every present front's timer is above 0
  pub nothing_at : choice_at head fronts map ≡ Ok None → NoneOf (FreeAt head fronts)
  nothing_at e = λ d q free. nothing_answered fronts map (eight (is_paused head)) e d q (free_of d free)
