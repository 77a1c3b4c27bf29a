-- A wait: from the walk that the code takes and the bounds that it tries to what a step answers. It assumes that the arrays have their
-- places.
use Prim.Native.Nat.{ℕ, ◌+◌, ◌≤◌, ◌^◌}
use mathlib.Core.Path.{◌≡◌, refl, sym, ap, ◌∙◌}
use mathlib.Core.Bool.{Bool, true, false}
use mathlib.Core.List.{List}
use native.Mathlib.Omega.{arith}
use Rattle.std.specs.Prelude.{Result, Ok}
use lib.Dec.{ltb}
use borrow.Author.Tests.{ltb-true, ltb-false, lt-ltb, le-ltb}
use Rattle.ground.specs.First.{first_of}
use Rattle.ground.specs.Pick.{pick}
use Rattle.ground.proofs.Pick.{pick_yes}
use Rattle.units.specs.Units.{within64}
use Rattle.refusals.specs.Refusals.{number_of}
use Rattle.refusals.specs.declared.Refusal.{Refusal}
use Rattle.recorder.specs.declared.Watch.{Watch}
use Rattle.marks.specs.Marks.{refresh_of}
use Rattle.records.specs.declared.Record.TheVariants.{Wait}
use Rattle.decisions.specs.Chains.{wait_number, last_moment}
use Rattle.rows.specs.Rows.{seen}
use Rattle.walk.specs.Walk.{walked_on}
use Rattle.walk.specs.declared.Walk.{Walk}
use Rattle.bench_meaning.specs.Step.{due_then, overrun, refusal_of, next_of, waited}
use Rattle.bench_memory.specs.Memory.{Memory, memory_of, view_of, holding, data_width, pfc_width, Lent}
use Rattle.bench_memory.specs.Answers.{Answers}
use Rattle.waiting.specs.Waiting.{walk_from, after_walk, overrun_by, late_after, waiting_number, waited_by}
use Rattle.bench_state.specs.Answered.{bench_after}
use Rattle.bench_state.proofs.Either.{either_same}
use Rattle.bench_state.specs.declared.Bench.{Bench}
use Rattle.bench_memory.proofs.Answered.{answers_by, holds, to_b_stays, to_a_stays}
use Rattle.moments.proofs.Bounds.{past_cut}
use Rattle.walk.proofs.WalkLaws.{walked_near}
use Rattle.rows.proofs.Lanes.{oldest_seen}

-- 41 by the moment cut off at 2^64 is 41 by the moment itself
cut_far : (moment : ℕ) → ltb last_moment (within64 moment) ≡ ltb last_moment moment
cut_far moment = go (ltb last_moment moment) refl
  where
    go : (b : Bool) → ltb last_moment moment ≡ b → ltb last_moment (within64 moment) ≡ b
    go true e = lt-ltb last_moment (within64 moment) (omega (arith, ltb-true last_moment moment e))
    go false e = le-ltb last_moment (within64 moment) (omega (arith, ltb-false last_moment moment e))

-- where 41 does not hold, time stays within 2^40
near_passed : (moment : ℕ) (late : Bool) → wait_number moment late ≡ 0 → moment ≤ 2 ^ 40
unfolding wait_number pick first_of
near_passed moment late e = go (ltb last_moment moment) refl e
  where
    go : (b : Bool) → ltb last_moment moment ≡ b → ◌≡◌ {A = ℕ} (pick b 41 (pick late 40 0)) 0 → moment ≤ 2 ^ 40
    go true is z = absurd (omega arith)
    go false is z = ltb-false last_moment moment is

module _ (w : Watch) (bench : Bench) (r : List (List ℕ)) (e s p o : List ℕ) (n : ℕ) where
  abbrev m : Memory
  m = memory_of bench r e s p o

  module _ (near : bench.clock.0 + n ≤ 2 ^ 40) where
    walk_is : walk_from w bench n ≡
        walked_on (record { clock = bench.clock; head = bench.head; due = bench.marks.due }) (refresh_of w.settings.refresh.0 bench.marks) n
    unfolding walk_from
    walk_is = walked_near _ _ n (omega arith)

    -- 40 where the walk ends is 40 of the definition
    late_is : late_after w bench e p (walk_from w bench n) ≡ overrun w (view_of m) (bench.clock.0 + n)
    unfolding late_after overrun_by overrun view_of seen
    late_is =
        ap (late_after w bench e p) walk_is ∙
        rw (
          oldest_seen data_width m.to_b,
          oldest_seen pfc_width m.to_a,
          past_cut (due_then w (view_of m) (bench.clock.0 + n)) (w.kept.generation.0 + w.kept.wire.0) (bench.clock.0 + n) (omega arith),
        )
        refl

    wait_memory : Lent m → memory_of (after_walk bench (walk_from w bench n)) r e s p o ≡ holding m (next_of w (view_of m) (Ok (Wait n)))
    unfolding next_of waited view_of after_walk
    wait_memory lent =
        ap (λ (k : Walk). memory_of (after_walk bench k) r e s p o) walk_is ∙
        holds m (waited w (view_of m) n) (to_b_stays w m lent) (to_a_stays w m lent)

  abbrev late : Bool
  late = late_after w bench e p (walk_from w bench n)

  -- the number that the code finds is the definition's
  wait_number_lem : wait_number (within64 (bench.clock.0 + n)) late ≡ refusal_of w (view_of m) (Ok (Wait n))
  unfolding refusal_of view_of wait_number first_of
  wait_number_lem =
      ap (λ (b : Bool). pick {A = ℕ} b 41 (pick late 40 0)) (cut_far (bench.clock.0 + n)) ∙ go (ltb last_moment (bench.clock.0 + n)) refl
    where
      go : (b : Bool) → ltb last_moment (bench.clock.0 + n) ≡ b →
          ◌≡◌ {A = ℕ} (pick b 41 (pick late 40 0)) (pick b 41 (pick (overrun w (view_of m) (bench.clock.0 + n)) 40 0))
      go true far = pick_yes _ _ refl ∙ sym (pick_yes _ _ refl)
      go false near =
          ap (λ (b : Bool). pick {A = ℕ} false 41 (pick b 40 0)) (late_is (ltb-false last_moment (bench.clock.0 + n) near))

  pub wait_answers : Lent m → {answer : Result Bench Refusal} → number_of answer ≡ waiting_number w bench e p n → answer ≡ waited_by w bench e p n →
      Answers w m (Ok (Wait n)) answer (memory_of (bench_after answer bench) r e s p o)
  unfolding waited_by waiting_number refusal_of view_of
  wait_answers lent is_number is =
      let number = wait_number (within64 (bench.clock.0 + n)) late in
      answers_by w (Ok (Wait n)) bench (after_walk bench (walk_from w bench n)) r r e s p o e s p o number wait_number_lem
      (λ none. wait_memory (near_passed (bench.clock.0 + n) _ (sym wait_number_lem ∙ none)) lent)
      (is_number, is) (either_same number r) (either_same number e) (either_same number s) (either_same number p) (either_same number o)
