-- 41 is tried before the walk: where it holds, whether a bound is overrun does not matter. And the number of a wait. Assumes nothing.
use Prim.Native.Nat.{ℕ}
use mathlib.Core.Path.{◌≡◌, refl}
use mathlib.Core.Bool.{Bool, true, false}
use mathlib.Core.List.{List}
use Rattle.std.specs.Prelude.{Result}
use lib.Dec.{ltb}
use Rattle.ground.specs.First.{first_of}
use Rattle.ground.specs.Pick.{pick}
use Rattle.refusals.specs.Refusals.{number_of}
use Rattle.refusals.specs.declared.Refusal.{Refusal}
use Rattle.refusals.proofs.Refused.{order_number}
use Rattle.recorder.specs.declared.Watch.{Watch}
use Rattle.decisions.specs.Chains.{wait_order, wait_number, last_moment}
use Rattle.bench_state.specs.declared.Bench.{Bench}
use Rattle.waiting.specs.Waiting.{waiting_number, waited_by}

pub far_first : (reached : ℕ) (late : Bool) → (wait_number reached false ≡ 0 → ⊥) → wait_number reached false ≡ wait_number reached late
unfolding wait_number pick first_of
far_first reached late some = go (ltb last_moment reached) some
  where
    go : (b : Bool) → (◌≡◌ {A = ℕ} (pick b 41 (pick false 40 0)) 0 → ⊥) →
        ◌≡◌ {A = ℕ} (pick b 41 (pick false 40 0)) (pick b 41 (pick late 40 0))
    go true nonzero = refl
    go false nonzero = absurd (nonzero refl)

-- an answer that is the wait's bears its number
pub waited_number : (w : Watch) (bench : Bench) (data_ends pfc_ends : List ℕ) (n : ℕ) {answer : Result Bench Refusal} →
    answer ≡ waited_by w bench data_ends pfc_ends n → number_of answer ≡ waiting_number w bench data_ends pfc_ends n
unfolding waited_by waiting_number wait_number
waited_number w bench data_ends pfc_ends n is = order_number (wait_order _ _) _ _ is refl
