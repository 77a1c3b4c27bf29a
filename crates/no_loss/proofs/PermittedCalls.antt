-- Calls of the public step lose nothing, stated about the function's own contract: whatever the contract permits each of the calls to answer,
-- where each takes over the memory that the one before left. For whoever calls the step without the program around it. Assumes accepted
-- settings, with T in its two octets, and that the first call's memory has its places and holds the empty state.
use Prim.Native.Nat.{ℕ, ◌<◌}
use mathlib.Core.Path.{◌≡◌, refl, sym, ap, subst, ◌∙◌}
use mathlib.Core.List.{List, [], ◌∷◌}
use contract.Lifetimes.{Lfts}
use borrow.Fn.Kinds.{Dens, res_t, ended_of}
use denote.Triple.Clauses.{AtExit}
use Rattle.settings.specs.declared.Settings.{Settings}
use Rattle.settings.specs.Settings.{settings_refusal}
use Rattle.recorder.specs.declared.Watch.{Watch}
use Rattle.bench_meaning.specs.State.{empty}
use Rattle.bench_state.specs.Answered.{bench_after}
use Rattle.bench_memory.specs.Memory.{Memory, memory_of, view_of, Lent}
use Rattle.bench_memory.specs.Answers.{step_memory}
use Rattle.bench_steps.proofs.step.step.Kinds as step_kinds
use Rattle.bench_steps.proofs.step.step.Reads as step
use Rattle.no_loss.specs.Runs.{watch_of}
use Rattle.no_loss.specs.Calls.{after_calls, CallsLoseNothing}
use Rattle.no_loss.proofs.Calls.{calls_lose_nothing}

-- the memory that is lent to a call, and the one that it leaves: by value what it answers, or what went before where it is refused
module _ (κs : Lfts 6) where
  abbrev pub memory_lent : Dens κs step_kinds.ps → Memory
  memory_lent args =
      memory_of args.1.0 args.1.1.0.now args.1.1.1.0.now args.1.1.1.1.0.now args.1.1.1.1.1.0.now
      args.1.1.1.1.1.1.0.now

  abbrev pub memory_left : Dens κs step_kinds.ps → (res_t step_kinds.r κs).Denot → AtExit (ended_of 6 step_kinds.ps step_kinds.r) κs → Memory
  memory_left args answer exit =
      memory_of (bench_after answer args.1.0) exit.1.1.0.now exit.1.1.1.0.now exit.1.1.1.1.0.now exit.1.1.1.1.1.0.now
      exit.1.1.1.1.1.1.0.now

-- a call with these octets takes one memory over and leaves another, as the contract permits
pub record Permitted (w : Watch) (taken : Memory) (octets : List ℕ) (left : Memory) : Type 0 where
  pub κs : Lfts 6
  pub args : Dens κs step_kinds.ps
  pub answer : (res_t step_kinds.r κs).Denot
  pub exit : AtExit (ended_of 6 step_kinds.ps step_kinds.r) κs
  pub promised : step.Post κs args answer exit
  pub watch_is : args.0 ≡ w
  pub taken_is : memory_lent κs args ≡ taken
  pub octets_are : args.1.1.1.1.1.1.1.0.now ≡ octets
  pub left_is : memory_left κs args answer exit ≡ left

-- calls in a row: each takes over the memory that the one before left
pub data InARow (w : Watch) : Memory → List (List ℕ) → Memory → Type 0 where
  none : {m : Memory} → InARow w m [] m
  call : {m then left : Memory} {octets : List ℕ} {calls : List (List ℕ)} → Permitted w m octets then → InARow w then calls left →
      InARow w m (octets ∷ calls) left

-- they leave the memory of the definition
left_by : {w : Watch} {m left : Memory} {calls : List (List ℕ)} → InARow w m calls left → left ≡ after_calls w m calls
unfolding after_calls
left_by InARow.none = refl
left_by {w} {m} (InARow.call {octets = octets} {calls = calls} one others) =
    let is = sym one.left_is ∙ one.promised.1.1 ∙ (λ i. step_memory (one.watch_is i) (one.taken_is i) (one.octets_are i)) in
    left_by others ∙ ap (λ (next : Memory). after_calls w next calls) is

pub permitted_calls_lose_nothing : (s : Settings) → settings_refusal s ≡ 0 → s.pause < 65536 → (m : Memory) → Lent m →
    view_of m ≡ empty (watch_of s) → (calls : List (List ℕ)) (left : Memory) → InARow (watch_of s) m calls left → CallsLoseNothing s calls left
permitted_calls_lose_nothing s accepted fits m lent start calls left row =
    subst (CallsLoseNothing s calls) (sym (left_by row)) (calls_lose_nothing s accepted fits m lent start calls)
