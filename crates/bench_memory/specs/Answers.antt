-- What one step answers on a memory: a refusal or what goes by value, and the memory after it.
use Rattle.std.specs.Prelude.{ℕ, ◌≡◌, List, Result, eqb}
use Rattle.ground.specs.Pick.{pick}
use Rattle.refusals.specs.Refusals.{number_of, refused_or}
use Rattle.refusals.specs.declared.Refusal.{Refusal}
use Rattle.recorder.specs.declared.Watch.{Watch}
use Rattle.records.specs.Records.{Asked, decoded}
use Rattle.bench_meaning.specs.Step.{refusal_of, next_of}
use Rattle.bench_state.specs.declared.Bench.{Bench}
use Rattle.bench_memory.specs.Memory.{Memory, bench_of, view_of, holding, fitting}

-- the memory after a record is asked: the next state, or all as it was
unfoldable pub memory_for : Watch → Memory → Asked → Memory
memory_for w m asked = pick (eqb (refusal_of w (view_of m) asked) 0) (holding m (next_of w (view_of m) asked)) m

-- a step's number, its answer and its memory
pub record Answers (w : Watch) (m : Memory) (asked : Asked) (answer : Result Bench Refusal) (then : Memory) : Type 0 where
  pub number_is : number_of answer ≡ refusal_of w (view_of m) asked
  pub answer_is : answer ≡ refused_or (refusal_of w (view_of m) asked) (bench_of then)
  pub memory_is : then ≡ memory_for w m asked

-- the number of a record's octets on any memory: 36 where it lacks the places
unfoldable pub step_number : Watch → Memory → List ℕ → ℕ
step_number w m octets = pick (fitting m) (refusal_of w (view_of m) (decoded octets)) 36

-- the memory after them; as it was where it lacks the places or the record is refused
unfoldable pub step_memory : Watch → Memory → List ℕ → Memory
step_memory w m octets = pick (fitting m) (memory_for w m (decoded octets)) m
