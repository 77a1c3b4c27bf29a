-- Calls of the public step one after the other, each with the octets of one record.
use Rattle.std.specs.Prelude.{ℕ, ◌≤◌, true, List, [], ◌∷◌, ◌≡◌}
use Rattle.settings.specs.declared.Settings.{Settings}
use Rattle.settings.specs.Settings.{is_enabled, headroom_of}
use Rattle.recorder.specs.declared.Watch.{Watch}
use Rattle.recorder.specs.Watching.{room_at}
use Rattle.records.specs.Records.{Asked, decoded}
use Rattle.bench_memory.specs.Memory.{Memory, view_of, Lent}
use Rattle.bench_memory.specs.Answers.{step_memory}
use Rattle.no_loss.specs.Runs.{reached}

-- the memory after the calls, the first one first
unfoldable pub after_calls : Watch → Memory → List (List ℕ) → Memory
after_calls w m [] = m
after_calls w m (octets ∷ calls) = after_calls w (step_memory w m octets) calls

-- the records that the calls ask for
unfoldable pub records_of : List (List ℕ) → List Asked
records_of [] = []
records_of (octets ∷ calls) = decoded octets ∷ records_of calls

-- calls that left a memory lost nothing: it has its places still and holds the state that the records reach, and of each enabled priority
-- no octet is dropped and no wanted span brought more than the headroom
pub record CallsLoseNothing (s : Settings) (calls : List (List ℕ)) (left : Memory) : Type 0 where
  pub places : Lent left
  pub holds : view_of left ≡ reached s (records_of calls)
  pub none_dropped : (priority : ℕ) → is_enabled s.enabled priority ≡ true → (room_at (view_of left).recorder priority).dropped ≡ 0
  pub within_headroom : (priority : ℕ) → is_enabled s.enabled priority ≡ true → (room_at (view_of left).recorder priority).worst ≤ headroom_of s
