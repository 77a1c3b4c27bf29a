-- What a step answers by value, and what it does to lent arrays: all of it where the number is 0, and nothing where it is not.
use Rattle.std.specs.Prelude.{ℕ, ◌+◌, ◌*◌, ◌-◌, Bool, List, Result, Ok, Err, ◌≡◌, ltb, eqb, length, set}
use Rattle.ground.specs.Pick.{pick}
use Rattle.refusals.specs.declared.Refusal.{Refusal}
use Rattle.head.specs.declared.Head.{Head}
use Rattle.marks.specs.declared.Marks.{Marks}
use Rattle.moments.specs.Moments.{is_ahead}
use Rattle.decisions.specs.Chains.{arrive_number}
use Rattle.rows.specs.Rows.{oldest_in, written, shifted}
use Rattle.rows.specs.declared.Direction.{Direction}
use Rattle.units.specs.declared.OctetTimes.{OctetTimes}
use Rattle.bench_state.specs.declared.Bench.{Bench}

-- what goes by value after a step: what it answers, or what went before where it is refused
abbrev pub bench_after : Result Bench Refusal → Bench → Bench
bench_after (Ok next) before = next
bench_after (Err refusal) before = before

-- "the wire is busy" until the moment from which it is free
abbrev pub busy_until : ℕ → ℕ → Bool
busy_until free clock = ltb clock free

-- 37 of a direction: the oldest frame's wire time has not ended, or none is under way
unfoldable pub ended_in : ℕ → List ℕ → ℕ → ℕ
ended_in count ends clock = arrive_number (is_ahead (oldest_in count ends) clock)

-- what a value is after a record with this number: another where it is accepted, and as it was where it is refused
unfoldable pub if_accepted {ℓ} : {A : Type ℓ} → ℕ → A → A → A
if_accepted number next before = pick (eqb number 0) next before

-- what goes by value with other marks, another head, or another direction
abbrev pub with_marks : Bench → Marks → Bench
with_marks b marks = record { clock = b.clock; head = b.head; marks = marks; to_b = b.to_b; to_a = b.to_a }

abbrev pub with_head : Bench → Head → Bench
with_head b head = record { clock = b.clock; head = head; marks = b.marks; to_b = b.to_b; to_a = b.to_a }

abbrev pub with_to_b : Bench → Direction → Bench
with_to_b b direction = record { clock = b.clock; head = b.head; marks = b.marks; to_b = direction; to_a = b.to_a }

abbrev pub with_to_a : Bench → Direction → Bench
with_to_a b direction = record { clock = b.clock; head = b.head; marks = b.marks; to_b = b.to_b; to_a = direction }

-- a frame more is under way, and its wire time ends then
abbrev pub joined_by : Direction → OctetTimes → Direction
joined_by direction end = record { free = end; count = direction.count + 1 }

-- the oldest frame has gone
abbrev pub left_by : Direction → Direction
left_by direction = record { free = direction.free; count = direction.count - 1 }

-- the arrays of a direction before and after a record that puts a frame behind the others
pub record Pushed (number : ℕ) (direction : Direction) (end : ℕ) (octets ends slots ends' slots' : List ℕ) : Type 0 where
  pub ends_are : ends' ≡ if_accepted number (set ends direction.count end) ends
  pub slots_are : slots' ≡ if_accepted number (written (length octets * direction.count) octets slots) slots

-- and one with which the oldest leaves
pub record Left (number : ℕ) (direction : Direction) (width : ℕ) (ends slots ends' slots' : List ℕ) : Type 0 where
  pub ends_are : ends' ≡ if_accepted number (shifted 1 (direction.count - 1) ends) ends
  pub slots_are : slots' ≡ if_accepted number (shifted width (width * (direction.count - 1)) slots) slots
