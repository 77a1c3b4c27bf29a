-- A request's timers by marks of the bits, as the private functions go about it. A law ties them to `Timers`.
use Rattle.std.specs.Prelude.{ℕ, Bool, true, false, List, slice_index, slice_index_or}
use Rattle.ground.specs.Eight.{eight}

-- set where e[n] is set and PFC enabled, else kept
abbrev pub replaced_if : Bool → Bool → ℕ → ℕ → ℕ
replaced_if true true time timer = time
replaced_if true false time timer = timer
replaced_if false enabled time timer = timer

-- timer n
abbrev pub replaced_at : List Bool → List Bool → List ℕ → List ℕ → ℕ → ℕ
replaced_at e enabled times timers n = replaced_if (slice_index_or e n false) (slice_index_or enabled n false) (slice_index times n) (slice_index timers n)

-- the eight
abbrev pub replaced_all : List Bool → List Bool → List ℕ → List ℕ → List ℕ
replaced_all e enabled times timers = eight (replaced_at e enabled times timers)
