-- How the code holds a state: what goes by value, the numbers of the rooms, and for each direction the ends and the slots of its frames.
use Rattle.std.specs.Prelude.{ℕ, ◌*◌, ◌/◌, ◌≤◌, Bool, false, List, length, ltb, leb}
use Rattle.ground.specs.Pick.{pick}
use Rattle.head.specs.declared.Head.{Head}
use Rattle.marks.specs.declared.Marks.{Marks}
use Rattle.recorder.specs.Watching.{recorder_of}
use Rattle.rows.specs.Rows.{Lane, seen, put}
use Rattle.rows.specs.declared.Direction.{Direction}
use Rattle.decisions.specs.Chains.{most_under_way}
use Rattle.bench_meaning.specs.State.{State}
use Rattle.bench_state.specs.declared.Bench.{Bench}

pub record Memory : Type 0 where
  pub clock : ℕ
  pub head : Head
  pub marks : Marks
  pub rooms : List (List ℕ)
  pub to_b : Lane
  pub to_a : Lane

-- a direction's value with its two arrays
abbrev pub lane_of : Direction → List ℕ → List ℕ → Lane
lane_of direction ends slots = record { free = direction.free.0; count = direction.count; ends = ends; slots = slots }

-- a memory of its parts
abbrev pub memory_of : Bench → List (List ℕ) → List ℕ → List ℕ → List ℕ → List ℕ → Memory
memory_of bench rooms data_ends data_slots pfc_ends pfc_slots =
    record {
      clock = bench.clock.0;
      head = bench.head;
      marks = bench.marks;
      rooms = rooms;
      to_b = lane_of bench.to_b data_ends data_slots;
      to_a = lane_of bench.to_a pfc_ends pfc_slots;
    }

-- and what goes by value of a lane and of a memory
abbrev pub direction_of : Lane → Direction
direction_of lane = record { free = record { 0 = lane.free }; count = lane.count }

abbrev pub bench_of : Memory → Bench
bench_of m =
    record {
      clock = record { 0 = m.clock };
      head = m.head;
      marks = m.marks;
      to_b = direction_of m.to_b;
      to_a = direction_of m.to_a;
    }

-- the octets of a slot: of a data frame the body that started it, of a PFC frame its 60
abbrev pub data_width : ℕ
data_width = 3

abbrev pub pfc_width : ℕ
pfc_width = 60

-- the state that a memory holds
unfoldable pub view_of : Memory → State
view_of m =
    record {
      clock = m.clock;
      head = m.head;
      recorder = recorder_of m.rooms m.marks;
      to_b = seen data_width m.to_b;
      to_a = seen pfc_width m.to_a;
    }

-- the memory once it holds a state: places that hold no frame stay as they were
unfoldable pub holding : Memory → State → Memory
holding m s =
    record {
      clock = s.clock;
      head = s.head;
      marks = s.recorder.marks;
      rooms = s.recorder.rooms;
      to_b = put m.to_b s.to_b;
      to_a = put m.to_a s.to_a;
    }

-- arrays of these sizes have a direction's 128 places, and no more frames are under way
unfoldable pub fits_in : ℕ → ℕ → ℕ → ℕ → Bool
fits_in width count ends slots =
    pick (ltb most_under_way count) false (pick (ltb ends most_under_way) false (leb width (slots / most_under_way)))

unfoldable pub lane_fits : ℕ → Lane → Bool
lane_fits width lane = fits_in width lane.count (length lane.ends) (length lane.slots)

-- both directions have their places
unfoldable pub fitting : Memory → Bool
fitting m = pick (lane_fits data_width m.to_b) (lane_fits pfc_width m.to_a) false

-- the same as facts
pub record LaneLent (width : ℕ) (lane : Lane) : Type 0 where
  pub few : lane.count ≤ 128
  pub ends : 128 ≤ length lane.ends
  pub slots : width * 128 ≤ length lane.slots

pub record Lent (m : Memory) : Type 0 where
  pub to_b : LaneLent data_width m.to_b
  pub to_a : LaneLent pfc_width m.to_a
