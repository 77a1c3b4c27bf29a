-- The state of the bench: a clock, two stations, and two directions of the link with the frames under way in each, oldest first.
use Rattle.std.specs.Prelude.{ℕ, List, [], ◌∷◌}
use Rattle.octets.specs.Numbers.{octet_at, word_at, word_octets}
use Rattle.head.specs.declared.Head.{Head}
use Rattle.head.specs.Timers.{start}
use Rattle.recorder.specs.declared.Watch.{Watch}
use Rattle.recorder.specs.Watching.{Recorder, fresh}

-- a frame under way: when its wire time ends, and its octets. "PFC frames are kept as their 60 octets"; of a data frame the body of the
-- record that started it is kept, "priority 1, length 2"
pub record Frame : Type 0 where
  pub end : ℕ
  pub octets : List ℕ

-- the three octets kept of a data frame
abbrev pub data_octets : ℕ → ℕ → List ℕ
data_octets priority length = priority ∷ word_octets length

abbrev pub priority_of : Frame → ℕ
priority_of frame = octet_at frame.octets 0

abbrev pub length_of : Frame → ℕ
length_of frame = word_at frame.octets 1

-- a direction of the link: the moment from which its wire is free, and the frames under way, oldest first
pub record Direction : Type 0 where
  pub free : ℕ
  pub row : List Frame

pub record State : Type 0 where
  pub clock : ℕ
  pub head : Head
  pub recorder : Recorder
  -- data frames go to B, PFC frames to A
  pub to_b : Direction
  pub to_a : Direction

-- a direction with a free wire and no frame under way
abbrev pub idle : Direction
idle = record { free = 0; row = [] }

-- "Time starts at 0, buffers empty."
abbrev pub empty_for : ℕ → State
empty_for enabled = record { clock = 0; head = start enabled; recorder = fresh; to_b = idle; to_a = idle }

abbrev pub empty : Watch → State
empty w = empty_for w.settings.enabled

-- the state with another head, recorder or direction
abbrev pub with_head : State → Head → State
with_head s head = record { clock = s.clock; head = head; recorder = s.recorder; to_b = s.to_b; to_a = s.to_a }

abbrev pub with_recorder : State → Recorder → State
with_recorder s recorder = record { clock = s.clock; head = s.head; recorder = recorder; to_b = s.to_b; to_a = s.to_a }

abbrev pub with_to_b : State → Direction → State
with_to_b s direction = record { clock = s.clock; head = s.head; recorder = s.recorder; to_b = direction; to_a = s.to_a }

abbrev pub with_to_a : State → Direction → State
with_to_a s direction = record { clock = s.clock; head = s.head; recorder = s.recorder; to_b = s.to_b; to_a = direction }
