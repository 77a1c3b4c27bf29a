-- How lent arrays hold the frames under way in a direction, oldest first, over slots of any width.
use Rattle.std.specs.Prelude.{ℕ, zero, suc, ◌+◌, ◌-◌, min, List, [], ◌∷◌, ◌++◌, map, length, take, drop, get_or, eqb, leb, None}
use Rattle.ground.specs.Pick.{pick}
use Rattle.moments.specs.Moments.{Moment, at}
use Rattle.bench_meaning.specs.State.{Frame, Direction}

-- the frames that the first count places hold, each with the octets of its slot
unfoldable pub held_in : ℕ → ℕ → List ℕ → List ℕ → List Frame
held_in width zero ends slots = []
held_in width (suc count) [] slots = []
held_in width (suc count) (end ∷ ends) slots = record { end = end; octets = take width slots } ∷ held_in width count ends (drop width slots)

-- when the wire time of the oldest of them ends
unfoldable pub oldest_in : ℕ → List ℕ → Moment
oldest_in count ends = pick (eqb count 0) None (pick (eqb (length ends) 0) None (at (get_or ends 0 0)))

-- octets written at a place of a list, if they fit there
unfoldable pub written : ℕ → List ℕ → List ℕ → List ℕ
written place octets list =
    pick (leb (place + length octets) (length list)) (take place list ++ (octets ++ drop (place + length octets) list)) list

-- n of a list's places from the k-th on moved k places towards the front
abbrev pub moved_up : {A : Type 0} → ℕ → ℕ → List A → List A
moved_up k n list = take n (drop k list) ++ drop n list

-- as many of them as said, and no more than there are
unfoldable pub shifted : {A : Type 0} → ℕ → ℕ → List A → List A
shifted k count list = moved_up k (min count (length list - k)) list

-- a list's first places written over, the others as they were
abbrev pub over : List ℕ → List ℕ → List ℕ
over front old = front ++ drop (length front) old

-- the ends of a row of frames, and their octets one after the other
abbrev pub ends_of : List Frame → List ℕ
ends_of frames = map (λ (f : Frame). f.end) frames

unfoldable pub slots_of : List Frame → List ℕ
slots_of [] = []
slots_of (frame ∷ frames) = frame.octets ++ slots_of frames

-- a direction as the code holds it: what goes by value, and its two arrays
pub record Lane : Type 0 where
  pub free : ℕ
  pub count : ℕ
  pub ends : List ℕ
  pub slots : List ℕ

-- the direction that a lane holds, in slots of a width
unfoldable pub seen : ℕ → Lane → Direction
seen width lane = record { free = lane.free; row = held_in width lane.count lane.ends lane.slots }

-- the lane once it holds a direction: places that hold no frame stay as they were
unfoldable pub put : Lane → Direction → Lane
put lane direction =
    record {
      free = direction.free;
      count = length direction.row;
      ends = over (ends_of direction.row) lane.ends;
      slots = over (slots_of direction.row) lane.slots;
    }
