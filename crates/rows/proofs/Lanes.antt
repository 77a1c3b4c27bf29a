-- A lane and the direction that it holds: what is seen, what stays, a frame more, the oldest gone, and what was put in seen again.
-- Assumes nothing but the premises shown: that the places are there.
use Prim.Native.Nat.{ℕ, ◌+◌, ◌*◌, ◌<◌, ◌≤◌, min}
use mathlib.Core.Path.{◌≡◌, sym, ap, ◌∙◌}
use mathlib.Core.List.{List, [], ◌∷◌, ◌++◌, map-append, append_assoc}
use native.Mathlib.Omega.{arith}
use native.Mathlib.Nat.{mul-le-mul_left}
use native.Mathlib.Numerals.{add-one}
use lib.ListN.{length, get_or, take, drop, set, length-append, length-drop, length-map}
use lib.Seq.{length-take-le}
use Rattle.bench_meaning.specs.State.{Frame, Direction}
use Rattle.bench_meaning.specs.Step.{oldest_end}
use Rattle.rows.specs.Rows.{held_in, oldest_in, written, shifted, over, ends_of, slots_of, Lane, seen, put}
use Rattle.rows.proofs.Held.{frame_of, Wide, slots_append, slots_one, slots_length, held_count, held_clamp, held_bound}
use Rattle.rows.proofs.Held.{held_oldest, held_ends, held_slots, held_wide, held_front, held_back}
use Rattle.rows.proofs.Over.{over_same, over_pushed, over_many, over_left, over_length}
use Rattle.rows.proofs.Shifting.{shift_whole}
use Rattle.rows.proofs.Writing.{written_in}

abbrev pub lane_of : ℕ → ℕ → List ℕ → List ℕ → Lane
lane_of free count ends slots = record { free = free; count = count; ends = ends; slots = slots }

abbrev pub direction_of : ℕ → List Frame → Direction
direction_of free row = record { free = free; row = row }

-- the oldest frame of a lane, and the frames behind it
abbrev pub first_of : ℕ → Lane → Frame
first_of width lane = frame_of (get_or lane.ends 0 0) (take width lane.slots)

abbrev pub others_of : ℕ → ℕ → Lane → List Frame
others_of width left lane = held_in width left (drop 1 lane.ends) (drop width lane.slots)

-- a direction's row fits a lane: no more frames than places, each of a slot's octets
pub record Fits (width : ℕ) (lane : Lane) (direction : Direction) : Type 0 where
  pub places : length direction.row ≤ length lane.ends
  pub wide : Wide width direction.row

module _ (width : ℕ) (lane : Lane) where
  -- the end that the code reads is the oldest frame's
  pub oldest_seen : oldest_in lane.count lane.ends ≡ oldest_end (seen width lane).row
  unfolding seen
  oldest_seen = held_oldest width lane.count lane.ends lane.slots

  pub counted : lane.count ≤ length lane.ends → length (seen width lane).row ≡ lane.count
  unfolding seen
  counted room = held_count width lane.count lane.ends lane.slots room

  -- a count above the places shows as many frames as there are places
  pub clamped : seen width lane ≡ seen width (lane_of lane.free (min lane.count (length lane.ends)) lane.ends lane.slots)
  unfolding seen
  clamped = ap (direction_of lane.free) (held_clamp width lane.count lane.ends lane.slots)

  -- what is seen fits, where each place has a slot
  pub seen_fits : width * length lane.ends ≤ length lane.slots → Fits width lane (seen width lane)
  unfolding seen
  seen_fits room =
      record {
        places = held_bound width lane.count lane.ends lane.slots;
        wide = held_wide width lane.count lane.ends lane.slots room;
      }

  -- what is seen, put in again, changes nothing
  pub stay : lane.count ≤ length lane.ends → put lane (seen width lane) ≡ lane
  unfolding seen put
  stay room =
      let n = lane.count in
      let row = held_in width n lane.ends lane.slots in
      let ends : over (ends_of row) lane.ends ≡ lane.ends =
      ap (λ (w : List ℕ). over w lane.ends) (held_ends width n lane.ends lane.slots) ∙ over_same n lane.ends in
      let slots : over (slots_of row) lane.slots ≡ lane.slots =
      ap (λ (w : List ℕ). over w lane.slots) (held_slots width n lane.ends lane.slots room) ∙ over_same (width * n) lane.slots in
      λ i. lane_of lane.free (held_count width n lane.ends lane.slots room i) (ends i) (slots i)

module _ (width : ℕ) (lane : Lane) (direction : Direction) (fits : Fits width lane direction) where
  -- what was put in is what is seen
  pub back : seen width (put lane direction) ≡ direction
  unfolding seen put
  back =
      let row = direction.row in
      let again : held_in width (length row) (over (ends_of row) lane.ends) (over (slots_of row) lane.slots) ≡ row =
      held_back width row (drop (length (ends_of row)) lane.ends) (drop (length (slots_of row)) lane.slots) fits.wide in
      λ i. direction_of direction.free (again i)

  -- the arrays keep their lengths
  pub put_ends_length : length (put lane direction).ends ≡ length lane.ends
  unfolding put
  put_ends_length =
      over_length (ends_of direction.row) lane.ends (omega (arith, length-map direction.row (λ (f : Frame). f.end), fits.places))

  pub put_slots_length : width * length lane.ends ≤ length lane.slots → length (put lane direction).slots ≡ length lane.slots
  unfolding put
  put_slots_length room =
      over_length (slots_of direction.row) lane.slots
      (omega (arith, slots_length width direction.row fits.wide, mul-le-mul_left width fits.places))

-- a frame more behind the others: one place more of each array is written
module _ (width : ℕ) (lane : Lane) (free end : ℕ) (octets : List ℕ) (long : length octets ≡ width) (place : lane.count < length lane.ends)
    (slot : width * lane.count + width ≤ length lane.slots) where
  abbrev more : List Frame
  more = (seen width lane).row ++ (frame_of end octets ∷ [])

  more_count : length more ≡ lane.count + 1
  more_count = length-append (seen width lane).row (frame_of end octets ∷ []) ∙ ap (λ (n : ℕ). n + 1) (counted width lane (omega arith))

  more_ends : over (ends_of more) lane.ends ≡ set lane.ends lane.count end
  unfolding seen
  more_ends =
      let row = held_in width lane.count lane.ends lane.slots in
      ap (λ (w : List ℕ). over w lane.ends) (map-append (λ (f : Frame). f.end) row (frame_of end octets ∷ [])) ∙
      ap (λ (w : List ℕ). over (w ++ (end ∷ [])) lane.ends) (held_ends width lane.count lane.ends lane.slots) ∙
      over_pushed lane.count lane.ends end place

  more_slots : over (slots_of more) lane.slots ≡ written (width * lane.count) octets lane.slots
  unfolding seen
  more_slots =
      let n = width * lane.count in
      let first = take n lane.slots in
      let row = held_in width lane.count lane.ends lane.slots in
      let held : slots_of row ≡ first = held_slots width lane.count lane.ends lane.slots (omega arith) in
      let whole : length (first ++ octets) ≡ n + length octets =
      length-append first octets ∙ ap (λ (k : ℕ). k + length octets) (length-take-le n lane.slots (omega arith)) in
      ap (λ (w : List ℕ). over w lane.slots) (slots_append row (frame_of end octets ∷ [])) ∙
      ap (λ (w : List ℕ). over (w ++ slots_of (frame_of end octets ∷ [])) lane.slots) held ∙
      ap (λ (w : List ℕ). over (first ++ w) lane.slots) (slots_one (frame_of end octets)) ∙
      over_many (n + length octets) (first ++ octets) lane.slots whole ∙
      append_assoc first octets (drop (n + length octets) lane.slots) ∙
      sym (written_in n octets lane.slots (omega arith))

  pub joined : lane_of free (lane.count + 1) (set lane.ends lane.count end) (written (width * lane.count) octets lane.slots) ≡
      put lane (direction_of free ((seen width lane).row ++ (frame_of end octets ∷ [])))
  unfolding put
  joined = λ i. lane_of free (sym more_count i) (sym more_ends i) (sym more_slots i)

  -- the same of the arrays that `push` leaves
  pub pushed : (ends slots : List ℕ) → ends ≡ set lane.ends lane.count end →
      slots ≡ written (length octets * lane.count) octets lane.slots →
      lane_of free (lane.count + 1) ends slots ≡ put lane (direction_of free ((seen width lane).row ++ (frame_of end octets ∷ [])))
  pushed ends slots is_set is_written =
      let at_width : slots ≡ written (width * lane.count) octets lane.slots =
      is_written ∙ ap (λ (w : ℕ). written (w * lane.count) octets lane.slots) long in
      (λ i. lane_of free (lane.count + 1) (is_set i) (at_width i)) ∙ joined

-- the oldest frame gone: the others stand in the places moved up
module _ (width left : ℕ) (lane : Lane) (held : lane.count ≡ left + 1) (place : left < length lane.ends)
    (slot : width * left + width ≤ length lane.slots) where
  pub first_seen : (seen width lane).row ≡ first_of width lane ∷ others_of width left lane
  unfolding seen
  first_seen =
      ap (λ (n : ℕ). held_in width n lane.ends lane.slots) (held ∙ add-one left) ∙
      held_front width left lane.ends lane.slots place

  others_count : length (others_of width left lane) ≡ left
  others_count = held_count width left (drop 1 lane.ends) (drop width lane.slots) (omega (arith, length-drop 1 lane.ends))

  others_ends : over (ends_of (others_of width left lane)) lane.ends ≡ shifted 1 left lane.ends
  others_ends =
      ap (λ (w : List ℕ). over w lane.ends) (held_ends width left (drop 1 lane.ends) (drop width lane.slots)) ∙
      over_left 1 left lane.ends (omega arith) ∙
      sym (shift_whole 1 left lane.ends (omega arith))

  others_slots : over (slots_of (others_of width left lane)) lane.slots ≡ shifted width (width * left) lane.slots
  others_slots =
      ap (λ (w : List ℕ). over w lane.slots)
      (held_slots width left (drop 1 lane.ends) (drop width lane.slots) (omega (arith, length-drop 1 lane.ends))) ∙
      over_left width (width * left) lane.slots slot ∙
      sym (shift_whole width (width * left) lane.slots slot)

  pub left_behind : lane_of lane.free left (shifted 1 left lane.ends) (shifted width (width * left) lane.slots) ≡
      put lane (direction_of lane.free (others_of width left lane))
  unfolding put
  left_behind = λ i. lane_of lane.free (sym others_count i) (sym others_ends i) (sym others_slots i)

  -- the same of the arrays that `leave` leaves
  pub moved_up : (ends slots : List ℕ) → ends ≡ shifted 1 left lane.ends → slots ≡ shifted width (width * left) lane.slots →
      lane_of lane.free left ends slots ≡ put lane (direction_of lane.free (others_of width left lane))
  moved_up ends slots are_ends are_slots = (λ i. lane_of lane.free left (are_ends i) (are_slots i)) ∙ left_behind
