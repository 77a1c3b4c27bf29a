-- A direction whose arrays have their 128 places: what is seen in them stays, joins and leaves as the rows' laws say.
use Prim.Native.Nat.{ℕ, zero, suc, ◌+◌, ◌*◌, ◌/◌, ◌<◌, ◌≤◌}
use mathlib.Core.Path.{◌≡◌, refl, sym, ap, ◌∙◌}
use mathlib.Core.Bool.{Bool, true, false, false≢true}
use mathlib.Core.List.{List, [], ◌∷◌, ◌++◌}
use native.Mathlib.Omega.{arith}
use native.Mathlib.Nat.{mul-suc, mul-le-mul_left}
use lib.Dec.{ltb, leb}
use lib.ListN.{length, get_or, take, drop, set, length-append, length-drop}
use lib.Seq.{length-take-le}
use borrow.Author.Tests.{ltb-false, le-ltb, leb-true, le-leb}
use Rattle.ground.specs.Pick.{pick}
use Rattle.ground.proofs.Pick.{pick_yes, pick_no}
use Rattle.rows.specs.Rows.{Lane, seen, put, held_in, written, shifted, over, slots_of}
use Rattle.rows.proofs.Held.{Wide, slots_length}
use Rattle.rows.proofs.Lanes as lanes
use Rattle.rows.proofs.Over.{over_length}
use Rattle.rows.proofs.Lanes.{Fits}
use Rattle.bench_meaning.specs.State.{Frame, Direction}
use Rattle.bench_memory.specs.Memory.{Memory, data_width, pfc_width, fits_in, lane_fits, fitting, LaneLent, Lent}

-- a frame as it stands in a lane's first place
abbrev pub oldest_of : ℕ → Lane → Frame
oldest_of width lane = record { end = get_or lane.ends 0 0; octets = take width lane.slots }

-- a lane with a frame more, and without its oldest
abbrev pub joined_lane : Lane → ℕ → List ℕ → Lane
joined_lane lane end octets =
    record {
      free = end;
      count = lane.count + 1;
      ends = set lane.ends lane.count end;
      slots = written (length octets * lane.count) octets lane.slots;
    }

abbrev pub left_lane : ℕ → Lane → ℕ → Lane
left_lane width lane left =
    record { free = lane.free; count = left; ends = shifted 1 left lane.ends; slots = shifted width (width * left) lane.slots }

-- a slot behind those of a count that is below 128 has its place
slot_fits : (width count : ℕ) → count < 128 → width * count + width ≤ width * 128
slot_fits width count few = omega (arith, mul-suc width count, mul-le-mul_left width few)

module _ (width : ℕ) (lane : Lane) (lent : LaneLent width lane) where
  pub counted : lane.count ≡ length (seen width lane).row
  counted = sym (lanes.counted width lane (omega (arith, lent)))

  pub stay : lane ≡ put lane (seen width lane)
  stay = sym (lanes.stay width lane (omega (arith, lent)))

  pub joins : (end : ℕ) (octets : List ℕ) → lane.count < 128 → length octets ≡ width →
      joined_lane lane end octets ≡ put lane (record { free = end; row = (seen width lane).row ++ (record { end = end; octets = octets } ∷ []) })
  joins end octets few wide =
      ap (λ (n : ℕ). lanes.lane_of end (lane.count + 1) (set lane.ends lane.count end) (written (n * lane.count) octets lane.slots)) wide ∙
      lanes.joined width lane end end octets wide (omega (arith, lent)) (omega (arith, lent, slot_fits width lane.count few))

  pub leaves : (left : ℕ) → lane.count ≡ left + 1 →
      (rest : List Frame) × ((seen width lane).row ≡ oldest_of width lane ∷ rest) ×
      (left_lane width lane left ≡ put lane (record { free = lane.free; row = rest }))
  leaves left is =
      let place : left < length lane.ends = omega (arith, lent) in
      let slot : width * left + width ≤ length lane.slots = omega (arith, lent, slot_fits width left (omega (arith, lent))) in
      (lanes.others_of width left lane, lanes.first_seen width left lane is place slot, lanes.left_behind width left lane is place slot)

-- a row has its place: at most 128 frames, each of a slot's octets
pub record Placed (width : ℕ) (row : List Frame) : Type 0 where
  pub few : length row ≤ 128
  pub wide : Wide width row

-- the frames in slots that are there are as wide as those
wide_seen : (width count : ℕ) (ends slots : List ℕ) → width * count ≤ length slots → Wide width (held_in width count ends slots)
unfolding held_in
wide_seen width zero ends slots room = tt
wide_seen width (suc count) [] slots room = tt
wide_seen width (suc count) (end ∷ ends) slots room =
    let more : width * count + width ≤ length slots = omega (arith, mul-suc width count) in
    (length-take-le width slots (omega arith), wide_seen width count ends (drop width slots) (omega (arith, length-drop width slots)))

wide_more : (width : ℕ) (row : List Frame) (frame : Frame) → Wide width row → length frame.octets ≡ width → Wide width (row ++ (frame ∷ []))
wide_more width [] frame wide here = (here, tt)
wide_more width (first ∷ row) frame wide here = (wide.0, wide_more width row frame wide.1 here)

-- one more frame has its place where fewer than 128 are under way
pub placed_more : (width : ℕ) (row : List Frame) (frame : Frame) → Placed width row → length row < 128 → length frame.octets ≡ width →
    Placed width (row ++ (frame ∷ []))
placed_more width row frame placed few here =
    record { few = omega (arith, length-append row (frame ∷ [])); wide = wide_more width row frame placed.wide here }

pub placed_less : (width : ℕ) (oldest : Frame) (rest : List Frame) → Placed width (oldest ∷ rest) → Placed width rest
placed_less width oldest rest placed = record { few = omega (arith, placed.few); wide = placed.wide.1 }

module _ (width : ℕ) (lane : Lane) (lent : LaneLent width lane) where
  pub placed_seen : Placed width (seen width lane).row
  unfolding seen
  placed_seen =
      record {
        few = omega (arith, lent, counted width lane lent);
        wide = wide_seen width lane.count lane.ends lane.slots (omega (arith, lent, mul-le-mul_left width lent.few));
      }

  module _ (direction : Direction) (placed : Placed width direction.row) where
    fits : Fits width lane direction
    fits = record { places = omega (arith, lent, placed.few); wide = placed.wide }

    pub back : seen width (put lane direction) ≡ direction
    back = lanes.back width lane direction fits

    pub put_lent : LaneLent width (put lane direction)
    unfolding put
    put_lent =
        let slots : length (over (slots_of direction.row) lane.slots) ≡ length lane.slots =
        over_length (slots_of direction.row) lane.slots
        (omega (arith, lent, slots_length width direction.row placed.wide, mul-le-mul_left width placed.few)) in
        record {
          few = placed.few;
          ends = omega (arith, lent, lanes.put_ends_length width lane direction fits);
          slots = omega (arith, lent, slots);
        }

-- the test of the places, and what it says
tried : (width count ends slots : ℕ) (a b : Bool) → ltb 128 count ≡ a → ltb ends 128 ≡ b →
    pick a false (pick b false (leb width (slots / 128))) ≡ true → (count ≤ 128) × (128 ≤ ends) × (width * 128 ≤ slots)
unfolding pick
tried width count ends slots true b p q e = absurd (false≢true e)
tried width count ends slots false true p q e = absurd (false≢true e)
tried width count ends slots false false p q e =
    let wide : width ≤ slots / 128 = leb-true width (slots / 128) e in
    (ltb-false 128 count p, ltb-false ends 128 q, omega arith)

pub lane_lent : (width : ℕ) (lane : Lane) → lane_fits width lane ≡ true → LaneLent width lane
unfolding lane_fits fits_in
lane_lent width lane e =
    let found = tried width lane.count (length lane.ends) (length lane.slots) _ _ refl refl e in
    record { few = found.0; ends = found.1; slots = found.2 }

pub lent_fits : (width : ℕ) (lane : Lane) → LaneLent width lane → lane_fits width lane ≡ true
unfolding lane_fits fits_in
lent_fits width lane lent =
    pick_no _ _ (le-ltb 128 lane.count lent.few) ∙
    pick_no _ _ (le-ltb (length lane.ends) 128 lent.ends) ∙
    le-leb width (length lane.slots / 128) (omega (arith, lent.slots))

-- of both directions
pub fitting_lent : (m : Memory) → fitting m ≡ true → Lent m
unfolding fitting pick
fitting_lent m = go (lane_fits data_width m.to_b) refl
  where
    go : (b : Bool) → lane_fits data_width m.to_b ≡ b → pick b (lane_fits pfc_width m.to_a) false ≡ true → Lent m
    go true p e = record { to_b = lane_lent data_width m.to_b p; to_a = lane_lent pfc_width m.to_a e }
    go false p e = absurd (false≢true e)

pub lent_fitting : (m : Memory) → Lent m → fitting m ≡ true
unfolding fitting
lent_fitting m lent = pick_yes _ _ (lent_fits data_width m.to_b lent.to_b) ∙ lent_fits pfc_width m.to_a lent.to_a
