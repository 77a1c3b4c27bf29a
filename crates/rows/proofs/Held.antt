-- The frames that lent arrays hold in slots of one width, and the arrays that hold a row of frames. Assumes nothing but the premises shown.
use Prim.Native.Nat.{ℕ, zero, suc, ◌+◌, ◌*◌, ◌<◌, ◌≤◌, min}
use mathlib.Core.Path.{◌≡◌, refl, sym, ap, ◌∙◌}
use mathlib.Core.List.{List, [], ◌∷◌, ◌++◌, append_assoc, append-nil}
use native.Mathlib.Omega.{arith}
use native.Mathlib.Nat.{le_of_suc-le-suc, not-suc-le-zero, zero-min, min-zero, suc-min-suc, mul-zero, mul-suc}
use lib.ListN.{length, get_or, take, drop, length-append, length-drop}
use lib.Seq.{take_at, drop_at, take-add, length-take-le}
use borrow.Author.Tests.{eq-eqb, ne_eqb}
use Rattle.ground.proofs.Pick.{pick_yes, pick_no}
use Rattle.bench_meaning.specs.State.{Frame}
use Rattle.bench_meaning.specs.Step.{oldest_end}
use Rattle.rows.specs.Rows.{held_in, oldest_in, ends_of, slots_of}

abbrev pub frame_of : ℕ → List ℕ → Frame
frame_of end octets = record { end = end; octets = octets }

-- every frame has as many octets as a slot
abbrev pub Wide : ℕ → List Frame → Type 0
Wide width [] = Unit {0}
Wide width (frame ∷ frames) = (length frame.octets ≡ width) × Wide width frames

-- the octets of two rows, one behind the other
pub slots_append : (frames more : List Frame) → slots_of (frames ++ more) ≡ slots_of frames ++ slots_of more
unfolding slots_of
slots_append [] more = refl
slots_append (frame ∷ frames) more =
    ap (λ (l : List ℕ). frame.octets ++ l) (slots_append frames more) ∙
    sym (append_assoc frame.octets (slots_of frames) (slots_of more))

pub slots_one : (frame : Frame) → slots_of (frame ∷ []) ≡ frame.octets
unfolding slots_of
slots_one frame = append-nil frame.octets

module _ (width : ℕ) where
  -- as many frames as are counted
  pub held_count : (count : ℕ) (ends slots : List ℕ) → count ≤ length ends → length (held_in width count ends slots) ≡ count
  unfolding held_in
  held_count zero ends slots room = refl
  held_count (suc count) [] slots room = absurd (not-suc-le-zero room)
  held_count (suc count) (end ∷ ends) slots room = ap suc (held_count count ends (drop width slots) (le_of_suc-le-suc room))

  -- no more frames than places
  pub held_clamp : (count : ℕ) (ends slots : List ℕ) → held_in width count ends slots ≡ held_in width (min count (length ends)) ends slots
  unfolding held_in
  held_clamp zero ends slots = rw zero-min
  held_clamp (suc count) [] slots = rw min-zero
  held_clamp (suc count) (end ∷ ends) slots =
      rw suc-min-suc (ap (λ (frames : List Frame). frame_of end (take width slots) ∷ frames) (held_clamp count ends (drop width slots)))

  pub held_bound : (count : ℕ) (ends slots : List ℕ) → length (held_in width count ends slots) ≤ length ends
  unfolding held_in
  held_bound zero ends slots = omega arith
  held_bound (suc count) [] slots = omega arith
  held_bound (suc count) (end ∷ ends) slots = omega (arith, held_bound count ends (drop width slots))

  -- the oldest frame's end stands first
  pub held_oldest : (count : ℕ) (ends slots : List ℕ) → oldest_in count ends ≡ oldest_end (held_in width count ends slots)
  unfolding held_in oldest_in oldest_end
  held_oldest zero ends slots = pick_yes _ _ (eq-eqb 0 0 refl)
  held_oldest (suc count) [] slots = pick_no _ _ (ne_eqb (suc count) 0 (omega arith)) ∙ pick_yes _ _ (eq-eqb 0 0 refl)
  held_oldest (suc count) (end ∷ ends) slots =
      pick_no _ _ (ne_eqb (suc count) 0 (omega arith)) ∙ pick_no _ _ (ne_eqb (suc (length ends)) 0 (omega arith))

  -- the frames' ends and octets are the arrays' first places
  pub held_ends : (count : ℕ) (ends slots : List ℕ) → ends_of (held_in width count ends slots) ≡ take count ends
  unfolding held_in
  held_ends zero ends slots = refl
  held_ends (suc count) [] slots = refl
  held_ends (suc count) (end ∷ ends) slots = ap (λ (r : List ℕ). end ∷ r) (held_ends count ends (drop width slots))

  pub held_slots : (count : ℕ) (ends slots : List ℕ) → count ≤ length ends → slots_of (held_in width count ends slots) ≡ take (width * count) slots
  unfolding held_in slots_of
  held_slots zero ends slots room = ap (λ (n : ℕ). take n slots) (sym (mul-zero width))
  held_slots (suc count) [] slots room = absurd (not-suc-le-zero room)
  held_slots (suc count) (end ∷ ends) slots room =
      let more : width + width * count ≡ width * suc count = omega (arith, mul-suc width count) in
      ap (λ (l : List ℕ). take width slots ++ l) (held_slots count ends (drop width slots) (le_of_suc-le-suc room)) ∙
      sym (take-add width (width * count) slots) ∙
      ap (λ (n : ℕ). take n slots) more

  -- with a slot for each place, every frame has a slot's octets
  pub held_wide : (count : ℕ) (ends slots : List ℕ) → width * length ends ≤ length slots → Wide width (held_in width count ends slots)
  unfolding held_in
  held_wide zero ends slots room = tt
  held_wide (suc count) [] slots room = tt
  held_wide (suc count) (end ∷ ends) slots room =
      let more : width * length ends + width ≤ length slots = omega (arith, mul-suc width (length ends)) in
      (length-take-le width slots (omega arith), held_wide count ends (drop width slots) (omega (arith, length-drop width slots)))

  -- the oldest frame, and the others behind its places
  pub held_front : (left : ℕ) (ends slots : List ℕ) → left < length ends →
      held_in width (suc left) ends slots ≡ frame_of (get_or ends 0 0) (take width slots) ∷ held_in width left (drop 1 ends) (drop width slots)
  unfolding held_in
  held_front left [] slots room = absurd (not-suc-le-zero room)
  held_front left (end ∷ ends) slots room = refl

  -- a row written and read again
  pub held_back : (row : List Frame) (ends slots : List ℕ) → Wide width row → held_in width (length row) (ends_of row ++ ends) (slots_of row ++ slots) ≡ row
  unfolding held_in slots_of
  held_back [] ends slots wide = refl
  held_back (frame ∷ row) ends slots wide =
      let rest : List ℕ = slots_of row ++ slots in
      ap (λ (l : List ℕ). held_in width (suc (length row)) (frame.end ∷ (ends_of row ++ ends)) l) (append_assoc frame.octets (slots_of row) slots) ∙
      ap (λ (o : List ℕ). frame_of frame.end o ∷ held_in width (length row) (ends_of row ++ ends) (drop width (frame.octets ++ rest)))
      (take_at frame.octets rest width wide.0) ∙
      ap (λ (l : List ℕ). frame ∷ held_in width (length row) (ends_of row ++ ends) l) (drop_at frame.octets rest width wide.0) ∙
      ap (λ (r : List Frame). frame ∷ r) (held_back row ends slots wide.1)

  pub slots_length : (row : List Frame) → Wide width row → length (slots_of row) ≡ width * length row
  unfolding slots_of
  slots_length [] wide = sym (mul-zero width)
  slots_length (frame ∷ row) wide =
      omega (arith, length-append frame.octets (slots_of row), slots_length row wide.1, wide.0, mul-suc width (length row))
