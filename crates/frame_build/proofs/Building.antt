-- What building leaves in a buffer that it accepts, and how its parts are put together. Each law assumes what it states.
use Prim.Native.Nat.{ℕ, ◌≤◌, ◌%◌}
use mathlib.Core.Path.{◌≡◌, refl, ap, ◌∙◌}
use mathlib.Core.Bool.{Bool, true, false}
use lib.Dec.{eqb, ltb}
use borrow.Author.Tests.{ltb-false}
use Rattle.ground.specs.Pick.{pick}
use Rattle.ground.specs.First.{GivenExactly, are_apart, first_of, is_among}
use Rattle.ground.proofs.First.{given_exactly}
use Rattle.std.specs.Prelude.{Result, ⊤}
use mathlib.Core.List.{List, [], ◌∷◌, ◌++◌, append_assoc}
use native.Mathlib.Omega.{arith}
use lib.ListN.{length, drop, get_or}
use lib.Seq.{take_at, drop_at}
use borrow.Rule.Slice.PartMut.{put_mid}
use Rattle.octets.specs.Numbers.{word_octets}
use Rattle.refusals.specs.declared.Refusal.{Refusal}
use Rattle.refusals.specs.Refusals.{number_of}
pub use Rattle.refusals.specs.Refusals.{refused_or, numbered_in}
use Rattle.refusals.proofs.Refused.{order_number}
use Rattle.frame_build.specs.Build.{order_by, building_order, build_verdict, all_time_octets, buffer_for, buffer_after}

-- where nothing is refused the buffer has room for the frame
pub has_room : (size first : ℕ) → first_of (order_by size first) ≡ 0 → 60 ≤ size
unfolding first_of pick
has_room size first = go (ltb size 60) refl
  where
    go : (a : Bool) → ltb size 60 ≡ a → ◌≡◌ {A = ℕ} (pick a 5 (pick (eqb (first % 2) 1) 6 0)) 0 → 60 ≤ size
    go true p e = omega arith
    go false p e = omega (arith, ltb-false)

module _ (size : ℕ) (source : List ℕ) where
  pub build_number : number_of (build_verdict size source) ≡ first_of (building_order size source)
  unfolding build_verdict
  build_number = order_number (building_order size source) (tt {0}) (build_verdict size source) refl refl

  -- an answer that is the definition's bears the order's number
  pub bears : {answer : Result ⊤ Refusal} → answer ≡ build_verdict size source → number_of answer ≡ first_of (building_order size source)
  bears is = ap number_of is ∙ build_number

  -- "Each is given exactly when its condition holds and none earlier in the order does": 5, 6
  pub building_given : GivenExactly (building_order size source) (number_of (build_verdict size source))
  unfolding are_apart is_among pick
  building_given = given_exactly (building_order size source) refl build_number

-- the buffer that goes with an answer of the definition's
pub buffer_left : (source : List ℕ) (e : ℕ) (times buffer after : List ℕ) {answer : Result ⊤ Refusal} → answer ≡ build_verdict (length buffer) source →
    after ≡ buffer_for answer source e times buffer → after ≡ buffer_after source e times buffer
buffer_left source e times buffer after is left = left ∙ ap (λ (found : Result ⊤ Refusal). buffer_for found source e times buffer) is

-- eight times, two octets each
pub times_joined : (times : List ℕ) {t0 t1 t2 t3 t4 t5 t6 t7 : List ℕ} →
    t0 ≡ word_octets (get_or times 0 0) → t1 ≡ word_octets (get_or times 1 0) → t2 ≡ word_octets (get_or times 2 0) → t3 ≡ word_octets (get_or times 3 0) →
    t4 ≡ word_octets (get_or times 4 0) → t5 ≡ word_octets (get_or times 5 0) → t6 ≡ word_octets (get_or times 6 0) → t7 ≡ word_octets (get_or times 7 0) →
    (get_or t0 0 0 ∷ get_or t0 1 0 ∷ get_or t1 0 0 ∷ get_or t1 1 0 ∷ get_or t2 0 0 ∷ get_or t2 1 0 ∷ get_or t3 0 0 ∷ get_or t3 1 0 ∷
    get_or t4 0 0 ∷ get_or t4 1 0 ∷ get_or t5 0 0 ∷ get_or t5 1 0 ∷ get_or t6 0 0 ∷ get_or t6 1 0 ∷ get_or t7 0 0 ∷ get_or t7 1 0 ∷ []) ≡ all_time_octets times
times_joined times p0 p1 p2 p3 p4 p5 p6 p7 = rw (p0, p1, p2, p3, p4, p5, p6, p7)

-- the times put after the lead, in the place of 16 of the octets there
pub parts_joined : (lead times rest : List ℕ) → length lead ≡ 18 → put_mid 18 16 (lead ++ rest) times ≡ lead ++ times ++ drop 16 rest
parts_joined lead times rest long = rw (take_at lead rest 18 long, drop_at lead rest 18 long) (simp append_assoc)
