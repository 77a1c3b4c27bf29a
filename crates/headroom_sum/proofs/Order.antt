-- The sum's tests as its code makes them, and its items: for the stages of `sum`. Assumes nothing.
use Prim.Native.Nat.{ℕ, ◌≤◌, ◌<◌}
use mathlib.Core.Path.{◌≡◌, refl, sym, ◌∙◌}
use mathlib.Core.Bool.{Bool, true, false}
use mathlib.Core.List.{[], ◌∷◌}
use native.Mathlib.Omega.{arith}
use borrow.Author.Tests.{lt-ltb, le-ltb, ltb-false}
use lib.Dec.{ltb}
use Rattle.std.specs.Prelude.{⊤, Result, Ok, Err, IsErrAnd}
use Rattle.ground.specs.Pick.{pick}
use Rattle.ground.specs.First.{◌gives◌, first_of, test_at, is_among, are_apart}
use Rattle.ground.proofs.Pick.{pick_yes, pick_no}
use Rattle.ground.proofs.First.{first_given}
use Rattle.ground.proofs.Passing.{neither}
use Rattle.refusals.specs.Refusals.{refused_or, numbered_in}
use Rattle.refusals.specs.declared.Refusal.{Refusal}
use Rattle.refusals.proofs.Refused.{ok_is, err_is, handed_on}
use Rattle.units.specs.declared.BitTimes.{BitTimes}
use Rattle.units.specs.Units.{bits_of_quanta}
use Rattle.limits.specs.Limits.{largest_delay, largest_path, refused13, delay_over, path_over}
use Rattle.room_to_keep.specs.Keep.{kept, keeping, keep_refusal, refused14}
use Rattle.room_to_keep.specs.declared.Kept.{Kept}
use Rattle.room_to_keep.proofs.Room.{is_14}
use Rattle.headroom_sum.specs.Rates.{halt_limit, refused10, limit_order, limit_answer}
use Rattle.headroom_sum.specs.Headroom.{largest_metres, least_percentage, largest_percentage, total_bits, refused11, refused12, refused19}
use Rattle.headroom_sum.specs.Sum.{items, link_of, request_of, data_of, stations_over, paths_over, over14, sum_refusal, summed}
use Rattle.headroom_sum.specs.Stages.{from_m, Linked, BeforePaths}
use Rattle.headroom_sum.specs.declared.Inputs.{Inputs}
use Rattle.headroom_sum.specs.declared.Items.{Items}
use Rattle.headroom_sum.proofs.Exactly.{answered_by}
use Rattle.headroom_sum.proofs.Rate.{is_no_rate}

-- what the station delays' test says where it does not hold
pub record Fitting (b_transmit b_receive a_transmit a_receive : ℕ) : Type 0 where
  pub b_transmit_fits : b_transmit ≤ largest_delay
  pub b_receive_fits : b_receive ≤ largest_delay
  pub a_transmit_fits : a_transmit ≤ largest_delay
  pub a_receive_fits : a_receive ≤ largest_delay

pub stations_within : {i : Inputs} → BeforePaths i →
    Fitting i.b_transmit.0 i.b_receive.0 i.a_transmit.0 i.a_receive.0
stations_within {i} b =
    let one = neither (delay_over i.b_transmit.0) _ b.stations
    in let two = neither (delay_over i.b_receive.0) _ one.1
    in let three = neither (delay_over i.a_transmit.0) _ two.1
    in record {
      b_transmit_fits = ltb-false _ _ one.0;
      b_receive_fits = ltb-false _ _ two.0;
      a_transmit_fits = ltb-false _ _ three.0;
      a_receive_fits = ltb-false _ _ three.1;
    }

-- the halt delay against its limit, as the code tests it
pub over_halt : (rate halt halting : ℕ) → halting ≡ bits_of_quanta (halt_limit rate) → halting < halt → refused19 rate halt ≡ true
over_halt rate halt halting e h = lt-ltb (bits_of_quanta (halt_limit rate)) halt (omega arith)

pub within_halt : (rate halt halting : ℕ) → halting ≡ bits_of_quanta (halt_limit rate) → halt ≤ halting → refused19 rate halt ≡ false
within_halt rate halt halting e h = le-ltb (bits_of_quanta (halt_limit rate)) halt (omega arith)

-- what a cable that passed leaves
pub record CablePassed (i : Inputs) : Type 0 where
  pub left : sum_refusal i ≡ first_of (from_m i)
  pub metres : i.metres ≤ largest_metres
  pub least : least_percentage ≤ i.percentage
  pub most : i.percentage ≤ largest_percentage

-- 11 and 12 in their order
pub in_order : (i : Inputs) {long outside : Bool} {number : ℕ} → long ≡ refused11 i.metres → outside ≡ refused12 i.percentage →
    number ≡ first_of (long gives 11 ∷ outside gives 12 ∷ []) → number ≡ first_of (refused11 i.metres gives 11 ∷ refused12 i.percentage gives 12 ∷ [])
in_order i is_long is_outside is = is ∙ rw (is_long, is_outside)

-- a cable that is refused decides the number, and one that passes leaves the rest of the order
module _ (i : Inputs) (no10 : refused10 i.rate ≡ false) where
  pub cable_refused : {number : ℕ} → number ≡ first_of (refused11 i.metres gives 11 ∷ refused12 i.percentage gives 12 ∷ []) →
      (number ≡ 0 → ⊥) → sum_refusal i ≡ number
  unfolding first_of pick
  cable_refused is some = pick_no _ _ no10 ∙ go (refused11 i.metres) (refused12 i.percentage) is some
    where
      go : (b11 b12 : Bool) {number : ℕ} → number ≡ pick b11 11 (pick b12 12 0) → (number ≡ 0 → ⊥) →
          pick b11 11 (pick b12 12 (first_of (from_m i))) ≡ number
      go true b12 is some = sym is
      go false true is some = sym is
      go false false is some = absurd (some is)

  pub cable_passed : {outside : Bool} → outside ≡ refused12 i.percentage →
      ◌≡◌ {A = Result ⊤ Refusal} (Ok tt) (refused_or (first_of (refused11 i.metres gives 11 ∷ outside gives 12 ∷ [])) tt) → CablePassed i
  unfolding are_apart is_among test_at first_of pick
  cable_passed is_outside told =
      let none = sym (in_order i refl is_outside refl) ∙ (ok_is _ tt told).0
      in let each = (first_given (refused11 i.metres gives 11 ∷ refused12 i.percentage gives 12 ∷ []) refl).none_only none
      in let e11 : refused11 i.metres ≡ false = each 0 (omega arith)
      in let e12 : refused12 i.percentage ≡ false = each 1 (omega arith)
      in let within = neither (ltb i.percentage least_percentage) _ e12
      in record {
        left = pick_no _ _ no10 ∙ (pick_no _ _ e11 ∙ pick_no _ _ e12);
        metres = ltb-false _ _ e11;
        least = ltb-false _ _ within.0;
        most = ltb-false _ _ within.1;
      }

-- what is handed on by `?`: a refusal of the rate, of the cable, or of the generation and the paths
module _ (i : Inputs) (refusal : Refusal) (answer : Result Items Refusal) (is_err : IsErrAnd answer (λ e. e ≡ refusal)) where
  pub refused_by_rate : Err refusal ≡ limit_answer i.rate → answer ≡ summed i
  unfolding limit_answer first_of
  refused_by_rate told =
      let over = is_no_rate i.rate refusal told in
      handed_on (first_of (limit_order i.rate)) _ (items i) refusal answer is_err told ∙ answered_by i (pick_yes _ _ over ∙ sym (pick_yes _ _ over))

  pub refused_by_cable : refused10 i.rate ≡ false → {outside : Bool} → outside ≡ refused12 i.percentage →
      ◌≡◌ {A = Result ⊤ Refusal} (Err refusal) (refused_or (first_of (refused11 i.metres gives 11 ∷ outside gives 12 ∷ [])) tt) → answer ≡ summed i
  refused_by_cable no10 {outside} is_outside told =
      let tried = in_order i refl is_outside refl in
      handed_on _ tt (items i) refusal answer is_err told ∙ answered_by i (cable_refused i no10 tried (err_is _ tt told).0)

  pub refused_by_paths : BeforePaths i → {request «data» : ℕ} → request ≡ request_of i → «data» ≡ data_of i →
      Err refusal ≡ keeping i.largest i.generation.0 request «data» → answer ≡ summed i
  unfolding keeping first_of pick
  refused_by_paths at {request} {«data»} is_request is_data told =
      let over : refused14 i.generation.0 request «data» ≡ true =
      is_14 i.largest i.generation.0 request «data» refusal at.largest told in
      let number : keep_refusal i.largest i.generation.0 request «data» ≡ 14 = pick_no _ _ at.largest ∙ pick_yes _ _ over in
      let over14 : over14 i ≡ true = pick_no _ _ at.stations ∙ rw (is_request, is_data) at over in
      handed_on _ (kept i.largest i.generation.0 request «data») (items i) refusal answer is_err told ∙
      answered_by i (at.left ∙ pick_yes _ _ over14 ∙ sym number)

either : (b r d : Bool) → r ≡ true → pick b true (pick r true d) ≡ true
unfolding pick
either true r d e = refl
either false r d e = simp e

module _ (i : Inputs) where
  -- a halt above a path's limit by itself puts the request path above it
  pub halt_alone : largest_path < i.halt.0 → paths_over i ≡ true
  halt_alone h =
      either (delay_over i.generation.0) (path_over (request_of i)) (path_over (data_of i))
      (lt-ltb largest_path (request_of i) (omega arith))

  -- items made of the parts are the definition's
  pub items_made : (link request «data» total : BitTimes) (room : Kept) →
      link.0 ≡ link_of i → request.0 ≡ request_of i → «data».0 ≡ data_of i →
      total.0 ≡ total_bits i.largest i.generation.0 request.0 «data».0 →
      room ≡ kept i.largest i.generation.0 (request_of i) (data_of i) →
      ◌≡◌ {A = Items} (record { link = link; request_path = request; data_path = «data»; total = total; room = room }) (items i)
  items_made link request «data» total room el er ed et ek = rw (et, el, er, ed, ek)

-- where the sum stands past M and the station delays, and what it answers where it goes no further: for `after_link`
module _ {i : Inputs} {link halting : ℕ} (at : Linked i link halting) where
  pub refused_by_m : refused13 i.largest ≡ true → Err Refusal.LargestFrame ≡ summed i
  unfolding refused_or numbered_in first_of pick
  refused_by_m over = answered_by i (at.left ∙ pick_yes _ _ over)

  module _ (no13 : refused13 i.largest ≡ false) where
    pub refused_by_station : stations_over i ≡ true → Err Refusal.Delay ≡ summed i
    unfolding refused_or numbered_in first_of pick
    refused_by_station over = answered_by i (at.left ∙ (pick_no _ _ no13 ∙ pick_yes _ _ (pick_yes _ _ over)))

    module _ (no_station : stations_over i ≡ false) where
      pub past_stations : BeforePaths i
      unfolding first_of
      past_stations = record { left = at.left ∙ pick_no _ _ no13; largest = no13; stations = no_station }

      pub refused_by_halt : largest_path < i.halt.0 → Err Refusal.Delay ≡ summed i
      unfolding refused_or numbered_in first_of pick
      refused_by_halt over = answered_by i (past_stations.left ∙ pick_yes _ _ (pick_no _ _ no_station ∙ halt_alone i over))
