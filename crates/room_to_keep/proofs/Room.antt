-- Laws of what `keep` answers, for its callers: what a room and a refusal say of the inputs. Assumes nothing.
use Prim.Native.Nat.{ℕ, ◌+◌, ◌≤◌}
use mathlib.Core.Path.{◌≡◌, refl, sym}
use mathlib.Core.Bool.{Bool, true, false, false≢true}
use mathlib.Core.List.{[], ◌∷◌}
use native.Mathlib.Omega.{arith}
use borrow.Author.Tests.{ltb-false}
use lib.Dec.{ltb}
use Rattle.std.specs.Prelude.{⊤, Result, Ok, Err}
use Rattle.ground.specs.Pick.{pick}
use Rattle.ground.specs.First.{◌gives◌, first_of, test_at, is_among, are_apart}
use Rattle.ground.proofs.First.{first_given}
use Rattle.ground.proofs.Passing.{neither}
use Rattle.refusals.specs.Refusals.{refused_or}
use Rattle.refusals.specs.declared.Refusal.{Refusal}
use Rattle.refusals.proofs.Refused.{ok_is, err_is}
use Rattle.units.specs.declared.OctetTimes.{OctetTimes}
use Rattle.units.specs.Units.{octets_of_bits, wire_time}
use Rattle.limits.specs.Limits.{least_m, largest_m, largest_delay, largest_path, refused13, delay_over, path_over}
use Rattle.room_to_keep.specs.Keep.{one_way, refused14, keep_order, keep_refusal, kept, keeping}
use Rattle.room_to_keep.specs.declared.Kept.{Kept}

-- the bounds behind a room
pub record Within (largest generation request «data» : ℕ) : Type 0 where
  pub most : largest ≤ largest_m
  pub least : least_m ≤ largest
  pub generation_most : generation ≤ largest_delay
  pub request_most : request ≤ largest_path
  pub data_most : «data» ≤ largest_path

-- what a room says: nothing was refused, and it is the one of the definitions
pub record IsRoom (largest generation request «data» : ℕ) (room : Kept) : Type 0 where
  pub no13 : refused13 largest ≡ false
  pub no14 : refused14 generation request «data» ≡ false
  pub bounds : Within largest generation request «data»
  pub is : room ≡ kept largest generation request «data»

module _ (largest generation request «data» : ℕ) where
  pub within : refused13 largest ≡ false → refused14 generation request «data» ≡ false → Within largest generation request «data»
  within e13 e14 =
      let m = neither (ltb largest least_m) (ltb largest_m largest) e13
      in let g = neither (delay_over generation) (pick (path_over request) true (path_over «data»)) e14
      in let p = neither (path_over request) (path_over «data») g.1
      in record {
        most = ltb-false _ _ m.1;
        least = ltb-false _ _ m.0;
        generation_most = ltb-false _ _ g.0;
        request_most = ltb-false _ _ p.0;
        data_most = ltb-false _ _ p.1;
      }

  -- neither 13 nor 14
  pub not_refused : keep_refusal largest generation request «data» ≡ 0 → (refused13 largest ≡ false) × (refused14 generation request «data» ≡ false)
  unfolding are_apart is_among test_at pick
  not_refused none =
      let each = (first_given (keep_order largest generation request «data») refl).none_only none
      in (each 0 (omega arith), each 1 (omega arith))

  pub is_room : (room : Kept) → Ok room ≡ keeping largest generation request «data» → IsRoom largest generation request «data» room
  unfolding keeping
  is_room room e =
      let told = ok_is _ (kept largest generation request «data») e
      in let h = not_refused told.0
      in record { no13 = h.0; no14 = h.1; bounds = within h.0 h.1; is = told.1 }

  -- a refusal of an M that passes is 14's
  pub is_14 : (refusal : Refusal) → refused13 largest ≡ false → Err refusal ≡ keeping largest generation request «data» →
      refused14 generation request «data» ≡ true
  unfolding keeping first_of pick
  is_14 refusal no13 e = go (refused13 largest) (refused14 generation request «data») no13 (err_is _ (kept largest generation request «data») e).0
    where
      go : (b13 b14 : Bool) → b13 ≡ false → (◌≡◌ {A = ℕ} (pick b13 13 (pick b14 14 0)) 0 → ⊥) → b14 ≡ true
      go true b14 no13 some = absurd (false≢true (sym no13))
      go false true no13 some = refl
      go false false no13 some = absurd (some refl)

  -- tests that refuse nothing: the bounds hold
  pub passed : {outside over : Bool} → outside ≡ refused13 largest → over ≡ refused14 generation request «data» →
      ◌≡◌ {A = Result ⊤ Refusal} (Ok tt) (refused_or (first_of (outside gives 13 ∷ over gives 14 ∷ [])) tt) → Within largest generation request «data»
  passed is_outside is_over told =
      let h = not_refused ((rw (is_outside, is_over) at (ok_is _ tt told).0)) in within h.0 h.1

  -- a room made of its six counts is the definition's
  pub room_made : (g w p d o h : OctetTimes) →
      g.0 ≡ octets_of_bits generation → w.0 ≡ wire_time largest → p.0 ≡ octets_of_bits request → d.0 ≡ octets_of_bits «data» →
      o.0 ≡ one_way largest generation request → h.0 ≡ o.0 + wire_time largest + octets_of_bits «data» →
      ◌≡◌ {A = Kept}
      (record { generation = g; wire = w; request = p; «data» = d; one_way = o; headroom = h })
      (kept largest generation request «data»)
  room_made g w p d o h eg ew ep ed eo eh = rw (eh, eg, ew, ep, ed, eo)
