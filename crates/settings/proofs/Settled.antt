-- What `settle` answers once its tests are known. Assumes nothing.
use Prim.Native.Nat.{ℕ, ◌+◌, ◌≤◌}
use mathlib.Core.Path.{◌≡◌, refl, sym, ap, ◌∙◌}
use mathlib.Core.Bool.{Bool, true, false, false≢true, ◌&&◌}
use mathlib.Core.List.{List, [], ◌∷◌}
use native.Mathlib.Omega.{arith}
use lib.Dec.{ltb, eqb}
use lib.ListN.{get_or}
use borrow.Author.Tests.{ltb-false, eq-eqb, ne_eqb}
use Rattle.std.specs.Prelude.{⊤, Result, Ok, Err, IsErrAnd}
use Rattle.ground.specs.Pick.{pick}
use Rattle.ground.specs.First.{Condition, ◌gives◌, first_of, test_at, is_among, are_apart}
use Rattle.ground.specs.Eight.{eight, is_set, some}
use Rattle.ground.proofs.Pick.{pick_yes, pick_no}
use Rattle.ground.proofs.First.{first_given}
use Rattle.refusals.specs.Refusals.{refused_or}
use Rattle.refusals.specs.declared.Refusal.{Refusal}
use Rattle.refusals.proofs.Refused.{not_refused, ok_is, err_is, handed_on}
use Rattle.limits.specs.Limits.{refused13}
use Rattle.room_to_keep.specs.Keep.{refused14, keep_refusal, kept, keeping}
use Rattle.room_to_keep.specs.declared.Kept.{Kept}
use Rattle.room_to_keep.proofs.Room.{is_room}
use Rattle.settings.specs.Settings.{one_way_of, refused17, refused18, refused16, refused15, largest_room, some_enabled, some_room_above, some_room_below}
use Rattle.settings.specs.Settings.{settings_refusal, settling}
use Rattle.settings.specs.Between.{house_refusal, Carries}
use Rattle.settings.specs.declared.Settings.{Settings}

-- what the headroom layer keeps for the settings
abbrev pub keeping_for : Settings → Result Kept Refusal
keeping_for s = keeping s.largest s.generation.0 s.request_path.0 s.data_path.0

abbrev pub kept_for : Settings → Kept
kept_for s = kept s.largest s.generation.0 s.request_path.0 s.data_path.0

-- marks tried on the enabled priorities: both sides' marks, then some of them
pub some_of_both : (enabled : ℕ) (marks : List Bool) {bits both : List Bool} {answer : Bool} →
    bits ≡ eight (is_set enabled) → both ≡ eight (λ n. get_or bits n false && get_or marks n false) → answer ≡ some both →
    answer ≡ some_enabled enabled (λ n. get_or marks n false)
unfolding some_enabled
some_of_both enabled marks is_bits is_both is =
    is ∙ ap some (is_both ∙ ap (λ (b : List Bool). eight (λ n. get_or b n false && get_or marks n false)) is_bits)

-- and marks that are a test's own
pub some_marked : (enabled : ℕ) (test : ℕ → Bool) {marks : List Bool} {answer : Bool} →
    marks ≡ eight test → answer ≡ some_enabled enabled (λ n. get_or marks n false) → answer ≡ some_enabled enabled test
unfolding some_enabled
some_marked enabled test is_marks is = is ∙ ap (λ (m : List Bool). some (eight (λ n. is_set enabled n && get_or m n false))) is_marks

-- 18 passed: the hysteresis is within its limit
pub calm : (enabled : ℕ) (rooms : List ℕ) (hysteresis : ℕ) → refused18 enabled rooms hysteresis ≡ false → hysteresis ≤ largest_room
unfolding pick
calm enabled rooms hysteresis = go (ltb largest_room hysteresis) refl (some_room_above enabled rooms largest_room)
  where
    go : (b : Bool) → ltb largest_room hysteresis ≡ b → (rest : Bool) → pick b true rest ≡ false → hysteresis ≤ largest_room
    go true over rest passed = absurd (false≢true (sym passed))
    go false within rest passed = ltb-false largest_room hysteresis within

module _ (s : Settings) where
  -- 16 and 15 are tried with the sums that were kept: those of the settings
  pub own_passage : (room : Kept) → Carries s room → {answer told : Bool} →
      answer ≡ refused16 s.pause s.refresh.0 room.one_way.0 → answer ≡ told → refused16 s.pause s.refresh.0 (one_way_of s) ≡ told
  own_passage room own is told = sym (is ∙ ap (refused16 s.pause s.refresh.0) own.passage) ∙ told

  pub own_headroom : (room : Kept) → Carries s room → {answer told : Bool} →
      answer ≡ some_room_below s.enabled s.rooms (room.headroom.0 + s.largest + s.hysteresis) → answer ≡ told → refused15 s ≡ told
  own_headroom room own is told =
      sym (is ∙ ap (λ (k : ℕ). some_room_below s.enabled s.rooms (k + s.largest + s.hysteresis)) own.headroom) ∙ told

  -- 17, 18 and 16 in their order: where one of them holds it decides, and where none does 15 is left
  module _ {b17 b18 b16 : Bool} (e17 : b17 ≡ refused17 s.refresh.0) (e18 : b18 ≡ refused18 s.enabled s.rooms s.hysteresis)
      (e16 : b16 ≡ refused16 s.pause s.refresh.0 (one_way_of s)) where
    abbrev pub bounds : List Condition
    bounds = b17 gives 17 ∷ b18 gives 18 ∷ b16 gives 16 ∷ []

    pub bounds_refused : (refusal : Refusal) (answer : Result ⊤ Refusal) → IsErrAnd answer (λ e. e ≡ refusal) →
        ◌≡◌ {A = Result ⊤ Refusal} (Err refusal) (refused_or (first_of bounds) tt) → answer ≡ refused_or (house_refusal s) tt
    unfolding first_of pick
    bounds_refused refusal answer is_err told =
        handed_on _ tt tt refusal answer is_err told ∙ ap (λ (n : ℕ). refused_or n tt) (decides (err_is _ tt told).0)
      where
        go : (b17 b18 b16 : Bool) → (◌≡◌ {A = ℕ} (pick b17 17 (pick b18 18 (pick b16 16 0))) 0 → ⊥) →
            ◌≡◌ {A = ℕ} (pick b17 17 (pick b18 18 (pick b16 16 0))) (pick b17 17 (pick b18 18 (pick b16 16 (pick (refused15 s) 15 0))))
        go true b18 b16 nonzero = refl
        go false true b16 nonzero = refl
        go false false true nonzero = refl
        go false false false nonzero = absurd (nonzero refl)

        decides : (first_of bounds ≡ 0 → ⊥) → first_of bounds ≡ house_refusal s
        decides nonzero = rw (sym e17, sym e18, sym e16) (go b17 b18 b16 nonzero)

    pub bounds_passed : ◌≡◌ {A = Result ⊤ Refusal} (Ok tt) (refused_or (first_of bounds) tt) →
        (house_refusal s ≡ pick (refused15 s) 15 0) × (b18 ≡ false)
    unfolding are_apart is_among test_at first_of pick
    bounds_passed told =
        let each = (first_given bounds refl).none_only (ok_is _ tt told).0 in
        let no17 = sym e17 ∙ each 0 (omega arith) in
        let no18 = each 1 (omega arith) in
        let no16 = sym e16 ∙ each 2 (omega arith) in
        (pick_no _ _ no17 ∙ (pick_no _ _ (sym e18 ∙ no18) ∙ pick_no _ _ no16), no18)

  -- 13 and 14 come first, by the headroom layer's definition
  abbrev sum_refusal : ℕ
  sum_refusal = keep_refusal s.largest s.generation.0 s.request_path.0 s.data_path.0

  sum_first : settings_refusal s ≡ pick (eqb sum_refusal 0) (house_refusal s) sum_refusal
  unfolding first_of pick
  sum_first = go (refused13 s.largest) (refused14 s.generation.0 s.request_path.0 s.data_path.0)
    where
      go : (b13 b14 : Bool) →
          pick b13 13 (pick b14 14 (house_refusal s)) ≡ pick (eqb (pick b13 13 (pick b14 14 0)) 0) (house_refusal s) (pick b13 13 (pick b14 14 0))
      go true b14 = refl
      go false true = refl
      go false false = refl

  -- what `?` hands on: refused by 13 or 14
  pub settled_by_sum : (refusal : Refusal) (answer : Result Kept Refusal) → IsErrAnd answer (λ e. e ≡ refusal) → Err refusal ≡ keeping_for s →
      answer ≡ settling s
  unfolding settling keeping
  settled_by_sum refusal answer is_err told =
      let some = (err_is sum_refusal (kept_for s) told).0 in
      handed_on sum_refusal (kept_for s) (kept_for s) refusal answer is_err told ∙
      ap (λ (n : ℕ). refused_or n (kept_for s)) (sym (sum_first ∙ pick_no _ _ (ne_eqb _ _ some)))

  -- neither 13 nor 14: the house rules decide
  module _ (room : Kept) (told : Ok room ≡ keeping_for s) where
    house_decides : settings_refusal s ≡ house_refusal s
    unfolding keeping
    house_decides = sum_first ∙ pick_yes _ _ (eq-eqb _ _ (ok_is sum_refusal (kept_for s) told).0)

    -- the whole of it: the house's number decides, and what is kept is the room
    pub house_settles : settling s ≡ refused_or (house_refusal s) room
    unfolding settling keeping
    house_settles =
        ap (λ (n : ℕ). refused_or n (kept_for s)) house_decides ∙
        ap (λ (k : Kept). refused_or (house_refusal s) k) (sym (ok_is sum_refusal (kept_for s) told).1)

    pub settled_by_house : (refusal : Refusal) (answer : Result Kept Refusal) → IsErrAnd answer (λ e. e ≡ refusal) →
        ◌≡◌ {A = Result ⊤ Refusal} (Err refusal) (refused_or (house_refusal s) tt) → answer ≡ settling s
    unfolding settling
    settled_by_house refusal answer is_err refused =
        handed_on _ tt (kept_for s) refusal answer is_err refused ∙ ap (λ (n : ℕ). refused_or n (kept_for s)) (sym house_decides)

    pub accepted : ◌≡◌ {A = Result ⊤ Refusal} (Ok tt) (refused_or (house_refusal s) tt) → Ok room ≡ settling s
    unfolding settling keeping
    accepted passed =
        ap Ok (ok_is sum_refusal (kept_for s) told).1 ∙
        sym (not_refused (settings_refusal s) (kept_for s) (house_decides ∙ (ok_is _ tt passed).0))

  -- what is kept is the settings' own, and small
  pub carries : (room : Kept) → Ok room ≡ keeping_for s → Carries s room
  carries room told =
      let is = is_room s.largest s.generation.0 s.request_path.0 s.data_path.0 room told in
      record {
        passage = ap (λ (k : Kept). k.one_way.0) is.is;
        headroom = ap (λ (k : Kept). k.headroom.0) is.is;
        small = omega (arith, is.bounds);
      }
