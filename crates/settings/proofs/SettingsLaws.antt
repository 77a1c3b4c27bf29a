-- What the settings' refusals and their acceptance mean: each number is given exactly when its condition holds and none earlier does,
-- and settings are accepted exactly when they meet every bound. Assumes nothing.
use Prim.Native.Nat.{ℕ, ◌<◌}
use mathlib.Core.Path.{◌≡◌, refl, sym, ap, ◌∙◌}
use mathlib.Core.Bool.{Bool, true, false, false≢true, ◌&&◌}
use native.Mathlib.Omega.{arith}
use lib.Dec.{ltb}
use borrow.Author.Tests.{ltb-true, ltb-false, le-ltb}
use Rattle.std.specs.Prelude.{Result}
use Rattle.ground.specs.Pick.{pick}
use Rattle.ground.specs.First.{first_of, test_at, GivenExactly, is_among, are_apart}
use Rattle.ground.specs.Eight.{is_set}
use Rattle.ground.proofs.Pick.{pick_no}
use Rattle.ground.proofs.First.{first_given, given_exactly}
use Rattle.ground.proofs.Passing.{neither}
use Rattle.ground.proofs.Eight.{some_here, some_none}
use Rattle.refusals.specs.Refusals.{number_of}
use Rattle.refusals.specs.declared.Refusal.{Refusal}
use Rattle.refusals.proofs.Refused.{order_number}
use Rattle.limits.specs.Limits.{least_m, delay_over, path_over}
use Rattle.room_to_keep.specs.declared.Kept.{Kept}
use Rattle.settings.specs.Settings.{is_enabled, room_of, some_enabled, least_room, least_refresh, largest_room}
use Rattle.settings.specs.Settings.{settings_order, settings_refusal, settling}
use Rattle.settings.specs.Accepted.{Acceptable}
use Rattle.settings.specs.declared.Settings.{Settings}

-- an enabled priority is one of the eight
pub enabled_below : (enabled priority : ℕ) → is_enabled enabled priority ≡ true → priority < 8
unfolding is_enabled pick
enabled_below enabled priority = go (ltb priority 8) refl
  where
    go : (b : Bool) → ltb priority 8 ≡ b → pick b (is_set enabled priority) false ≡ true → priority < 8
    go true below holds = ltb-true priority 8 below
    go false above holds = absurd (false≢true holds)

module _ (s : Settings) where
  pub settling_number : number_of (settling s) ≡ settings_refusal s
  unfolding settling
  settling_number = order_number (settings_order s) _ _ refl refl

  -- "Each is given exactly when its condition holds and none earlier in the order does"
  pub settling_given : GivenExactly (settings_order s) (number_of (settling s))
  unfolding are_apart is_among pick
  settling_given = given_exactly (settings_order s) refl settling_number

  -- an answer that is the definition's has the order's number: for `settle`
  pub told : (answer : Result Kept Refusal) → answer ≡ settling s → number_of answer ≡ first_of (settings_order s)
  told answer is = ap number_of is ∙ settling_number

-- a test that holds of no enabled priority, and its other side
module _ (enabled : ℕ) (test : ℕ → Bool) where
  abbrev among : ℕ → Bool
  among n = is_set enabled n && test n

  none_enabled : some_enabled enabled test ≡ false → (n : ℕ) → n < 8 → is_set enabled n ≡ true → test n ≡ false
  unfolding some_enabled
  none_enabled none n below set = go (test n) refl
    where
      go : (b : Bool) → test n ≡ b → b ≡ false
      go true holds = absurd (false≢true (sym none ∙ some_here among n below (ap (λ (b : Bool). b && test n) set ∙ holds)))
      go false fails = refl

  enabled_none : ((n : ℕ) → n < 8 → is_set enabled n ≡ true → test n ≡ false) → some_enabled enabled test ≡ false
  unfolding some_enabled
  enabled_none each = some_none among (λ n below. go n (is_set enabled n) refl (each n below))
    where
      go : (n : ℕ) (b : Bool) → is_set enabled n ≡ b → (b ≡ true → test n ≡ false) → is_set enabled n && test n ≡ false
      go n true set fails = ap (λ (b : Bool). b && test n) set ∙ fails refl
      go n false clear fails = ap (λ (b : Bool). b && test n) clear

-- accepted settings meet every bound
pub accepted_facts : (s : Settings) → settings_refusal s ≡ 0 → Acceptable s
unfolding are_apart is_among test_at pick
accepted_facts s accepted =
    let none = (first_given (settings_order s) refl).none_only accepted in
    let f13 = neither (ltb s.largest least_m) _ (none 0 (omega arith)) in
    let f14 = neither (delay_over s.generation.0) _ (none 1 (omega arith)) in
    let paths = neither (path_over s.request_path.0) _ f14.1 in
    let f17 = neither (ltb s.refresh.0 least_refresh) _ (none 2 (omega arith)) in
    let f18 = neither (ltb largest_room s.hysteresis) _ (none 3 (omega arith)) in
    record {
      largest_least = ltb-false _ _ f13.0;
      largest_most = ltb-false _ _ f13.1;
      generation_most = ltb-false _ _ f14.0;
      request_most = ltb-false _ _ paths.0;
      data_most = ltb-false _ _ paths.1;
      refresh_least = ltb-false _ _ f17.0;
      refresh_most = ltb-false _ _ f17.1;
      hysteresis_most = ltb-false _ _ f18.0;
      room_most = λ n below set. ltb-false _ _ (none_enabled s.enabled (λ k. ltb largest_room (room_of s.rooms k)) f18.1 n below set);
      pause_covers = ltb-false _ _ (none 4 (omega arith));
      room_least =
          λ n below set. ltb-false _ _ (none_enabled s.enabled (λ k. ltb (room_of s.rooms k) (least_room s)) (none 5 (omega arith)) n below set);
    }

-- and settings that meet every bound are accepted
pub facts_accepted : (s : Settings) → Acceptable s → settings_refusal s ≡ 0
unfolding first_of
facts_accepted s ok =
    let f13 = pick_no _ _ (le-ltb _ _ ok.largest_least) ∙ le-ltb _ _ ok.largest_most in
    let paths = pick_no _ _ (le-ltb _ _ ok.request_most) ∙ le-ltb _ _ ok.data_most in
    let f14 = pick_no _ _ (le-ltb _ _ ok.generation_most) ∙ paths in
    let f17 = pick_no _ _ (le-ltb _ _ ok.refresh_least) ∙ le-ltb _ _ ok.refresh_most in
    let rooms = enabled_none s.enabled (λ k. ltb largest_room (room_of s.rooms k)) (λ n below set. le-ltb _ _ (ok.room_most n below set)) in
    let f18 = pick_no _ _ (le-ltb _ _ ok.hysteresis_most) ∙ rooms in
    let f16 = le-ltb _ _ ok.pause_covers in
    let f15 = enabled_none s.enabled (λ k. ltb (room_of s.rooms k) (least_room s)) (λ n below set. le-ltb _ _ (ok.room_least n below set)) in
    pick_no _ _ f13 ∙ (pick_no _ _ f14 ∙ (pick_no _ _ f17 ∙ (pick_no _ _ f18 ∙ (pick_no _ _ f16 ∙ pick_no _ _ f15))))
