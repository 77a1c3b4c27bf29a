-- The sender's two questions agree: 5 is given exactly for a control frame under 60 octets, and then the part is empty; else the part
-- has 60 octets when PFC is due, and is the whole data frame when it is not. For whoever hands the part to the wire. Assumes nothing.
use Prim.Native.Nat.{ℕ, ◌<◌, ◌≤◌}
use mathlib.Core.Path.{◌≡◌, refl, ◌∙◌, ap}
use mathlib.Core.Bool.{Bool, true, false}
use mathlib.Core.List.{List, []}
use lib.ListN.{length, take}
use lib.Seq.{length-take-le}
use borrow.Author.Tests.{ltb-true, ltb-false, lt-ltb, le-ltb}
use Rattle.ground.specs.Pick.{pick}
use Rattle.ground.proofs.Pick.{pick_yes, pick_no}
use Rattle.std.specs.Prelude.{Some, None}
pub use Rattle.refusals.specs.Refusals.{numbered_in, refusal_if}
use Rattle.refusals.specs.declared.Refusal.TheVariants.{BufferShort}
use Rattle.sender.specs.Sender.{send_refusal, to_send}

-- what a test of 5 refuses: by 5 where it holds, and nothing else
refused_by : (short : Bool) → refusal_if (pick short 5 0) ≡ Some BufferShort → short ≡ true
unfolding refusal_if numbered_in pick
refused_by true is = refl
refused_by false is = absurd cc

passed_by : (short : Bool) → refusal_if (pick short 5 0) ≡ None → short ≡ false
unfolding refusal_if numbered_in pick
passed_by true is = absurd cc
passed_by false is = refl

module _ (control : List ℕ) where
  -- "A control frame under 60 octets gives 5", and no other does
  pub refused_under_60 : length control < 60 → send_refusal control ≡ Some BufferShort
  unfolding refusal_if numbered_in pick
  refused_under_60 short = rw (lt-ltb (length control) 60 short) refl

  pub passed_from_60 : 60 ≤ length control → send_refusal control ≡ None
  unfolding refusal_if numbered_in pick
  passed_from_60 long = rw (le-ltb (length control) 60 long) refl

  pub under_60_refused : send_refusal control ≡ Some BufferShort → length control < 60
  under_60_refused five = ltb-true _ _ (refused_by _ five)

  pub from_60_passed : send_refusal control ≡ None → 60 ≤ length control
  from_60_passed none = ltb-false _ _ (passed_by _ none)

  module _ («data» : List ℕ) where
    -- ".. and an empty part", "due or not"
    pub refused_is_empty : (due : Bool) → send_refusal control ≡ Some BufferShort → to_send control «data» due ≡ []
    unfolding to_send
    refused_is_empty due five = pick_yes _ _ (lt-ltb _ _ (under_60_refused five))

    -- "the first 60 octets of the control frame when PFC is due"
    pub due_is_control : send_refusal control ≡ None → to_send control «data» true ≡ take 60 control
    unfolding to_send
    due_is_control none = pick_no _ _ (le-ltb _ _ (from_60_passed none)) ∙ pick_yes _ _ refl

    pub due_is_60 : send_refusal control ≡ None → length (to_send control «data» true) ≡ 60
    due_is_60 none = ap length (due_is_control none) ∙ length-take-le 60 control (from_60_passed none)

    -- "else the whole data frame, which may be empty"
    pub not_due_is_data : send_refusal control ≡ None → to_send control «data» false ≡ «data»
    unfolding to_send
    not_due_is_data none = pick_no _ _ (le-ltb _ _ (from_60_passed none)) ∙ pick_no _ _ refl
