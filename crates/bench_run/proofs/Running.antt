-- The settings of a run: whole or not, accepted or refused, and what that says of the report. Assumes nothing.
use Prim.Native.Nat.{ℕ, ◌≤◌}
use mathlib.Core.Path.{◌≡◌, refl, sym, ap, ◌∙◌}
use mathlib.Core.List.{List}
use native.Mathlib.Omega.{arith}
use lib.Dec.{eqb}
use lib.ListN.{length, drop}
use borrow.Author.Tests.{ltb-false, eq-eqb, ne_eqb}
use Rattle.std.specs.Prelude.{⊤, Result, Ok, Err}
use Rattle.ground.specs.First.{GivenExactly, are_apart, is_among, test_at}
use Rattle.ground.specs.Pick.{pick}
use Rattle.ground.proofs.First.{first_given}
use Rattle.ground.proofs.Pick.{pick_yes, pick_no}
pub use Rattle.refusals.specs.Refusals.{refused_or, numbered_in}
use Rattle.refusals.specs.declared.Refusal.{Refusal}
use Rattle.refusals.specs.Refusals.{number}
use Rattle.refusals.proofs.Refused.{err_is, order_number, none_by}
use Rattle.octets.specs.Numbers.{octet_at}
use Rattle.room_to_keep.specs.declared.Kept.{Kept}
use Rattle.settings.specs.Settings.{settling}
use Rattle.bench_meaning.specs.declared.Report.{Report}
use Rattle.bench_meaning.specs.Run.{follow_of, settings_in, refused_report, watch_with, settled_by, settled_of, input_order, input_refusal, run_of}

-- settings that are whole: what settling them says of the report
pub settled_refused : (input : List ℕ) (refusal : Refusal) → settling (settings_in input) ≡ Err refusal → refused_report (number refusal) ≡ settled_of input
unfolding settled_by
settled_refused input refusal is = sym (ap (λ (x : Result Kept Refusal). settled_by x input) is)

pub settled_accepted : (input : List ℕ) (room : Kept) → settling (settings_in input) ≡ Ok room →
    follow_of (watch_with (settings_in input) room) (drop 58 input) ≡ settled_of input
unfolding settled_by
settled_accepted input room is = sym (ap (λ (x : Result Kept Refusal). settled_by x input) is)

-- none of 45, 44 and 31: the settings are whole
pub whole_settings : (kind size : ℕ) → input_refusal kind size ≡ 0 → 58 ≤ size
unfolding input_refusal are_apart is_among pick test_at
whole_settings kind size none =
    ltb-false size 58 ((first_given (input_order kind size) refl).none_only none 2 (omega arith))

-- "Records 45, 44, 30, 31 ..", of a whole input: "Each is given exactly when its condition holds and none earlier in the order does"
pub input_given : (kind size : ℕ) → GivenExactly (input_order kind size) (input_refusal kind size)
unfolding input_refusal are_apart is_among pick
input_given kind size = first_given (input_order kind size) refl

-- what a run answers by the input's refusal
module _ (input : List ℕ) {given : ℕ} (is : given ≡ input_refusal (octet_at input 0) (length input)) where
  -- a refusal has the number that the order gave
  its_number : {refusal : Refusal} → Err refusal ≡ refused_or {A = ⊤} given tt → number refusal ≡ input_refusal (octet_at input 0) (length input)
  unfolding input_refusal
  its_number refused_by =
      order_number (input_order (octet_at input 0) (length input)) tt _ (refused_by ∙ ap (λ (n : ℕ). refused_or n tt) is) refl

  pub run_refused : {refusal : Refusal} {report : Report} → Err refusal ≡ refused_or {A = ⊤} given tt → report ≡ refused_report (number refusal) →
      report ≡ run_of input
  unfolding run_of
  run_refused refused_by told =
      let some = (err_is given tt refused_by).0 in
      told ∙ ap refused_report (its_number refused_by) ∙ sym (pick_no _ _ (ap (λ (k : ℕ). eqb k 0) (sym is) ∙ ne_eqb given 0 some))

  pub run_settled : {report : Report} {passed : ⊤} → Ok passed ≡ refused_or given tt → report ≡ settled_of input → report ≡ run_of input
  unfolding run_of
  run_settled passes told = told ∙ sym (pick_yes _ _ (eq-eqb _ 0 (none_by is passes)))

  -- none of 45, 44 and 31: the settings are whole
  pub whole_input : {passed : ⊤} → Ok passed ≡ refused_or given tt → 58 ≤ length input
  whole_input passes = whole_settings (octet_at input 0) (length input) (none_by is passes)
