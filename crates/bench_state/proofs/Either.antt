-- What is accepted, refused and left alone, by the number.
use Prim.Native.Nat.{ℕ, ◌*◌, ◌-◌}
use mathlib.Core.Path.{◌≡◌, refl, sym, ap, ◌∙◌}
use mathlib.Core.Bool.{Bool, true, false}
use mathlib.Core.List.{List}
use Rattle.std.specs.Prelude.{⊤, Result, Ok, Err}
use lib.Dec.{eqb}
use lib.ListN.{length, set}
use borrow.Author.Tests.{eq-eqb, ne_eqb}
use Rattle.ground.specs.Pick.{pick}
use Rattle.ground.proofs.Pick.{pick_yes, pick_no}
use Rattle.refusals.specs.Refusals.{numbered, refused_or}
use Rattle.refusals.specs.declared.Refusal.{Refusal}
use Rattle.refusals.proofs.Refused.{ok_is, err_is, not_refused, refused}
use Rattle.rows.specs.Rows.{written, shifted}
use Rattle.rows.specs.declared.Direction.{Direction}
use Rattle.bench_state.specs.Answered.{bench_after, if_accepted, Pushed, Left}
use Rattle.bench_state.specs.declared.Bench.{Bench}

pub when_accepted : {A : Type 0} {number : ℕ} (next before : A) → number ≡ 0 → next ≡ if_accepted number next before
unfolding if_accepted
when_accepted {number = number} next before none = sym (pick_yes _ _ (eq-eqb number 0 none))

pub when_refused : {A : Type 0} {number : ℕ} (next before : A) → (number ≡ 0 → ⊥) → before ≡ if_accepted number next before
unfolding if_accepted
when_refused {number = number} next before some = sym (pick_no _ _ (ne_eqb number 0 some))

-- what no record changes
pub either_same : {A : Type 0} (number : ℕ) (value : A) → value ≡ if_accepted number value value
unfolding if_accepted pick
either_same number value = go (eqb number 0)
  where
    go : (b : Bool) → value ≡ pick b value value
    go true = refl
    go false = refl

-- a step's answer leaves by value the next one where its number is 0, and what went before where it is not
pub after_is : (number : ℕ) (next before : Bench) {answer : Result Bench Refusal} → answer ≡ refused_or number next →
    bench_after answer before ≡ if_accepted number next before
unfolding if_accepted refused_or pick
after_is number next before is = ap (λ (a : Result Bench Refusal). bench_after a before) is ∙ go (eqb number 0)
  where
    go : (none : Bool) → bench_after (pick none (Ok next) (Err (numbered number))) before ≡ pick none next before
    go true = refl
    go false = refl

-- an answer by a number is made of that number and of what it leaves by value
pub own_answer : (number : ℕ) (next before : Bench) (answer : Result Bench Refusal) → answer ≡ refused_or number next →
    answer ≡ refused_or number (bench_after answer before)
own_answer number next before (Ok after) is = sym (not_refused number after (ok_is number next is).0)
own_answer number next before (Err refusal) is = let by = err_is number next is in ap Err by.1 ∙ sym (refused number before by.0)

-- the arrays of a direction, by a test of the step's number: refused, it leaves them; else it pushes, or the oldest leaves
module _ {number : ℕ} {direction : Direction} {ends slots : List ℕ} where
  pub nothing_pushed : {end : ℕ} {octets : List ℕ} {refusal : Refusal} → Err refusal ≡ refused_or {A = ⊤} number tt →
      Pushed number direction end octets ends slots ends slots
  nothing_pushed told = let some = (err_is number tt told).0 in record { ends_are = when_refused _ _ some; slots_are = when_refused _ _ some }

  pub pushed : {e end : ℕ} {o octets ends' slots' : List ℕ} {passed : ⊤} → Ok passed ≡ refused_or number tt → e ≡ end → o ≡ octets →
      ends' ≡ set ends direction.count e → slots' ≡ written (length o * direction.count) o slots →
      Pushed number direction end octets ends slots ends' slots'
  pushed passes is_end is_octets is_ends is_slots =
      let none = (ok_is number tt passes).0 in
      record {
        ends_are = is_ends ∙ ap (set ends direction.count) is_end ∙ when_accepted _ _ none;
        slots_are = is_slots ∙ ap (λ (o : List ℕ). written (length o * direction.count) o slots) is_octets ∙ when_accepted _ _ none;
      }

  pub nothing_left : {width : ℕ} {refusal : Refusal} → Err refusal ≡ refused_or {A = ⊤} number tt → Left number direction width ends slots ends slots
  nothing_left told = let some = (err_is number tt told).0 in record { ends_are = when_refused _ _ some; slots_are = when_refused _ _ some }

  pub left : {width : ℕ} {ends' slots' : List ℕ} {passed : ⊤} → Ok passed ≡ refused_or number tt → ends' ≡ shifted 1 (direction.count - 1) ends →
      slots' ≡ shifted width (width * (direction.count - 1)) slots → Left number direction width ends slots ends' slots'
  left passes is_ends is_slots =
      let none = (ok_is number tt passes).0 in record { ends_are = is_ends ∙ when_accepted _ _ none; slots_are = is_slots ∙ when_accepted _ _ none }
