-- What line 1 of a report tells: "refusal or 0". What is told of the refusal that a number stands for is that number, where an order gave it: for
-- an input and for each record. Assumes nothing.
use Prim.Native.Nat.{ℕ}
use mathlib.Core.Path.{◌≡◌, refl, sym, ap, ◌∙◌}
use mathlib.Core.Bool.{Bool, true, false}
use mathlib.Core.List.{List}
use lib.Dec.{eqb}
use borrow.Author.Tests.{eqb-true, eqb-false}
use Rattle.std.specs.Prelude.{None, Some, Ok, Err}
use Rattle.ground.specs.Pick.{pick}
use Rattle.ground.specs.First.{Condition, first_of}
use Rattle.refusals.specs.declared.Refusal.{Refusal}
use Rattle.refusals.specs.declared.Refusal.TheVariants as refusal'
use Rattle.refusals.specs.Refusals.{number, numbered, refused_or, number_of, refusal_if, is_number, are_numbers}
use Rattle.refusals.proofs.Refused.{number_kept, order_number, refused}
use Rattle.recorder.specs.declared.Watch.{Watch}
use Rattle.recorder.specs.Watching.{refusal_with, taking_refusal}
use Rattle.records.specs.Records.{Asked}
use Rattle.records.specs.declared.Record.TheVariants as record'
use Rattle.decisions.specs.Chains.{wait_number, start_data_number, arrive_number, start_other_number, start_pfc_number}
use Rattle.bench_meaning.specs.State.{State}
use Rattle.bench_meaning.specs.Step.{refusal_of}
use Rattle.bench_meaning.specs.Run.{input_refusal}
use Rattle.bench_run.specs.Told.{number_told}

-- what is told of the refusal that a number stands for is the number of an answer by it
told_of : (given : ℕ) → number_of (refused_or {A = ℕ} given 0) ≡ given → number_told (refusal_if given) ≡ given
unfolding refusal_if pick
told_of given kept = go (eqb given 0) refl
  where
    go : (none : Bool) → eqb given 0 ≡ none → number_told (pick none None (Some (numbered given))) ≡ given
    go true is = sym (eqb-true given 0 is)
    go false is = sym (ap number_of (refused {A = ℕ} given 0 (eqb-false given 0 is))) ∙ kept

-- of an order's number
order_told : (order : List Condition) → are_numbers order ≡ true → number_told (refusal_if (first_of order)) ≡ first_of order
order_told order known = told_of (first_of order) (order_number {A = ℕ} order 0 _ refl known)

-- of a refusal's own
own_told : (refusal : Refusal) → number_told (refusal_if (number refusal)) ≡ number refusal
own_told refusal = told_of (number refusal) (number_kept {A = ℕ} (number refusal) 0 (is_one refusal))
  where
    is_one : (refusal : Refusal) → is_number (number refusal) ≡ true
    is_one refusal'.FrameShort = refl
    is_one refusal'.FrameLong = refl
    is_one refusal'.OtherAddress = refl
    is_one refusal'.OtherOpcode = refl
    is_one refusal'.BufferShort = refl
    is_one refusal'.GroupSource = refl
    is_one refusal'.Rate = refl
    is_one refusal'.Metres = refl
    is_one refusal'.Percentage = refl
    is_one refusal'.LargestFrame = refl
    is_one refusal'.Delay = refl
    is_one refusal'.RoomSmall = refl
    is_one refusal'.PauseShort = refl
    is_one refusal'.Refresh = refl
    is_one refusal'.RoomLarge = refl
    is_one refusal'.Halt = refl
    is_one refusal'.FrontAbove = refl
    is_one refusal'.FrontMisplaced = refl
    is_one refusal'.ClassAbove = refl
    is_one refusal'.Kind = refl
    is_one refusal'.BodyShort = refl
    is_one refusal'.PriorityAbove = refl
    is_one refusal'.Length = refl
    is_one refusal'.WireBusy = refl
    is_one refusal'.Paused = refl
    is_one refusal'.UnderWay = refl
    is_one refusal'.NoneEnded = refl
    is_one refusal'.OtherLate = refl
    is_one refusal'.NotDue = refl
    is_one refusal'.Overrun = refl
    is_one refusal'.TimeAbove = refl
    is_one refusal'.NotHeld = refl
    is_one refusal'.NotEnabled = refl
    is_one refusal'.Settings = refl
    is_one refusal'.InputLong = refl

-- of an input as a whole
pub input_told : (kind size : ℕ) → number_told (refusal_if (input_refusal kind size)) ≡ input_refusal kind size
unfolding input_refusal
input_told kind size = order_told _ refl

-- of a record
pub step_told : (w : Watch) (s : State) (asked : Asked) → number_told (refusal_if (refusal_of w s asked)) ≡ refusal_of w s asked
unfolding refusal_of wait_number start_data_number arrive_number start_other_number start_pfc_number taking_refusal refusal_with
step_told w s (Ok (record'.Wait n)) = order_told _ refl
step_told w s (Ok (record'.StartData priority size)) = order_told _ refl
step_told w s (Ok record'.Arrive) = order_told _ refl
step_told w s (Ok (record'.StartOther size)) = order_told _ refl
step_told w s (Ok record'.StartPfc) = order_told _ refl
step_told w s (Ok record'.TakeEffect) = order_told _ refl
step_told w s (Ok (record'.TakeOctets priority octets)) = order_told _ refl
step_told w s (Err refusal) = own_told refusal
