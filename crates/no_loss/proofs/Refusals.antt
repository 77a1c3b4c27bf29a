-- What a record that is accepted says of the state, a law for each kind's chain of refusals; and, of the kinds by which time can always
-- pass, that such a record is accepted.
use Prim.Native.Nat.{ℕ, ◌+◌, ◌^◌, ◌≤◌, ◌<◌}
use mathlib.Core.Bool.{true, false}
use mathlib.Core.Path.{◌≡◌, ◌∙◌}
use native.Mathlib.Omega.{arith}
use Rattle.std.specs.Prelude.{Ok}
use borrow.Author.Tests.{ltb-false, leb-false, le-ltb, lt-leb, not-false}
use lib.ListN.{length}
use Rattle.ground.specs.First.{first_of}
use Rattle.ground.proofs.Pick.{pick_no}
use Rattle.moments.specs.Moments.{at}
use Rattle.moments.proofs.Reached.{NotPast, reached, not_ahead, not_past, not_past_due, is_at, not_never}
use Rattle.head.specs.Timers.{timer}
use Rattle.recorder.specs.declared.Watch.{Watch}
use Rattle.recorder.specs.Watching.{Recorder, room_at, refusal_with, taking_refusal}
use Rattle.records.specs.declared.Record.TheVariants as record'
use Rattle.decisions.specs.Chains.{length_outside, wait_number, start_data_number, arrive_number, start_other_number, start_pfc_number}
use Rattle.bench_meaning.specs.State.{Direction, State}
use Rattle.bench_meaning.specs.Step.{none_ended, due_then, overrun, refusal_of}
use Rattle.ground.proofs.Passing.{passed, neither}
use Rattle.no_loss.proofs.Rows.{InTime, Ended}
use Rattle.no_loss.proofs.Watches.{Enabled}

-- a length that 33 does not refuse
within_largest : (largest size : ℕ) → length_outside largest size ≡ false → size ≤ largest
unfolding length_outside
within_largest largest size e = ltb-false _ _ (neither _ _ e).1

-- kind 01: neither 41 nor 40
pub record MayWait (w : Watch) (s : State) (n : ℕ) : Type 0 where
  pub time : s.clock + n ≤ 2 ^ 40
  pub data_time : InTime w.kept.«data».0 (s.clock + n) s.to_b.row
  pub pfc_time : InTime w.kept.request.0 (s.clock + n) s.to_a.row
  pub due_time : NotPast (due_then w s (s.clock + n)) (w.kept.generation.0 + w.kept.wire.0) (s.clock + n)

module _ (w : Watch) (s : State) (n : ℕ) where
  pub may_wait : refusal_of w s (Ok (record'.Wait n)) ≡ 0 → MayWait w s n
  unfolding refusal_of wait_number overrun first_of
  may_wait e =
      let one = passed _ 41 _ (omega arith) e in
      let two = passed _ 40 0 (omega arith) one.1 in
      let bounds = neither _ _ two.0 in
      let others = neither _ _ bounds.1 in
      record {
        time = ltb-false _ _ one.0;
        data_time = not_past _ _ _ bounds.0;
        pfc_time = not_past _ _ _ others.0;
        due_time = not_past _ _ _ others.1;
      }

  pub wait_accepted : MayWait w s n → refusal_of w s (Ok (record'.Wait n)) ≡ 0
  unfolding refusal_of wait_number overrun first_of
  wait_accepted may =
      let others = pick_no true _ (not_past_due _ _ _ may.pfc_time) ∙ not_past_due _ _ _ may.due_time in
      pick_no 41 _ (le-ltb _ _ may.time) ∙ pick_no 40 0 (pick_no true _ (not_past_due _ _ _ may.data_time) ∙ others)

-- kind 02: none of 32, 33, 34, 35 and 36
pub record MayStartData (w : Watch) (s : State) (priority size : ℕ) : Type 0 where
  pub known : priority ≤ 7
  pub most : size ≤ w.settings.largest
  pub idle : s.to_b.free ≤ s.clock
  pub not_paused : timer s.head priority ≤ 0

pub may_start_data : (w : Watch) (s : State) (priority size : ℕ) → refusal_of w s (Ok (record'.StartData priority size)) ≡ 0 → MayStartData w s priority size
unfolding refusal_of start_data_number first_of
may_start_data w s priority size e =
    let one = passed _ 32 _ (omega arith) e in
    let two = passed _ 33 _ (omega arith) one.1 in
    let three = passed _ 34 _ (omega arith) two.1 in
    let four = passed _ 35 _ (omega arith) three.1 in
    record {
      known = ltb-false _ _ one.0;
      most = within_largest _ size two.0;
      idle = ltb-false _ _ three.0;
      not_paused = ltb-false _ _ four.0;
    }

-- kinds 03 and 06: not 37
pub may_leave : (direction : Direction) (clock : ℕ) → arrive_number (none_ended direction clock) ≡ 0 → Ended direction.row clock
unfolding arrive_number first_of
may_leave direction clock e = reached _ clock (passed _ 37 0 (omega arith) e).0

pub leave_accepted : (direction : Direction) (clock : ℕ) → Ended direction.row clock → arrive_number (none_ended direction clock) ≡ 0
unfolding arrive_number first_of
leave_accepted direction clock h = pick_no 37 0 (not_ahead _ clock h)

-- kind 04: none of 33, 34 and 38
pub record MayStartOther (w : Watch) (s : State) (size : ℕ) : Type 0 where
  pub most : size ≤ w.settings.largest
  pub idle : s.to_a.free ≤ s.clock
  pub in_time : NotPast s.recorder.marks.due w.kept.generation.0 s.clock

pub may_start_other : (w : Watch) (s : State) (size : ℕ) → refusal_of w s (Ok (record'.StartOther size)) ≡ 0 → MayStartOther w s size
unfolding refusal_of start_other_number first_of
may_start_other w s size e =
    let one = passed _ 33 _ (omega arith) e in
    let two = passed _ 34 _ (omega arith) one.1 in
    let three = passed _ 38 0 (omega arith) two.1 in
    record { most = within_largest _ size one.0; idle = ltb-false _ _ two.0; in_time = not_past _ _ _ three.0 }

-- kind 05: none of 39, 34 and 36
pub record MayStartPfc (s : State) : Type 0 where
  pub since : ℕ
  pub due : s.recorder.marks.due ≡ at since
  pub idle : s.to_a.free ≤ s.clock
  pub few : length s.to_a.row < 128

module _ (w : Watch) (s : State) where
  pub may_start_pfc : refusal_of w s (Ok record'.StartPfc) ≡ 0 → MayStartPfc s
  unfolding refusal_of start_pfc_number first_of
  may_start_pfc e =
      let one = passed _ 39 _ (omega arith) e in
      let two = passed _ 34 _ (omega arith) one.1 in
      let three = passed _ 36 0 (omega arith) two.1 in
      let first = is_at _ one.0 in
      record { since = first.0; due = first.1; idle = ltb-false _ _ two.0; few = leb-false _ _ three.0 }

  pub start_pfc_accepted : MayStartPfc s → refusal_of w s (Ok record'.StartPfc) ≡ 0
  unfolding refusal_of start_pfc_number first_of
  start_pfc_accepted may =
      pick_no 39 _ (not_never _ may.since may.due) ∙ pick_no 34 _ (le-ltb _ _ may.idle) ∙ pick_no 36 0 (lt-leb _ _ may.few)

-- kind 07: none of 32, 43 and 42
pub record MayTake (w : Watch) (r : Recorder) (priority octets : ℕ) : Type 0 where
  pub known : priority ≤ 7
  pub enabled : Enabled w priority
  pub there : octets ≤ (room_at r priority).held

pub may_take : (w : Watch) (r : Recorder) (priority octets : ℕ) → taking_refusal w r priority octets ≡ 0 → MayTake w r priority octets
unfolding taking_refusal refusal_with first_of
may_take w r priority octets e =
    let one = passed _ 32 _ (omega arith) e in
    let two = passed _ 43 _ (omega arith) one.1 in
    let three = passed _ 42 0 (omega arith) two.1 in
    record { known = ltb-false _ _ one.0; enabled = not-false _ two.0; there = ltb-false _ _ three.0 }
