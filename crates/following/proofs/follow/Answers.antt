-- Each record moves on along the run, a refused one stops it, and the end of the octets ends it. Assumes nothing.
use Rattle.std.proofs.Common.{ℕ, ◌+◌, refl, sym, ap, subst, ◌∙◌, arith}
use Rattle.bench_memory.specs.Memory.{memory_of, Lent}
use Rattle.bench_state.specs.declared.Bench.{Bench}
use Rattle.bench_memory.proofs.Stepping.{step_lent}
use Rattle.refusals.proofs.Refused.{ok_is, err_is}
use Rattle.following.proofs.Following.{starts, ended, stopped, went_on}
use Rattle.refusals.specs.Refusals.{number_told}
use Rattle.std.specs.Result.{result_err}
use Rattle.reporting.specs.Reporting.{standing}
use Rattle.following.proofs.follow.Goals as goal

pub loop-at-init : goal.loop-at-init
loop-at-init c =
    let a = c.args in
    let is = c.empty_bench-bench.ensures in (
      omega arith,
      record {
        to_b = record { few = omega (arith, ap (λ (b : Bench). b.to_b.count) is); ends = omega arith; slots = omega arith };
        to_a = record { few = omega (arith, ap (λ (b : Bench). b.to_a.count) is); ends = omega arith; slots = omega arith };
      },
      starts a.watch a.input.now _ _ _ _ _ _ is refl,
      refl,
      refl,
      refl,
      refl,
    )

pub returns-in_default : goal.returns-in_default
returns-in_default c =
    let turn = c.loop-at in
    let a = c.args in
    let m = memory_of turn.bench turn.numbers turn.data_ends turn.data_slots turn.pfc_ends turn.pfc_slots in
    let told = c.in_default.ensures in
    let refusal = c.err.ensures.value ∙ ap result_err (c.step-answer.ensures.answer ∙ sym told.answer) in
    let number = c.number_told.ensures ∙ ap number_told refusal ∙ told.number in
    stopped a.watch a.input.now turn.at turn.steps m turn.invariant.1 turn.invariant.2 turn.invariant.0 _ c.loop-at-test.true refl _ _
    (err_is _ _ told.answer).0 told.memory
    (c.report_of.ensures ∙
    ap (λ (n : ℕ). standing a.watch.settings.enabled turn.bench c.step-answer.new.numbers turn.steps n (turn.steps + 1)) number)

pub loop-at-preserved : goal.loop-at-preserved
loop-at-preserved c =
    let turn = c.loop-at in
    let a = c.args in
    let m = memory_of turn.bench turn.numbers turn.data_ends turn.data_slots turn.pfc_ends turn.pfc_slots in
    let told = c.in-Ok.ensures in
    let kept = c.step-answer.auto in (
      omega (arith, turn.invariant.0),
      subst Lent (sym told.memory) (step_lent m turn.invariant.1 a.watch _),
      went_on a.watch a.input.now turn.at turn.steps m turn.invariant.1 turn.invariant.2 turn.invariant.0 _ c.loop-at-test.true
          refl _ _ _ (ok_is _ _ told.answer).0 told.memory c.octet_at.ensures c.body_length.ensures.0,
      kept.data_ends ∙ turn.invariant.3,
      kept.data_slots ∙ turn.invariant.4,
      kept.pfc_ends ∙ turn.invariant.5,
      kept.pfc_slots ∙ turn.invariant.6,
    )

pub returns : goal.returns
returns c =
    let turn = c.loop-at in
    let a = c.args in
    let m = memory_of turn.bench turn.numbers turn.data_ends turn.data_slots turn.pfc_ends turn.pfc_slots in
    ended a.watch a.input.now turn.at turn.steps m turn.invariant.1 turn.invariant.2 turn.invariant.0 _ c.loop-at-test.false
    c.report_of-2.ensures
