-- A run: its input is refused, or its settings are tried. Assumes nothing.
use Rattle.std.proofs.Common.{ap, length, ◌∙◌}
use Rattle.bench_meaning.specs.Run.{input_refusal, refused_report}
use Rattle.bench_run.proofs.Running.{run_refused, run_settled, whole_input}
use Rattle.bench_run.proofs.run.Goals as goal

pub returns-in-Err : goal.returns-in-Err
unfolding input_refusal
returns-in-Err c =
    let input = c.args.input.now in
    run_refused input (ap (λ k. input_refusal k (length input)) c.octet_at.ensures) c.in-Err.ensures.answer
    (c.refused_report.ensures ∙ ap refused_report c.number.ensures)

pub settled-requires : goal.settled-requires
unfolding input_refusal
settled-requires c =
    let input = c.args.input.now in
    whole_input input (ap (λ k. input_refusal k (length input)) c.octet_at.ensures) c.in-Ok.ensures.answer

pub returns-in-Ok : goal.returns-in-Ok
unfolding input_refusal
returns-in-Ok c =
    let input = c.args.input.now in
    run_settled input (ap (λ k. input_refusal k (length input)) c.octet_at.ensures) c.in-Ok.ensures.answer c.settled.ensures
