-- What `choose` answers, by what its parts promise. Assumes nothing.
use Rattle.std.proofs.Common.{ℕ, ap, ◌∙◌}
use Rattle.std.specs.Prelude.{Ok}
use Rattle.refusals.specs.Refusals.{refused_or}
use Rattle.refusals.proofs.Refused.{handed_on, let_pass}
use Rattle.choice.specs.Choice.{choice, highest, may_go}
use Rattle.choice.proofs.Refusals.{bears, number_by}
use Rattle.choice.proofs.choose.Goals as goal

pub returns-in_err-refused : goal.returns-in_err-refused
unfolding choice
returns-in_err-refused c =
    let a = c.args in
    let number = number_by a.fronts a.map c.some_above-wild.ensures c.some_above-high.ensures c.some_misplaced.ensures in
    let is =
    handed_on _ (tt {0}) (highest (may_go a.fronts a.paused) 8) c.in_err-refused.field-0.0 c.from_residual.result c.from_residual.ensures.1
    (c.in_err-refused.ensures ∙ ap (λ (n : ℕ). refused_or n (tt {0})) number) in
    record { number = bears a.fronts a.map a.paused is; answer = is }

pub returns : goal.returns
unfolding choice
returns c =
    let a = c.args in
    let number = number_by a.fronts a.map c.some_above-wild.ensures c.some_above-high.ensures c.some_misplaced.ensures in
    let is =
    ap Ok c.highest_free.ensures ∙
    let_pass _ (tt {0}) (highest (may_go a.fronts a.paused) 8) (tt {0}) (c.in_ok-refused.ensures ∙ ap (λ (n : ℕ). refused_or n (tt {0})) number) in
    record { number = bears a.fronts a.map a.paused is; answer = is }
