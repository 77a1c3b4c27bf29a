-- What `read` answers, by what its parts promise. Assumes nothing.
use Rattle.std.proofs.Common.{ℕ, Bool, ap, ◌∙◌}
use Rattle.std.specs.Prelude.{Some, None, Ok}
use Rattle.ground.specs.Pick.{pick}
use Rattle.refusals.specs.Refusals.{refused_or}
use Rattle.refusals.proofs.Refused.{handed_on, let_pass}
use Rattle.frame.specs.Read.{request_in, verdict, taken}
use Rattle.frame.proofs.Reading.{bears, size_handed, control_number}
use Rattle.frame.proofs.read.Goals as goal

pub returns-in_err-size_refused : goal.returns-in_err-size_refused
returns-in_err-size_refused c =
    let a = c.args in
    let is =
    size_handed a.frame.now a.largest a.own c.is_outside_m.ensures c.is_long-long.ensures c.from_residual.ensures.1 c.in_err-size_refused.ensures in
    record { number = bears a.frame.now a.largest a.own is; answer = is }

pub returns-in_err-control_refused : goal.returns-in_err-control_refused
unfolding verdict
returns-in_err-control_refused c =
    let a = c.args in
    let handed = c.from_residual-in_err-control_refused in
    let number =
    control_number a.frame.now a.largest a.own c.is_outside_m.ensures c.is_long-long.ensures c.in_ok-size_refused.ensures c.is_control-control.ensures
    c.is_elsewhere-elsewhere.ensures c.is_other.ensures in
    let is =
    handed_on _ (tt {0}) (taken a.frame.now) c.in_err-control_refused.field-0.0 handed.result handed.ensures.1
    (c.in_err-control_refused.ensures ∙ ap (λ (n : ℕ). refused_or n (tt {0})) number) in
    record { number = bears a.frame.now a.largest a.own is; answer = is }

pub returns : goal.returns
unfolding verdict taken
returns c =
    let a = c.args in
    let number =
    control_number a.frame.now a.largest a.own c.is_outside_m.ensures c.is_long-long.ensures c.in_ok-size_refused.ensures c.is_control-control.ensures
    c.is_elsewhere-elsewhere.ensures c.is_other.ensures in
    let asked = c.taken.ensures ∙ ap (λ (b : Bool). pick b (Some (request_in a.frame.now)) None) c.is_control-control.ensures in
    let is =
    ap Ok asked ∙
    let_pass _ (tt {0}) (taken a.frame.now) (tt {0}) (c.in_ok-control_refused.ensures ∙ ap (λ (n : ℕ). refused_or n (tt {0})) number) in
    record { number = bears a.frame.now a.largest a.own is; answer = is }
