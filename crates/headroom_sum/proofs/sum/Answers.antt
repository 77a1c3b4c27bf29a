-- 10, 11 and 12 are tried, and the link's bits and the limit's handed on. Assumes nothing.
use Rattle.std.proofs.Common.{arith}
use Rattle.headroom_sum.proofs.Exactly.{told}
use Rattle.headroom_sum.proofs.Order.{cable_passed, refused_by_rate, refused_by_cable}
use Rattle.headroom_sum.proofs.Rate.{is_limit, rate_small, limit_bits}
use Rattle.headroom_sum.proofs.sum.Goals as goal

pub returns-in_err-limit-clause-answer : goal.returns-in_err-limit-clause-answer
returns-in_err-limit-clause-answer c = refused_by_rate _ _ _ c.from_residual.ensures.1 c.in_err-limit.ensures.answer

pub returns-in_err-limit-clause-number : goal.returns-in_err-limit-clause-number
returns-in_err-limit-clause-number c = told _ _ (returns-in_err-limit-clause-answer c)

pub returns-in_err-cable_refusal-clause-answer : goal.returns-in_err-cable_refusal-clause-answer
returns-in_err-cable_refusal-clause-answer c =
    let limit = is_limit _ _ c.in_ok-limit.ensures.answer in
    refused_by_cable _ _ _ c.from_residual-in_err-cable_refusal.ensures.1 limit.no10 c.outside_percentage.ensures c.in_err-cable_refusal.ensures

pub returns-in_err-cable_refusal-clause-number : goal.returns-in_err-cable_refusal-clause-number
returns-in_err-cable_refusal-clause-number c = told _ _ (returns-in_err-cable_refusal-clause-answer c)

pub link_bits-link-requires : goal.link_bits-link-requires
link_bits-link-requires c =
    let i = c.args.inputs in
    let no10 = (is_limit _ _ c.in_ok-limit.ensures.answer).no10 in
    let cable = cable_passed i no10 c.outside_percentage.ensures c.in_ok-cable_refusal.ensures in
    let rate = rate_small _ no10 in
    (omega arith, omega arith, omega arith, omega arith)

pub after_link-requires : goal.after_link-requires
after_link-requires c =
    let i = c.args.inputs in
    let limit = is_limit _ _ c.in_ok-limit.ensures.answer in
    record {
      left = (cable_passed i limit.no10 c.outside_percentage.ensures c.in_ok-cable_refusal.ensures).left;
      link_is = c.link_bits-link.ensures.0;
      link_most = c.link_bits-link.ensures.1;
      halting_is = limit_bits _ _ _ limit c.bits_of_quanta.ensures;
    }
