-- A wait is refused by 41 before the walk, by 40 after it, or leaves what stands where it ends. Assumes nothing.
use Rattle.std.proofs.Common.{ap, ◌∙◌}
use Rattle.refusals.proofs.Refused.{err_is, refused_on, passed_on}
use Rattle.decisions.specs.Chains.{wait_number}
use Rattle.waiting.specs.Waiting.{walk_from, after_walk, late_after, waiting_number, waited_by}
use Rattle.waiting.proofs.Far.{far_first, waited_number}
use Rattle.waiting.proofs.wait_for.Goals as goal

pub returns-in_err-may_wait-clause-answer : goal.returns-in_err-may_wait-clause-answer
unfolding waited_by waiting_number wait_number
returns-in_err-may_wait-clause-answer c =
    let a = c.args in
    let refused = c.in_err-may_wait.ensures.answer in
    let late = late_after a.watch a.bench a.ends.now a.pfc_ends.now (walk_from a.watch a.bench a.n) in
    let far = far_first c.later-reached.result.0 late (err_is _ tt refused).0 ∙ ap (λ r. wait_number r late) (rw c.from.ensures at c.later-reached.ensures) in
    refused_on far (after_walk a.bench (walk_from a.watch a.bench a.n)) c.from_residual.ensures.1 refused

pub returns-in_err-may_wait-clause-number : goal.returns-in_err-may_wait-clause-number
returns-in_err-may_wait-clause-number c =
    let a = c.args in waited_number a.watch a.bench a.ends.now a.pfc_ends.now a.n (returns-in_err-may_wait-clause-answer c)

pub returns-in_err-may_wait-2-clause-answer : goal.returns-in_err-may_wait-2-clause-answer
unfolding waited_by waiting_number wait_number
returns-in_err-may_wait-2-clause-answer c =
    let a = c.args in
    let reached = rw c.from.ensures at c.later-reached.ensures in
    let late = c.late_after.ensures ∙ ap (late_after a.watch a.bench a.ends.now a.pfc_ends.now) c.walk_from-walk.ensures in
    refused_on (λ i. wait_number (reached i) (late i)) (after_walk a.bench (walk_from a.watch a.bench a.n))
    c.from_residual-in_err-may_wait-2.ensures.1 c.in_err-may_wait-2.ensures.answer

pub returns-in_err-may_wait-2-clause-number : goal.returns-in_err-may_wait-2-clause-number
returns-in_err-may_wait-2-clause-number c =
    let a = c.args in waited_number a.watch a.bench a.ends.now a.pfc_ends.now a.n (returns-in_err-may_wait-2-clause-answer c)

pub returns-clause-answer : goal.returns-clause-answer
unfolding waited_by waiting_number wait_number
returns-clause-answer c =
    let a = c.args in
    let reached = rw c.from.ensures at c.later-reached.ensures in
    let late = c.late_after.ensures ∙ ap (late_after a.watch a.bench a.ends.now a.pfc_ends.now) c.walk_from-walk.ensures in
    passed_on (λ i. wait_number (reached i) (late i)) c.in_ok-may_wait-2.ensures.answer
    (c.after_walk.ensures ∙ ap (after_walk a.bench) c.walk_from-walk.ensures)

pub returns-clause-number : goal.returns-clause-number
returns-clause-number c =
    let a = c.args in waited_number a.watch a.bench a.ends.now a.pfc_ends.now a.n (returns-clause-answer c)
