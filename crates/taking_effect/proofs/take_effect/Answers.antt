-- What `take_effect` leaves of the arrays where it is refused, and where the oldest PFC frame leaves. Assumes nothing.
use Rattle.bench_state.proofs.Either.{nothing_left, left}
use Rattle.taking_effect.proofs.take_effect.Goals as goal

pub returns-in_err-may_leave-clause-lent : goal.returns-in_err-may_leave-clause-lent
returns-in_err-may_leave-clause-lent c = nothing_left c.in_err-may_leave.ensures.answer

pub returns-clause-lent : goal.returns-clause-lent
returns-clause-lent c = left c.in_ok-may_leave.ensures.answer c.leave.ensures.0 c.leave.ensures.1
