-- What `arrive` leaves of the rooms and the arrays where it is refused, and where the oldest data frame leaves. Assumes nothing.
use Rattle.std.proofs.Common.{ap, ◌∙◌}
use Rattle.refusals.proofs.Refused.{ok_is, err_is}
use Rattle.recorder.specs.Watching.{Recorder}
use Rattle.bench_state.proofs.Either.{when_accepted, when_refused, nothing_left, left}
use Rattle.arriving.proofs.arrive.Goals as goal

pub returns-in_err-may_leave-clause-rooms : goal.returns-in_err-may_leave-clause-rooms
returns-in_err-may_leave-clause-rooms c = when_refused _ _ (err_is _ tt c.in_err-may_leave.ensures.answer).0

pub returns-in_err-may_leave-clause-lent : goal.returns-in_err-may_leave-clause-lent
returns-in_err-may_leave-clause-lent c = nothing_left c.in_err-may_leave.ensures.answer

pub returns-clause-rooms : goal.returns-clause-rooms
returns-clause-rooms c =
    ap (λ (r : Recorder). r.rooms) c.brought-marks.ensures ∙ when_accepted _ _ (ok_is _ tt c.in_ok-may_leave.ensures.answer).0

pub returns-clause-lent : goal.returns-clause-lent
returns-clause-lent c = left c.in_ok-may_leave.ensures.answer c.leave.ensures.0 c.leave.ensures.1
