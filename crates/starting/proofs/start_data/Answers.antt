-- What `start_data` leaves of the arrays where it is refused, and where a frame joins those under way. Assumes nothing.
use Rattle.std.proofs.Common.{ap}
use Rattle.units.specs.declared.OctetTimes.{OctetTimes}
use Rattle.bench_state.proofs.Either.{nothing_pushed, pushed}
use Rattle.starting.proofs.start_data.Goals as goal

pub returns-in_err-may_start_data-clause-lent : goal.returns-in_err-may_start_data-clause-lent
returns-in_err-may_start_data-clause-lent c = nothing_pushed c.in_err-may_start_data.ensures.answer

pub returns-clause-lent : goal.returns-clause-lent
returns-clause-lent c =
    pushed c.in_ok-may_start_data.ensures.answer (ap (λ (e : OctetTimes). e.0) c.data_end-end.ensures) c.data_octets-octets.ensures
    c.push.ensures.0 c.push.ensures.1
