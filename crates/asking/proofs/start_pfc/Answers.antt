-- What `start_pfc` leaves of the arrays where it is refused, and where the PFC frame joins those under way. Assumes nothing.
use Rattle.bench_state.proofs.Either.{nothing_pushed, pushed}
use Rattle.asking.proofs.start_pfc.Goals as goal

pub returns-in_err-may_start_pfc-clause-lent : goal.returns-in_err-may_start_pfc-clause-lent
returns-in_err-may_start_pfc-clause-lent c = nothing_pushed c.in_err-may_start_pfc.ensures.answer

pub returns-clause-lent : goal.returns-clause-lent
returns-clause-lent c =
    pushed c.in_ok-may_start_pfc.ensures.answer c.later-end.ensures c.pfc_octets-octets.ensures c.push.ensures.0 c.push.ensures.1
