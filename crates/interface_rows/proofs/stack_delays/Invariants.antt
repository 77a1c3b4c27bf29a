-- `Stacking` holds at each turn.
use Rattle.interface_rows.proofs.Stack.{Stacking}
use Rattle.interface_rows.proofs.stack_delays.Given as goal

abbrev pub invariant-loop-octet : goal.invariant-loop-octet
invariant-loop-octet l = Stacking l.first l.rows l.whole.0 l.octet-index
