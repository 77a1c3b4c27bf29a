-- The place is within the row, and each action leaves less of it.
use Rattle.std.proofs.Common.{◌-◌, ◌≤◌, length}
use Rattle.vectors.proofs.asked.after_row.Given as goal

abbrev pub invariant-loop-size : goal.invariant-loop-size
invariant-loop-size l = l.at ≤ length l.row

abbrev pub decreases-loop-size : goal.decreases-loop-size
decreases-loop-size l = length l.row - l.at
