-- The place is within the file, and each case leaves less of it.
use Rattle.std.proofs.Common.{◌-◌, ◌≤◌, length}
use Rattle.vectors.proofs.answer_all.Given as goal

abbrev pub invariant-loop-file : goal.invariant-loop-file
invariant-loop-file l = l.at ≤ length l.file

abbrev pub decreases-loop-file : goal.decreases-loop-file
decreases-loop-file l = length l.file - l.at
