-- A whole slot stands at the place.
use Rattle.std.proofs.Common.{◌+◌, ◌≤◌, length}
use Rattle.figures.proofs.frames.read_all.Given as goal

abbrev pub invariant-loop : goal.invariant-loop
invariant-loop l = l.at + 128 ≤ length l.slots
