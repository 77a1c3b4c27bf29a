-- After i octet times the pace is the closed form at i.
use Rattle.std.proofs.Common.{◌≡◌}
use Rattle.walk.specs.Pacing.{paced_by}
use Rattle.walk.proofs.paced.Given as goal

abbrev pub invariant-loop-i : goal.invariant-loop-i
invariant-loop-i l = l.pace ≡ paced_by l.fn.start l._i
