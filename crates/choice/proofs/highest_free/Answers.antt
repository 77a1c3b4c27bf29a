-- The first class that may go, from 7 down, is the highest that may go. Assumes nothing.
use Rattle.std.proofs.Common.{rules}
use Rattle.choice.proofs.Highest.{find_is_highest}
use Rattle.choice.proofs.highest_free.Goals as goal

pub returns : goal.returns
returns c = find_is_highest _ _ 8 c.rev.result _ _ c.find.result (search rules) c.find.ensures.ran (λ x b q called. search rules)
