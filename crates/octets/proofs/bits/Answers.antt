-- Each mark is the bit of its number. Assumes nothing.
use Rattle.std.proofs.Common.{rules, false}
use Rattle.ground.specs.Eight.{is_set}
use Rattle.octets.proofs.Gathered.{eight_made}
use Rattle.octets.proofs.bits.Goals as goal

pub returns : goal.returns
returns c = eight_made _ _ (is_set c.args.octet) _ (λ n r q called. search rules) false c.from_fn.ensures.items
