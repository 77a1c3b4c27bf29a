-- The octet at each place is the one so many places on. Assumes nothing.
use Rattle.std.proofs.Common.{rules, arith}
use Rattle.std.proofs.lemmas.List.{get_or-drop}
use Rattle.octets.specs.Numbers.{octet_at}
use Rattle.octets.proofs.Gathered.{each_is}
use Rattle.octets.proofs.octets_at.Goals as goal

pub returns : goal.returns
returns g c n below =
    let is = each_is _ _ (octet_at c.rest_from-rest.result.now) _ (λ n r q called. search rules) n 0 _ n 0 (omega arith) below c.from_fn.ensures.items.each in
    grind (arith, is, get_or-drop, c.rest_from-rest.ensures)
