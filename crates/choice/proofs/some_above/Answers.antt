-- Whether any entry is above the limit, which is whether some of the eight is. Assumes nothing.
use Rattle.std.proofs.Common.{rules, length, ◌≡◌, ◌∙◌}
use Rattle.std.proofs.lemmas.Iterator.{YieldsList-from_slice}
use Rattle.std.proofs.lemmas.Iterator.Search.{any_from_yields_List}
use lib.Dec.{ltb}
use Rattle.ground.proofs.Tests.{tests}
use Rattle.choice.proofs.Highest.{any_of_eight}
use Rattle.choice.proofs.some_above.Goals as goal

pub returns : goal.returns
returns c =
    let above = ltb c.args.limit in
    let long : length c.args.entries ≡ 8 = search rules in
    any_from_yields_List above _ _ _ c.any.ensures.ran (YieldsList-from_slice c.args.entries c.iter.ensures.rest) (λ x b q called. search (rules, tests))
    ∙ any_of_eight above c.args.entries long
