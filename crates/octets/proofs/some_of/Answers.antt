-- Whether any of the marks passes, which is whether some is set. Assumes nothing.
use Rattle.std.proofs.Common.{rules, ◌∙◌}
use Rattle.std.proofs.lemmas.Iterator.{YieldsList-from_slice}
use Rattle.std.proofs.lemmas.Iterator.Search.{any_from_yields_List}
use Rattle.octets.proofs.BitLaws.{some_is_any}
use Rattle.octets.proofs.some_of.Goals as goal

pub returns : goal.returns
returns c =
    any_from_yields_List (λ mark. mark) _ _ _ c.any.ensures.ran (YieldsList-from_slice c.args.marks c.iter.ensures.rest) (λ x b q called. search rules)
    ∙ some_is_any c.args.marks
