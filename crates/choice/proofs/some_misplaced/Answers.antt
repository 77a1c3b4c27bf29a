-- Whether the front of any class is misplaced. Assumes nothing.
use Rattle.std.proofs.Common.{rules, refl, ◌∙◌}
use Rattle.std.specs.List.{range_with_len}
use Rattle.std.proofs.lemmas.Iterator.{YieldsList-from_range}
use Rattle.std.proofs.lemmas.Iterator.Search.{any_from_yields_List}
use Rattle.choice.specs.Choice.{is_misplaced}
use Rattle.choice.proofs.Highest.{any_is_some}
use Rattle.choice.proofs.some_misplaced.Goals as goal

pub returns : goal.returns
returns c =
    let misplaced = is_misplaced c.args.fronts c.args.map in
    any_from_yields_List misplaced _ _ _ c.any.ensures.ran (YieldsList-from_range 0 8 8 refl refl) (λ x b q called. search rules)
    ∙ any_is_some misplaced (range_with_len 0 8)
