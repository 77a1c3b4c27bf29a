-- Some of the marks that are set on both sides. Assumes nothing.
use Rattle.settings.proofs.Settled.{some_of_both}
use Rattle.settings.proofs.some_enabled.Goals as goal

pub returns : goal.returns
returns c = some_of_both _ c.args.marks c.bits.ensures c.both.ensures c.some_of.ensures
