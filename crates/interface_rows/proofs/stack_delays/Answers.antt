-- `Stacking` goes on by one row. Assumes nothing.
use Rattle.std.proofs.Common.{sym, ◌∙◌}
use Rattle.interface_rows.proofs.Stack.{next}
use Rattle.interface_rows.proofs.stack_delays.Goals as goal

pub loop-octet-preserved : goal.loop-octet-preserved
loop-octet-preserved c =
    let found = sym c.in_ok-row.ensures.ok_part ∙ c.row_at.ensures.1 in
    rw c.more_bits-whole.ensures
    (next _ _ _ _ _ c.loop-octet.invariant c.loop-octet-test.true c.index_from.ensures c.in_ok-row.row found)
