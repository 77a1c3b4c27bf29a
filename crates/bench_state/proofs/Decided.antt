-- Any two answers that a contract of this crate permits for the same call are equal. It is stated about the contracts themselves, for
-- every public function, and assumes nothing.
use mathlib.Core.Path.{sym, ◌∙◌}
use Rattle.ground.proofs.Decides.{Decides}
use Rattle.bench_state.proofs.may_leave.Kinds as may_leave_kinds
use Rattle.bench_state.proofs.may_leave.Reads as may_leave
use Rattle.bench_state.proofs.is_busy.Kinds as is_busy_kinds
use Rattle.bench_state.proofs.is_busy.Reads as is_busy

pub may_leave_decides : Decides 1 may_leave_kinds.ps may_leave_kinds.r may_leave.Post
may_leave_decides κs args x y e f p q = p.1 ∙ sym q.1

pub is_busy_decides : Decides 0 is_busy_kinds.ps is_busy_kinds.r is_busy.Post
is_busy_decides κs args x y e f p q = p ∙ sym q
