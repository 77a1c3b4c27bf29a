-- Any two answers that a contract of this crate permits for the same call are equal. It is stated about the contracts themselves, for
-- every public function, and assumes nothing.
use mathlib.Core.Path.{sym, ◌∙◌}
use Rattle.ground.proofs.Decides.{Decides}
use Rattle.headroom_sum.proofs.halt_limit.Kinds as halt_limit_kinds
use Rattle.headroom_sum.proofs.halt_limit.Reads as halt_limit
use Rattle.headroom_sum.proofs.sum.Kinds as sum_kinds
use Rattle.headroom_sum.proofs.sum.Reads as sum

pub halt_limit_decides : Decides 0 halt_limit_kinds.ps halt_limit_kinds.r halt_limit.Post
halt_limit_decides κs args x y e f p q = p.1 ∙ sym q.1

pub sum_decides : Decides 0 sum_kinds.ps sum_kinds.r sum.Post
sum_decides κs args x y e f p q = p.1 ∙ sym q.1
