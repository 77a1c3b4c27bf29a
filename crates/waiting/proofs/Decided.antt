-- Any two answers that the contract of this crate's public function permits for the same call are equal. It is stated about the
-- contract itself, and assumes nothing.
use mathlib.Core.Path.{sym, ◌∙◌}
use Rattle.ground.proofs.Decides.{Decides}
use Rattle.waiting.proofs.wait_for.Kinds as wait_for_kinds
use Rattle.waiting.proofs.wait_for.Reads as wait_for

pub wait_for_decides : Decides 2 wait_for_kinds.ps wait_for_kinds.r wait_for.Post
wait_for_decides κs args x y e f p q = p.1 ∙ sym q.1
