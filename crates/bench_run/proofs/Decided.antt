-- Any two answers that the contract of this crate's public function permits for the same call are equal. It is stated about the
-- contract itself, and assumes nothing.
use mathlib.Core.Path.{sym, ◌∙◌}
use Rattle.ground.proofs.Decides.{Decides}
use Rattle.bench_run.proofs.run.Kinds as run_kinds
use Rattle.bench_run.proofs.run.Reads as run

pub run_decides : Decides 1 run_kinds.ps run_kinds.r run.Post
run_decides κs args x y e f p q = p ∙ sym q
