-- Any two answers that the contract of this crate's public function permits for the same call are equal. It is stated about the
-- contract itself, and assumes nothing.
use mathlib.Core.Path.{sym, ◌∙◌}
use Rattle.ground.proofs.Decides.{Decides}
use Rattle.reporting.proofs.report_of.Kinds as report_of_kinds
use Rattle.reporting.proofs.report_of.Reads as report_of

pub report_of_decides : Decides 0 report_of_kinds.ps report_of_kinds.r report_of.Post
report_of_decides κs args x y e f p q = p ∙ sym q
