-- Any two answers that a contract of this crate permits for the same call are equal. It is stated about the contracts themselves, for
-- every public function, and assumes nothing.
use mathlib.Core.Path.{sym, ◌∙◌}
use Rattle.ground.proofs.Decides.{Decides}
use Rattle.refusals.proofs.Refusal.number.Kinds as number_kinds
use Rattle.refusals.proofs.Refusal.number.Reads as number
use Rattle.refusals.proofs.number_told.Kinds as number_told_kinds
use Rattle.refusals.proofs.number_told.Reads as number_told

pub number_decides : Decides 0 number_kinds.ps number_kinds.r number.Post
number_decides κs args x y e f p q = p ∙ sym q

pub number_told_decides : Decides 0 number_told_kinds.ps number_told_kinds.r number_told.Post
number_told_decides κs args x y e f p q = p ∙ sym q
