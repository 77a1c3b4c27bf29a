-- Any two answers that a contract of this crate permits for the same call are equal. It is stated about the contracts themselves, for
-- every public function, so that a promise that left something out would not pass. Assumes nothing.
use mathlib.Core.Path.{sym, ◌∙◌}
use Rattle.ground.proofs.Decides.{Decides}
use Rattle.walk.proofs.walked.Kinds as walked_kinds
use Rattle.walk.proofs.walked.Reads as walked

pub walked_decides : Decides 0 walked_kinds.ps walked_kinds.r walked.Post
walked_decides κs args x y e f p q = p ∙ sym q
