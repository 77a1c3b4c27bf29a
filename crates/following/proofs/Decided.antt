-- Any two answers that the contract of this crate's public function permits for the same call are equal. It is stated about the
-- contract itself, and assumes nothing.
use mathlib.Core.Path.{sym, ◌∙◌}
use Rattle.ground.proofs.Decides.{Decides}
use Rattle.following.proofs.follow.Kinds as follow_kinds
use Rattle.following.proofs.follow.Reads as follow

pub follow_decides : Decides 1 follow_kinds.ps follow_kinds.r follow.Post
follow_decides κs args x y e f p q = p ∙ sym q
