-- Any two answers that the contract of `keep` permits for the same call are equal. Stated about the contract itself; assumes nothing.
use mathlib.Core.Path.{sym, ◌∙◌}
use Rattle.ground.proofs.Decides.{Decides}
use Rattle.room_to_keep.proofs.keep.Kinds as keep_kinds
use Rattle.room_to_keep.proofs.keep.Reads as keep

pub keep_decides : Decides 0 keep_kinds.ps keep_kinds.r keep.Post
keep_decides κs args x y e f p q = p.1 ∙ sym q.1
