-- Any two answers that a contract of this crate permits for the same call are equal. It is stated about the contracts themselves, for
-- every public function, and assumes nothing.
use mathlib.Core.Path.{sym, ◌∙◌}
use Rattle.ground.proofs.Decides.{Decides}
use Rattle.choice.proofs.choose.Kinds as choose_kinds
use Rattle.choice.proofs.choose.Reads as choose
use Rattle.choice.proofs.choose_at.Kinds as choose_at_kinds
use Rattle.choice.proofs.choose_at.Reads as choose_at

pub choose_decides : Decides 0 choose_kinds.ps choose_kinds.r choose.Post
choose_decides κs args x y e f p q = p.1 ∙ sym q.1

pub choose_at_decides : Decides 0 choose_at_kinds.ps choose_at_kinds.r choose_at.Post
choose_at_decides κs args x y e f p q = p.1 ∙ sym q.1
