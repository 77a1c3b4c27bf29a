-- Any two answers that a contract of this crate permits for the same call are equal. It is stated about the contracts themselves, for
-- every public function, and assumes nothing.
use mathlib.Core.Path.{sym, ◌∙◌}
use Rattle.ground.proofs.Decides.{Decides}
use Rattle.settings.proofs.is_enabled.Kinds as is_enabled_kinds
use Rattle.settings.proofs.is_enabled.Reads as is_enabled
use Rattle.settings.proofs.settle.Kinds as settle_kinds
use Rattle.settings.proofs.settle.Reads as settle

pub is_enabled_decides : Decides 0 is_enabled_kinds.ps is_enabled_kinds.r is_enabled.Post
is_enabled_decides κs args x y e f p q = p ∙ sym q

pub settle_decides : Decides 0 settle_kinds.ps settle_kinds.r settle.Post
settle_decides κs args x y e f p q = p.1 ∙ sym q.1
