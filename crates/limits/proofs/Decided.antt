-- Any two answers that the contract of `is_outside_m` permits for the same call are equal. Stated about the contract itself; assumes
-- nothing.
use mathlib.Core.Path.{sym, ◌∙◌}
use Rattle.ground.proofs.Decides.{Decides}
use Rattle.limits.proofs.is_outside_m.Kinds as is_outside_m_kinds
use Rattle.limits.proofs.is_outside_m.Reads as is_outside_m

pub is_outside_m_decides : Decides 0 is_outside_m_kinds.ps is_outside_m_kinds.r is_outside_m.Post
is_outside_m_decides κs args x y e f p q = p ∙ sym q
