-- Any two answers that the contract of this crate's public function permits for the same call are equal, and so are the arrays lent to it.
-- It is stated about the contract itself, and assumes nothing.
use mathlib.Core.Path.{◌≡◌, sym, ◌∙◌}
use contract.Lifetimes.{Lfts}
use borrow.Fn.Kinds.{Dens, res_t, ended_of}
use denote.Triple.Clauses.{AtExit}
use Rattle.taking_effect.proofs.take_effect.Kinds as take_effect_kinds
use Rattle.taking_effect.proofs.take_effect.Reads as take_effect

-- of the answer and of the two arrays
pub take_effect_decides : (κs : Lfts 2) (args : Dens κs take_effect_kinds.ps) (x y : (res_t take_effect_kinds.r κs).Denot)
    (e f : AtExit (ended_of 2 take_effect_kinds.ps take_effect_kinds.r) κs) → take_effect.Post κs args x e → take_effect.Post κs args y f →
    (x ≡ y) × (e.1.1.0.now ≡ f.1.1.0.now) × (e.1.1.1.0.now ≡ f.1.1.1.0.now)
take_effect_decides κs args x y e f p q =
    (p.1.0 ∙ sym q.1.0, p.1.1.ends_are ∙ sym q.1.1.ends_are, p.1.1.slots_are ∙ sym q.1.1.slots_are)
