-- Any two answers that a contract of this crate permits for the same call are equal, and so are the arrays lent to it. It is stated
-- about the contracts themselves, for every public function, and assumes nothing.
use mathlib.Core.Path.{◌≡◌, sym, ◌∙◌}
use contract.Lifetimes.{Lfts}
use borrow.Fn.Kinds.{Dens, res_t, ended_of}
use denote.Triple.Clauses.{AtExit}
use Rattle.ground.proofs.Decides.{Decides}
use Rattle.starting.proofs.start_data.Kinds as start_data_kinds
use Rattle.starting.proofs.start_data.Reads as start_data
use Rattle.starting.proofs.start_other.Kinds as start_other_kinds
use Rattle.starting.proofs.start_other.Reads as start_other

pub start_other_decides : Decides 0 start_other_kinds.ps start_other_kinds.r start_other.Post
start_other_decides κs args x y e f p q = p.1 ∙ sym q.1

-- of the answer and of the two arrays at exit
pub start_data_decides : (κs : Lfts 2) (args : Dens κs start_data_kinds.ps) (x y : (res_t start_data_kinds.r κs).Denot)
    (e f : AtExit (ended_of 2 start_data_kinds.ps start_data_kinds.r) κs) →
    start_data.Post κs args x e → start_data.Post κs args y f →
    (x ≡ y) × (e.1.1.0.now ≡ f.1.1.0.now) × (e.1.1.1.0.now ≡ f.1.1.1.0.now)
start_data_decides κs args x y e f p q =
    (p.1.0 ∙ sym q.1.0, p.1.1.ends_are ∙ sym q.1.1.ends_are, p.1.1.slots_are ∙ sym q.1.1.slots_are)
