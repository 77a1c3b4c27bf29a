-- Any two answers that a contract of this crate permits for the same call are equal. It is stated about the contracts themselves, for
-- every public function, and assumes nothing.
use mathlib.Core.Path.{◌≡◌, sym, ◌∙◌}
use contract.Lifetimes.{Lfts}
use borrow.Fn.Kinds.{Dens, res_t, ended_of}
use denote.Triple.Clauses.{AtExit}
use Rattle.ground.proofs.Decides.{Decides}
use Rattle.frame.proofs.read.Kinds as read_kinds
use Rattle.frame.proofs.read.Reads as read
use Rattle.frame.proofs.part.Kinds as part_kinds
use Rattle.frame.proofs.part.Reads as part

pub read_decides : Decides 1 read_kinds.ps read_kinds.r read.Post
read_decides κs args x y e f p q = p.1 ∙ sym q.1

-- of a part handed back: the octets in it (that they are the caller's own is what its lifetime says)
pub part_decides : (κs : Lfts 1) (args : Dens κs part_kinds.ps) (x y : (res_t part_kinds.r κs).Denot)
    (e f : AtExit (ended_of 1 part_kinds.ps part_kinds.r) κs) →
    part.Post κs args x e → part.Post κs args y f → x.now ≡ y.now
part_decides κs args x y e f p q = p ∙ sym q
