-- Any two answers that a contract of this crate permits for the same call are equal, and so is what was lent to it. It is stated about
-- the contracts themselves, for every public function, and assumes nothing.
use mathlib.Core.Path.{◌≡◌, sym, ◌∙◌}
use contract.Lifetimes.{Lfts}
use borrow.Fn.Kinds.{Dens, res_t, ended_of}
use denote.Triple.Clauses.{AtExit}
use Rattle.arriving.proofs.arrive.Kinds as arrive_kinds
use Rattle.arriving.proofs.arrive.Reads as arrive
use Rattle.arriving.proofs.take_octets.Kinds as take_octets_kinds
use Rattle.arriving.proofs.take_octets.Reads as take_octets

-- of the answer, of the rooms' numbers and of the two arrays at exit
pub arrive_decides : (κs : Lfts 3) (args : Dens κs arrive_kinds.ps) (x y : (res_t arrive_kinds.r κs).Denot)
    (e f : AtExit (ended_of 3 arrive_kinds.ps arrive_kinds.r) κs) → arrive.Post κs args x e → arrive.Post κs args y f →
    (x ≡ y) × (e.1.1.0.now ≡ f.1.1.0.now) × (e.1.1.1.0.now ≡ f.1.1.1.0.now) × (e.1.1.1.1.0.now ≡ f.1.1.1.1.0.now)
arrive_decides κs args x y e f p q =
    (p.1.0 ∙ sym q.1.0, p.1.1.0 ∙ sym q.1.1.0, p.1.1.1.ends_are ∙ sym q.1.1.1.ends_are, p.1.1.1.slots_are ∙ sym q.1.1.1.slots_are)

-- of the answer and of the rooms' numbers
pub take_octets_decides : (κs : Lfts 1) (args : Dens κs take_octets_kinds.ps) (x y : (res_t take_octets_kinds.r κs).Denot)
    (e f : AtExit (ended_of 1 take_octets_kinds.ps take_octets_kinds.r) κs) → take_octets.Post κs args x e → take_octets.Post κs args y f →
    (x ≡ y) × (e.1.1.0.now ≡ f.1.1.0.now)
take_octets_decides κs args x y e f p q = (p.1.0 ∙ sym q.1.0, p.1.1 ∙ sym q.1.1)
