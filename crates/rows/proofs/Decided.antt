-- Any two answers that a contract of this crate permits for the same call are equal, and so are the arrays lent to it. It is stated
-- about the contracts themselves, for every public function, and assumes nothing.
use mathlib.Core.Path.{◌≡◌, sym, ◌∙◌}
use contract.Lifetimes.{Lfts}
use borrow.Fn.Kinds.{Dens, res_t, ended_of}
use denote.Triple.Clauses.{AtExit}
use Rattle.ground.proofs.Decides.{Decides}
use Rattle.rows.proofs.oldest.Kinds as oldest_kinds
use Rattle.rows.proofs.oldest.Reads as oldest
use Rattle.rows.proofs.push.Kinds as push_kinds
use Rattle.rows.proofs.push.Reads as push
use Rattle.rows.proofs.leave.Kinds as leave_kinds
use Rattle.rows.proofs.leave.Reads as leave

pub oldest_decides : Decides 1 oldest_kinds.ps oldest_kinds.r oldest.Post
oldest_decides κs args x y e f p q = p ∙ sym q

-- of the two arrays at exit
pub push_decides : (κs : Lfts 3) (args : Dens κs push_kinds.ps) (x y : (res_t push_kinds.r κs).Denot)
    (e f : AtExit (ended_of 3 push_kinds.ps push_kinds.r) κs) →
    push.Post κs args x e → push.Post κs args y f →
    (e.0.now ≡ f.0.now) × (e.1.0.now ≡ f.1.0.now)
push_decides κs args x y e f p q = (p.0 ∙ sym q.0, p.1 ∙ sym q.1)

pub leave_decides : (κs : Lfts 2) (args : Dens κs leave_kinds.ps) (x y : (res_t leave_kinds.r κs).Denot)
    (e f : AtExit (ended_of 2 leave_kinds.ps leave_kinds.r) κs) →
    leave.Post κs args x e → leave.Post κs args y f →
    (e.0.now ≡ f.0.now) × (e.1.0.now ≡ f.1.0.now)
leave_decides κs args x y e f p q = (p.0 ∙ sym q.0, p.1 ∙ sym q.1)
