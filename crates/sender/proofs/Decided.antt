-- Any two answers that a contract of this crate permits for the same call are equal. It is stated about the contracts themselves, for
-- every public function, so that a promise that left something out would not pass. Assumes nothing.
use mathlib.Core.Path.{◌≡◌, sym, ◌∙◌}
use contract.Lifetimes.{Lfts}
use borrow.Fn.Kinds.{Dens, res_t, ended_of}
use denote.Triple.Clauses.{AtExit}
use Rattle.ground.proofs.Decides.{Decides}
use Rattle.sender.proofs.send_refusal.Kinds as send_refusal_kinds
use Rattle.sender.proofs.send_refusal.Reads as send_refusal
use Rattle.sender.proofs.to_send.Kinds as to_send_kinds
use Rattle.sender.proofs.to_send.Reads as to_send

pub send_refusal_decides : Decides 1 send_refusal_kinds.ps send_refusal_kinds.r send_refusal.Post
send_refusal_decides κs args x y e f p q = p ∙ sym q

-- of the frame handed back: the octets in it (that they are one of the caller's own is what its lifetime says)
pub to_send_decides :
    (κs : Lfts 1) (args : Dens κs to_send_kinds.ps) (x y : (res_t to_send_kinds.r κs).Denot) (e f : AtExit (ended_of 1 to_send_kinds.ps to_send_kinds.r) κs) →
    to_send.Post κs args x e → to_send.Post κs args y f → x.now ≡ y.now
to_send_decides κs args x y e f p q = p ∙ sym q
