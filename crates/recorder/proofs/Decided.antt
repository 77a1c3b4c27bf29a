-- Any two answers that a contract of this crate permits for the same call are equal, and so are the numbers lent to it. It is stated
-- about the contracts themselves, for every public function, and assumes nothing.
use mathlib.Core.Path.{◌≡◌, sym, ap, ◌∙◌}
use contract.Lifetimes.{Lfts}
use borrow.Fn.Kinds.{Dens, res_t, ended_of}
use denote.Triple.Clauses.{AtExit}
use Rattle.ground.proofs.Decides.{Decides}
use Rattle.refusals.specs.Refusals.{refused_or}
use Rattle.recorder.specs.Watching.{Recorder, recorder_of, refusal_with}
use Rattle.recorder.proofs.arrived.Kinds as arrived_kinds
use Rattle.recorder.proofs.arrived.Reads as arrived
use Rattle.recorder.proofs.taken.Kinds as taken_kinds
use Rattle.recorder.proofs.taken.Reads as taken
use Rattle.recorder.proofs.limits_of.Kinds as limits_of_kinds
use Rattle.recorder.proofs.limits_of.Reads as limits_of

pub limits_of_decides : Decides 0 limits_of_kinds.ps limits_of_kinds.r limits_of.Post
limits_of_decides κs args x y e f p q = p ∙ sym q

-- of the marks and of the numbers at exit
pub arrived_decides : (κs : Lfts 1) (args : Dens κs arrived_kinds.ps) (x y : (res_t arrived_kinds.r κs).Denot)
    (e f : AtExit (ended_of 1 arrived_kinds.ps arrived_kinds.r) κs) → arrived.Post κs args x e → arrived.Post κs args y f →
    (x ≡ y) × (e.0.now ≡ f.0.now)
arrived_decides κs args x y e f p q =
    (ap (λ (r : Recorder). r.marks) (p ∙ sym q), ap (λ (r : Recorder). r.rooms) (p ∙ sym q))

-- of the answer and of the numbers at exit
pub taken_decides : (κs : Lfts 1) (args : Dens κs taken_kinds.ps) (x y : (res_t taken_kinds.r κs).Denot)
    (e f : AtExit (ended_of 1 taken_kinds.ps taken_kinds.r) κs) → taken.Post κs args x e → taken.Post κs args y f →
    (x ≡ y) × (e.0.now ≡ f.0.now)
taken_decides κs args x y e f p q =
    let whole = p.1.1 ∙ sym q.1.1 in (
      p.1.0 ∙ (λ i. refused_or (refusal_with args.1.1.0 (recorder_of args.0.now args.1.0) args.1.1.1.1.0 args.1.1.1.1.1.0) (whole i).marks) ∙ sym q.1.0,
      ap (λ (r : Recorder). r.rooms) whole,
    )
