-- Any two answers that the contract of the public step permits for the same call are equal, and so are the arrays lent to it. It is
-- stated about the contract itself, and assumes nothing.
use mathlib.Core.Path.{◌≡◌, sym, ap, ◌∙◌}
use contract.Lifetimes.{Lfts}
use borrow.Fn.Kinds.{Dens, res_t, ended_of}
use denote.Triple.Clauses.{AtExit}
use Rattle.bench_memory.specs.Memory.{Memory}
use Rattle.bench_steps.proofs.step.step.Kinds as step_kinds
use Rattle.bench_steps.proofs.step.step.Reads as step

-- of the answer, of the rooms' numbers and of the four arrays at exit
pub step_decides : (κs : Lfts 6) (args : Dens κs step_kinds.ps) (x y : (res_t step_kinds.r κs).Denot)
    (e f : AtExit (ended_of 6 step_kinds.ps step_kinds.r) κs) → step.Post κs args x e → step.Post κs args y f →
    (x ≡ y) × (e.1.1.0.now ≡ f.1.1.0.now) × (e.1.1.1.0.now ≡ f.1.1.1.0.now) ×
    (e.1.1.1.1.0.now ≡ f.1.1.1.1.0.now) × (e.1.1.1.1.1.0.now ≡ f.1.1.1.1.1.0.now) ×
    (e.1.1.1.1.1.1.0.now ≡ f.1.1.1.1.1.1.0.now)
step_decides κs args x y e f p q =
    let whole = p.1.1 ∙ sym q.1.1 in (
      p.1.0 ∙ sym q.1.0,
      ap (λ (m : Memory). m.rooms) whole,
      ap (λ (m : Memory). m.to_b.ends) whole,
      ap (λ (m : Memory). m.to_b.slots) whole,
      ap (λ (m : Memory). m.to_a.ends) whole,
      ap (λ (m : Memory). m.to_a.slots) whole,
    )
