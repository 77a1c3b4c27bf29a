-- Fewer octets than a slot has are all of them read. Assumes nothing.
use Rattle.std.proofs.Common.{ℕ, List, sym, ap, ◌∙◌, arith}
use lib.Seq.{take_all}
use Rattle.frame.specs.Read.{verdict}
use Rattle.bench_meaning.specs.Step.{address_a}
use Rattle.taking_effect.proofs.read_first.Goals as goal

pub returns-then-slots-lt-PFC_WIDTH : goal.returns-then-slots-lt-PFC_WIDTH
returns-then-slots-lt-PFC_WIDTH c =
    let a = c.args in
    c.read.ensures.answer ∙
    ap (λ (o : List ℕ). verdict o a.watch.settings.largest address_a) (sym (take_all 60 a.slots.now (omega (arith, c.if-slots-lt-PFC_WIDTH.true))))
