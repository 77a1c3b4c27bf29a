-- Arrays that lack the places are refused; else one record is answered on them. Assumes nothing.
use Rattle.std.proofs.Common.{sym}
use Rattle.bench_memory.specs.Memory.{memory_of, lane_fits}
use Rattle.bench_memory.proofs.Stepping.{unfit_to_b, unfit_to_a, fit_lent, fit_answers}
use Rattle.bench_steps.proofs.step.step.Goals as goal

pub returns-then-not-fits : goal.returns-then-not-fits
unfolding lane_fits
returns-then-not-fits c =
    let a = c.args in
    let m = memory_of a.bench a.numbers.now a.data_ends.now a.data_slots.now a.pfc_ends.now a.pfc_slots.now in
    let is = unfit_to_b a.watch m a.record.now (sym c.if-not-fits.ensures) in
    record { number = is.0; answer = is.1; memory = is.2 }

pub returns-then-not-fits-2 : goal.returns-then-not-fits-2
unfolding lane_fits
returns-then-not-fits-2 c =
    let a = c.args in
    let m = memory_of a.bench a.numbers.now a.data_ends.now a.data_slots.now a.pfc_ends.now a.pfc_slots.now in
    let is = unfit_to_a a.watch m a.record.now (sym c.if-not-fits.ensures) (sym c.if-not-fits-2.ensures) in
    record { number = is.0; answer = is.1; memory = is.2 }

pub asked-requires : goal.asked-requires
unfolding lane_fits
asked-requires c =
    let a = c.args in
    let m = memory_of a.bench a.numbers.now a.data_ends.now a.data_slots.now a.pfc_ends.now a.pfc_slots.now in
    fit_lent a.watch m a.record.now (sym c.if-not-fits.ensures) (sym c.if-not-fits-2.ensures)

pub returns : goal.returns
unfolding lane_fits
returns c =
    let a = c.args in
    let m = memory_of a.bench a.numbers.now a.data_ends.now a.data_slots.now a.pfc_ends.now a.pfc_slots.now in
    let lent = fit_lent a.watch m a.record.now (sym c.if-not-fits.ensures) (sym c.if-not-fits-2.ensures) in
    let is = fit_answers a.watch m a.record.now lent c.asked.ensures in
    record { number = is.0; answer = is.1; memory = is.2 }
