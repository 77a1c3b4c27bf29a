-- Each kind of record is answered as its own law says. Assumes nothing.
use Rattle.std.proofs.Common.{Ok, sym, ap, ◌∙◌}
use Rattle.bench_memory.proofs.Answered.{answers_asked, octets_answers}
use Rattle.bench_memory.proofs.EachKind.{start_data_answers, arrive_answers, start_other_answers}
use Rattle.bench_memory.proofs.EachKind.{start_pfc_answers, take_effect_answers, take_octets_answers}
use Rattle.bench_memory.proofs.WaitLaws.{wait_answers}
use Rattle.bench_steps.proofs.step.asked.Goals as goal

pub returns-in-Wait : goal.returns-in-Wait
returns-in-Wait c =
    let a = c.args in
    answers_asked (sym c.in_ok-asked.ensures.answer ∙ ap Ok c.in-Wait.is)
    (wait_answers a.watch a.bench a.numbers.now a.data_ends.now a.data_slots.now a.pfc_ends.now a.pfc_slots.now
    _ c.requires c.wait_for.ensures.number c.wait_for.ensures.answer)

pub returns-in-StartData : goal.returns-in-StartData
returns-in-StartData c =
    let a = c.args in
    answers_asked (sym c.in_ok-asked.ensures.answer ∙ ap Ok c.in-StartData.is)
    (start_data_answers a.watch a.bench a.numbers.now a.data_ends.now a.data_slots.now a.pfc_ends.now a.pfc_slots.now
    c.requires _ _ (c.start_data.ensures.number, c.start_data.ensures.answer) c.start_data.ensures.lent)

pub returns-in-Arrive : goal.returns-in-Arrive
returns-in-Arrive c =
    let a = c.args in
    answers_asked (sym c.in_ok-asked.ensures.answer ∙ ap Ok c.in-Arrive.is)
    (arrive_answers a.watch a.bench a.numbers.now a.data_ends.now a.data_slots.now a.pfc_ends.now a.pfc_slots.now
    c.requires (c.arrive.ensures.number, c.arrive.ensures.answer) c.arrive.ensures.rooms c.arrive.ensures.lent)

pub returns-in-StartOther : goal.returns-in-StartOther
returns-in-StartOther c =
    let a = c.args in
    answers_asked (sym c.in_ok-asked.ensures.answer ∙ ap Ok c.in-StartOther.is)
    (start_other_answers a.watch a.bench a.numbers.now a.data_ends.now a.data_slots.now a.pfc_ends.now a.pfc_slots.now
    c.requires _ (c.start_other.ensures.number, c.start_other.ensures.answer))

pub returns-in-StartPfc : goal.returns-in-StartPfc
returns-in-StartPfc c =
    let a = c.args in
    answers_asked (sym c.in_ok-asked.ensures.answer ∙ ap Ok c.in-StartPfc.is)
    (start_pfc_answers a.watch a.bench a.numbers.now a.data_ends.now a.data_slots.now a.pfc_ends.now a.pfc_slots.now
    c.requires (c.start_pfc.ensures.number, c.start_pfc.ensures.answer) c.start_pfc.ensures.lent)

pub returns-in-TakeEffect : goal.returns-in-TakeEffect
returns-in-TakeEffect c =
    let a = c.args in
    answers_asked (sym c.in_ok-asked.ensures.answer ∙ ap Ok c.in-TakeEffect.is)
    (take_effect_answers a.watch a.bench a.numbers.now a.data_ends.now a.data_slots.now a.pfc_ends.now a.pfc_slots.now
    c.requires (c.take_effect.ensures.number, c.take_effect.ensures.answer) c.take_effect.ensures.lent)

pub returns-in-TakeOctets : goal.returns-in-TakeOctets
returns-in-TakeOctets c =
    let a = c.args in
    answers_asked (sym c.in_ok-asked.ensures.answer ∙ ap Ok c.in-TakeOctets.is)
    (take_octets_answers a.watch a.bench a.numbers.now a.data_ends.now a.data_slots.now a.pfc_ends.now a.pfc_slots.now
    c.requires _ _ (c.take_octets.ensures.number, c.take_octets.ensures.answer) c.take_octets.ensures.rooms)

pub returns-in_err-asked : goal.returns-in_err-asked
returns-in_err-asked c =
    let a = c.args in
    octets_answers a.watch a.bench a.numbers.now a.data_ends.now a.data_slots.now a.pfc_ends.now a.pfc_slots.now a.record.now
    c.in_err-asked.field-0.0 c.from_residual.result c.in_err-asked.ensures.answer c.from_residual.ensures.1
