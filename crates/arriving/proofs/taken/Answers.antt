-- What a taking answers and leaves of the rooms, by the recorder's own. Assumes nothing.
use Rattle.std.proofs.Common.{ap, ◌∙◌}
use Rattle.rooms.specs.declared.Limits.{Limits}
use Rattle.refusals.specs.Refusals.{refused_or}
use Rattle.recorder.specs.Watching.{Recorder, recorder_of, leaves_with, taking_refusal, taking_leaves}
use Rattle.arriving.specs.Arriving.{taking_number, taking_by}
use Rattle.arriving.proofs.taken.Goals as goal

pub returns-clause-rooms : goal.returns-clause-rooms
unfolding taking_by taking_leaves
returns-clause-rooms c =
    let a = c.args in
    let was = recorder_of a.numbers.now a.bench.marks in
    ap (λ (r : Recorder). r.rooms)
    ((rw c.from.ensures at c.taken.ensures.leaves) ∙
    ap (λ (l : Limits). leaves_with a.watch.settings.enabled l was a.priority a.count a.bench.clock.0) c.limits_of.ensures)

pub returns-clause-answer : goal.returns-clause-answer
unfolding taking_by taking_leaves taking_number taking_refusal
returns-clause-answer c =
    let a = c.args in
    let was = recorder_of a.numbers.now a.bench.marks in
    let leaves =
    (rw c.from.ensures at c.taken.ensures.leaves) ∙
    ap (λ (l : Limits). leaves_with a.watch.settings.enabled l was a.priority a.count a.bench.clock.0) c.limits_of.ensures in
    (rw c.from.ensures at c.taken.ensures.answer) ∙
    ap (λ (r : Recorder). refused_or (taking_refusal a.watch was a.priority a.count) r.marks) leaves
