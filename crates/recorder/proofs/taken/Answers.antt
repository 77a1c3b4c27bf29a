-- The refusals of a taking in their order, and what leaves the room. Assumes nothing.
use Rattle.std.proofs.Common.{sym}
use borrow.Author.Tests.{le-ltb, lt-ltb}
use Rattle.rooms.specs.declared.Room.{Room}
use Rattle.rooms.specs.Room.{taken_from}
use Rattle.recorder.specs.Watching.{recorder_of, taken_with}
use Rattle.recorder.proofs.Marking.{room_put, taking_32, taking_43, taking_42, taking_0}
use Rattle.recorder.proofs.taken.Goals as goal

pub returns-then-priority-gt7 : goal.returns-then-priority-gt7
returns-then-priority-gt7 c =
    let a = c.args in
    let is = taking_32 a.enabled a.limits (recorder_of a.numbers.now a.marks) a.priority a.octets a.clock.0 (lt-ltb 7 a.priority c.if-priority-gt7.true) in
    record { number = is.0; answer = is.1; leaves = is.2 }

pub returns-then-not-is_enabled : goal.returns-then-not-is_enabled
returns-then-not-is_enabled c =
    let a = c.args in
    let is = taking_43 a.enabled a.limits (recorder_of a.numbers.now a.marks) a.priority a.octets a.clock.0
    (le-ltb 7 a.priority c.if-priority-gt7.false) (sym c.if-not-is_enabled.ensures) in
    record { number = is.0; answer = is.1; leaves = is.2 }

pub returns-then-was-octets : goal.returns-then-was-octets
returns-then-was-octets c =
    let a = c.args in
    let is = taking_42 a.enabled a.limits (recorder_of a.numbers.now a.marks) a.priority a.octets a.clock.0
    (le-ltb 7 a.priority c.if-priority-gt7.false) (sym c.if-not-is_enabled.ensures)
    (rw c.from-n.ensures at c.room_in-was.ensures) (lt-ltb _ _ c.if-was-octets.true) in
    record { number = is.0; answer = is.1; leaves = is.2 }

pub returns : goal.returns
unfolding taken_with
returns c =
    let a = c.args in
    let r = recorder_of a.numbers.now a.marks in
    let was = rw c.from-n.ensures at c.room_in-was.ensures in
    let is = taking_0 a.enabled a.limits r a.priority a.octets a.clock.0
    (le-ltb 7 a.priority c.if-priority-gt7.false) (sym c.if-not-is_enabled.ensures) was (le-ltb _ _ c.if-was-octets.false)
    (room_put r a.priority a.clock.0 (λ (x : Room). taken_from a.limits x a.octets) was c.taken-room.ensures c.numbers_of.ensures c.with_mark.ensures) in
    rw c.from-n.ensures (record { number = is.0; answer = is.1; leaves = is.2 })
