-- An arrival in the room of an enabled priority. Assumes nothing.
use Rattle.std.proofs.Common.{sym, ◌∙◌}
use Rattle.ground.proofs.Pick.{pick_yes}
use Rattle.rooms.specs.declared.Room.{Room}
use Rattle.rooms.specs.Room.{arrived_in}
use Rattle.recorder.specs.Watching.{recorder_of, arrived_with}
use Rattle.recorder.proofs.Marking.{room_put}
use Rattle.recorder.proofs.arrived.Goals as goal

pub returns-then-is_enabled : goal.returns-then-is_enabled
unfolding arrived_with
returns-then-is_enabled c =
    let a = c.args in
    rw c.from-n.ensures (room_put (recorder_of a.numbers.now a.marks) a.priority a.clock.0 (λ (x : Room). arrived_in a.limits x a.length)
    (rw c.from-n.ensures at c.room_in-before.ensures) c.arrived-room.ensures c.numbers_of.ensures c.with_mark.ensures
    ∙ sym (pick_yes _ _ (sym c.if-is_enabled.ensures)))
