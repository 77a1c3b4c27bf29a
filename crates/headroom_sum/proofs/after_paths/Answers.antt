-- What `keep` answers says whether 14 holds. Assumes nothing.
use Rattle.std.proofs.Common.{Ok, ◌∙◌, ap}
use Rattle.ground.specs.Pick.{pick}
use Rattle.ground.specs.First.{first_of}
use Rattle.ground.proofs.Pick.{pick_yes, pick_no}
use Rattle.refusals.specs.Refusals.{refused_or, numbered_in}
use Rattle.room_to_keep.proofs.Room.{is_room}
use Rattle.headroom_sum.proofs.Exactly.{answered_by}
use Rattle.headroom_sum.proofs.Order.{refused_by_paths, over_halt, within_halt, items_made}
use Rattle.headroom_sum.proofs.after_paths.Goals as goal

pub returns-in_err-room : goal.returns-in_err-room
returns-in_err-room c =
    let at = c.requires in
    refused_by_paths _ _ _ c.from_residual.ensures.1 at.before at.request_is at.data_is c.in_err-room.ensures.answer

pub returns-then-halting-inputs : goal.returns-then-halting-inputs
unfolding refused_or numbered_in pick first_of
returns-then-halting-inputs c =
    let at = c.requires
    in let room = rw (at.request_is, at.data_is) at (is_room _ _ _ _ _ c.in_ok-room.ensures.answer)
    in let no14 = pick_no _ _ at.before.stations ∙ room.no14
    in let over19 = over_halt _ _ _ at.halting_is c.if-halting-inputs.true
    in answered_by _ (at.before.left ∙ (pick_no _ _ no14 ∙ pick_yes _ _ over19))

pub total_bits-requires : goal.total_bits-requires
total_bits-requires c =
    let k = (is_room _ _ _ _ _ c.in_ok-room.ensures.answer).bounds
    in (k.most, k.generation_most, k.request_most, k.data_most)

pub returns : goal.returns
unfolding refused_or pick first_of
returns c =
    let at = c.requires
    in let room = rw (at.request_is, at.data_is) at (is_room _ _ _ _ _ c.in_ok-room.ensures.answer)
    in let no14 = pick_no _ _ at.before.stations ∙ room.no14
    in let no19 = within_halt _ _ _ at.halting_is c.if-halting-inputs.false
    in ap Ok (items_made _ _ _ _ _ _ at.link_is at.request_is at.data_is c.total_bits.ensures room.is) ∙
    answered_by _ (at.before.left ∙ (pick_no _ _ no14 ∙ pick_no _ _ no19))
