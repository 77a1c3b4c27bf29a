-- Where 13 and 14 refuse nothing the bounds of a room hold. Assumes nothing.
use Rattle.room_to_keep.proofs.Room.{passed}
use Rattle.room_to_keep.proofs.keep.Goals as goal

pub room_of-requires : goal.room_of-requires
room_of-requires c =
    let within = passed _ _ _ _ c.is_outside_m.ensures c.over.ensures c.in_ok-first_of.ensures in
    (within.most, within.generation_most, within.request_most, within.data_most)
