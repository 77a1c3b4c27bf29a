-- Any two answers that a contract of this crate permits for the same call are equal. It is stated about the contracts themselves, for
-- every public function, so that a promise that left something out would not pass. Assumes nothing.
use mathlib.Core.Path.{sym, ◌∙◌}
use Rattle.ground.proofs.Decides.{Decides}
use Rattle.rooms.proofs.limits_for.Kinds as limits_for_kinds
use Rattle.rooms.proofs.limits_for.Reads as limits_for
use Rattle.rooms.proofs.room_in.Kinds as room_in_kinds
use Rattle.rooms.proofs.room_in.Reads as room_in
use Rattle.rooms.proofs.numbers_of.Kinds as numbers_of_kinds
use Rattle.rooms.proofs.numbers_of.Reads as numbers_of
use Rattle.rooms.proofs.arrived.Kinds as arrived_kinds
use Rattle.rooms.proofs.arrived.Reads as arrived
use Rattle.rooms.proofs.taken.Kinds as taken_kinds
use Rattle.rooms.proofs.taken.Reads as taken

pub limits_for_decides : Decides 0 limits_for_kinds.ps limits_for_kinds.r limits_for.Post
limits_for_decides κs args x y e f p q = p ∙ sym q

pub room_in_decides : Decides 0 room_in_kinds.ps room_in_kinds.r room_in.Post
room_in_decides κs args x y e f p q = p ∙ sym q

pub numbers_of_decides : Decides 0 numbers_of_kinds.ps numbers_of_kinds.r numbers_of.Post
numbers_of_decides κs args x y e f p q = p ∙ sym q

pub arrived_decides : Decides 0 arrived_kinds.ps arrived_kinds.r arrived.Post
arrived_decides κs args x y e f p q = p ∙ sym q

pub taken_decides : Decides 0 taken_kinds.ps taken_kinds.r taken.Post
taken_decides κs args x y e f p q = p ∙ sym q
