-- Laws of one room.
pub mod Decided
pub mod Made
pub mod Moves
pub mod RoomLaws
