-- Laws about the recorder's definitions.
pub mod Decided
pub mod Marking
pub mod Order
pub mod RoomLaws
