-- What the contracts and laws of rooms cite.
pub mod Room
pub mod RoomRun
