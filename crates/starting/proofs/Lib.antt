-- Laws of the kinds that start a frame.
pub mod Decided
pub mod Room
