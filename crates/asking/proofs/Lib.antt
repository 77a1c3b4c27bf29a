-- Laws of kind 05.
pub mod Decided
pub mod Room
