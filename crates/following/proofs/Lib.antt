-- Laws of a run's loop.
pub mod Decided
pub mod Following
