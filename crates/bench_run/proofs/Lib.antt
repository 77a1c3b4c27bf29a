-- Laws of a run.
pub mod Decided
pub mod Running
pub mod Told
