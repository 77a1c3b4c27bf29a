-- Laws of a wait.
pub mod Decided
pub mod Far
