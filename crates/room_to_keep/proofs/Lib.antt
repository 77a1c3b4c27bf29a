-- Laws of what is kept.
pub mod Decided
pub mod Exactly
pub mod Room
