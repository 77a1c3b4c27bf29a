-- Laws about the limits.
pub mod Decided
