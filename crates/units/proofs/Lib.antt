-- Laws about the units.
pub mod Decided
