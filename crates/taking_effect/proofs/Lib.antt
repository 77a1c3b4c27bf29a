-- Determinacy of kind 06.
pub mod Decided
