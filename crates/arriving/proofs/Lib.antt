-- Determinacy of kinds 03 and 07.
pub mod Decided
