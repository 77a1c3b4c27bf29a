-- Determinacy of the report.
pub mod Decided
