-- Determinacy of the step.
pub mod Decided
