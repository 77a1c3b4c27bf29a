-- Determinacy of the decisions.
pub mod Decided
pub mod Order
