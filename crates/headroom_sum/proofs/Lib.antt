-- Laws of the headroom sum.
pub mod Decided
pub mod Exactly
pub mod Link
pub mod Order
pub mod Rate
