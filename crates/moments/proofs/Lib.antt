-- Laws of moments.
pub mod Bounds
pub mod Decided
pub mod DueLaws
pub mod Reached
