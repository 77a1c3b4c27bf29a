-- Laws of what a step answers.
pub mod Decided
pub mod Either
pub mod Ended
