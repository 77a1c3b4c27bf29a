-- Laws of choice that its functions' proofs and its callers share.
pub mod Answers
pub mod Decided
pub mod Highest
pub mod Refusals
