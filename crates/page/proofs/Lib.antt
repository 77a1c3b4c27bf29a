-- The laws and the proofs of this crate.
pub mod Decided
pub mod Digits
mod Rest
