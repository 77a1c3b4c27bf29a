-- What is told of a refusal.
pub mod Told
