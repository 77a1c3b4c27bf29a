-- What the contracts of a walk cite.
pub mod Pacing
pub mod Walk
