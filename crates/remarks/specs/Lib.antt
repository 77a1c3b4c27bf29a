-- What the contracts of the remarks cite.
pub mod Errors
