-- Laws of refusals, for every layer above.
pub mod Decided
pub mod Refused
