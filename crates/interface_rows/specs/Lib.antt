-- What the contracts of the rows cite.
pub mod Cases
pub mod Stack
pub mod TableN1
