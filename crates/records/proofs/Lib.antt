-- Laws about the records.
pub mod Decided
pub mod Decoding
