-- Laws of octets and their bits, for the layers above.
pub mod BitLaws
pub mod Decided
pub mod Gathered
pub mod NumberLaws
